-- A number of the stream as a byte, a word, a cell or a double, the bits of these, and whether an element of a list agrees with a number. Definitions only. Assumes nothing.
use Rattle.std.specs.Prelude.{ℕ, ◌%◌, ◌^◌, Bool, List, ℤ, ◌==◌, from_bits, slice_index_or, to_bits, Float}
use Rattle.std.specs.Float.{binary64}
use Rattle.std.specs.Int.{w32}
use Rattle.std.proofs.Common.{of_z, to_z}

-- the lowest 8 bits
abbrev pub as_byte : ℕ → ℕ
as_byte n = n % 2 ^ 8

-- the lowest 32 bits
abbrev pub as_word : ℕ → ℕ
as_word n = n % 2 ^ 32

-- the signed number that the lowest 32 bits are in two's complement
abbrev pub as_cell : ℕ → ℤ
as_cell n = to_z w32 (n % 2 ^ 32)

-- the double that has these bits
abbrev pub as_double : ℕ → Float
as_double n = from_bits binary64 n

-- the bits of a cell
abbrev pub cell_bits : ℤ → ℕ
cell_bits z = of_z w32 z

-- the bits of a double, so that the zeros differ; those of every NaN are the same
abbrev pub double_bits : Float → ℕ
double_bits x = to_bits binary64 x

-- whether the element i of a list has the bits of the one that a number stands for
abbrev pub same_at : {A : Type 0} → (ℕ → A) → (A → ℕ) → List A → ℕ → ℕ → Bool
same_at read bits list i n = bits (slice_index_or list i (read 0)) == bits (read n)
