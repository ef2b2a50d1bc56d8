-- A cell's sign and digits, and the cells of a row as a part of the sheet's. Assumes nothing.
use Rattle.std.proofs.Common.{◌≡◌, ℕ, suc, ◌+◌, ◌-◌, ◌*◌, ◌≤◌, ◌<◌, List, ◌∷◌, ◌++◌, ℤ, pos, negsuc, length, get_or, take, drop, ap, ◌∙◌, zero-add, arith, length-take, length-drop}
use native.Mathlib.Nat.{le_refl}
use lib.IntN.{nat_abs}
use mir.Syntax.{w32}
use mir.Val.{SFits}
use Rattle.std.proofs.lemmas.List.{get_or-take, get_or-drop}
use Rattle.std.specs.Fmt.{signed_decimal}
use Rattle.silk_reader.specs.Reader.{codes, newline}
use Rattle.silk_print.specs.Print.{numeral, signed_numeral, cell_text, cells_text, row_text, Put}
use Rattle.silk_print.specs.declared.Printer.{Printer}
use Rattle.silk_print.proofs.Digits.{numeral_short, decimal-numeral}
use Rattle.silk_print.proofs.Printing.{put_as, each_same}

-- ten digits hold what 32 bits do
pub size_short : (z : ℤ) → SFits w32 z → length (numeral (nat_abs z)) ≤ 10
size_short (pos n) f = numeral_short 9 n (omega (arith, f.sfits))
size_short (negsuc n) f = numeral_short 9 (suc n) (omega (arith, f.sfits))

-- the library's text of a cell
pub signed-numeral : (z : ℤ) → SFits w32 z → signed_decimal z ≡ signed_numeral z
unfolding signed_numeral
signed-numeral (pos n) f = decimal-numeral n (omega (arith, f.sfits))
signed-numeral (negsuc n) f = ap (λ (l : List ℕ). 45 ∷ l) (decimal-numeral (suc n) (omega (arith, f.sfits)))

pub signed-short : (z : ℤ) → SFits w32 z → length (signed_numeral z) ≤ 11
unfolding signed_numeral
signed-short (pos n) f = omega (arith, size_short (pos n) f)
signed-short (negsuc n) f = omega (arith, size_short (negsuc n) f)

-- a row as a part of the sheet
module _ (cells : List ℤ) (from w : ℕ) (h : from + w ≤ length cells) where
  part : List ℤ
  part = take (from + w - from) (drop from cells)

  part-length : length part ≡ w
  unfolding part
  part-length = simp (length-take, length-drop) (omega arith)

  part_at : (x : ℕ) → x < w → get_or part (0 + x) (pos 0) ≡ get_or cells (from + x) (pos 0)
  unfolding part
  part_at x k =
      ap (λ (i : ℕ). get_or part i (pos 0)) (zero-add x)
      ∙ get_or-take (from + w - from) (drop from cells) x (pos 0) (omega arith)
      ∙ get_or-drop from cells x (pos 0)

  part_text : row_text part 0 w ≡ row_text cells from w
  unfolding row_text cells_text
  part_text =
      ap (λ (l : List ℕ). codes "row=" ++ l ++ newline)
      (each_same w (λ x. cell_text x (get_or part (0 + x) (pos 0))) (λ x. cell_text x (get_or cells (from + x) (pos 0)))
      (λ (x : ℕ) (k : x < w). ap (cell_text x) (part_at x k)))

  pub row-put : {a b : Printer} → (let row = take (from + w - from) (drop from cells) in Put (5 + 12 * length row) (row_text row 0 (length row)) a b) → Put (5 + 12 * w) (row_text cells from w) a b
  unfolding part
  row-put p = put_as (rw part-length at p) part_text (le_refl _)
