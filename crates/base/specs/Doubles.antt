-- Sums, differences, products and quotients of doubles, each rounded once, and decimal numbers as doubles. Definitions only. Assumes nothing.
use Rattle.std.specs.Prelude.{ℕ, ◌^◌, false, Float}
use Rattle.std.specs.Float.{binary64}
use Rattle.std.specs.Float.Ieee.{round, add, sub, mul, div}

infixl 65 ◌⊕◌ ◌⊖◌
infixl 70 ◌⊗◌ ◌⊘◌
abbrev pub ◌⊕◌ : Float → Float → Float
x ⊕ y = add binary64 x y

abbrev pub ◌⊖◌ : Float → Float → Float
x ⊖ y = sub binary64 x y

abbrev pub ◌⊗◌ : Float → Float → Float
x ⊗ y = mul binary64 x y

abbrev pub ◌⊘◌ : Float → Float → Float
x ⊘ y = div binary64 x y

-- the double nearest to the number with the digits n, k of them after the point: 7.787 is `decimal 7787 3`
unfoldable pub decimal : ℕ → ℕ → Float
decimal n k = round binary64 false n (10 ^ k)
