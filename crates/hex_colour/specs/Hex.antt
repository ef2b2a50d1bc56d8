-- Colours written as six hex digits. Definitions only. Assumes nothing.
use Rattle.std.specs.Prelude.{ℕ, ◌+◌, ◌-◌, ◌*◌, ◌≡◌, Bool, not, ◌&&◌, ◌||◌, cond, List, [], ◌∷◌, reverse, leb, eqb, length, get_or, Option, Some, None, Result}
use Rattle.std.specs.Fn.{Shared}
use Rattle.std.specs.Option.{ok_or}
use Rattle.base.specs.declared.Refusal.{Refusal}
use Rattle.base.specs.declared.Refusal.TheVariants.{NotHex}
use Rattle.base.specs.Places.{any}
use Rattle.color.specs.declared.Rgb8.{Rgb8}

-- a to b, both among them
unfoldable pub in_range : ℕ → ℕ → ℕ → Bool
in_range a b c = leb a c && leb c b

-- white space: one of the codes 9 to 13, or a space
unfoldable pub space : ℕ → Bool
space c = in_range 9 13 c || eqb c 32

-- `#`
unfoldable pub mark : ℕ → Bool
mark c = eqb c 35

-- what is left once the leading elements that pass the test are dropped
unfoldable pub drop_while : (ℕ → Bool) → List ℕ → List ℕ
drop_while t [] = []
drop_while t (c ∷ cs) = cond (t c) (drop_while t cs) (c ∷ cs)

-- each call of f answers what the test t does
abbrev pub Computes : {F : Type 0} → Shared F (ℕ × Unit {0}) Bool → (ℕ → Bool) → F → Type 0
Computes g t f = (c : ℕ) (r : Bool) → g.post f (c, tt) r → r ≡ t c

-- without the white space at both ends
unfoldable pub stripped : List ℕ → List ℕ
stripped text = reverse (drop_while space (reverse (drop_while space text)))

-- the value of a hex digit: 0 to 9, a to f or A to F; 16 for any other code
unfoldable pub digit : ℕ → ℕ
digit c =
    cond (in_range 48 57 c) (c - 48)
    (cond (in_range 97 102 c) (c - 97 + 10)
    (cond (in_range 65 70 c) (c - 65 + 10) 16))

-- whether a text has hex digits alone
unfoldable pub all_digits : List ℕ → Bool
all_digits text = not (any (length text) (λ i. eqb (digit (get_or text i 0)) 16))

-- the number that the digits at i and i + 1 write
unfoldable pub pair : List ℕ → ℕ → ℕ
pair text i = digit (get_or text i 0) * 16 + digit (get_or text (i + 1) 0)

-- six digits make a colour
unfoldable pub six_digits : List ℕ → Option Rgb8
six_digits text =
    cond (eqb (length text) 6 && all_digits text) (Some (record { r = pair text 0; g = pair text 2; b = pair text 4 })) None

-- the colour that a text names, with white space at both ends and then leading `#` dropped; any other text is refused by row 9
unfoldable pub hex_to_rgb8 : List ℕ → Result Rgb8 Refusal
hex_to_rgb8 text = ok_or (six_digits (drop_while mark (stripped text))) NotHex
