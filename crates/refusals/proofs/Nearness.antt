-- A fold over the doubles of a palette that tells whether all are near 0. Assumes nothing.
use Prim.Native.Nat.{◌*◌, ◌≤◌}
use mathlib.Core.Path.{◌≡◌, refl, sym, ap, ◌∙◌}
use mathlib.Core.Bool.{Bool, true, false, not, ◌&&◌, ◌||◌}
use mathlib.Core.List.{List, [], ◌∷◌, ◌++◌}
use lib.ListN.{length, get_or, take}
use lib.Ieee.{Float, nan}
use Rattle.base.specs.Places.{any}
use Rattle.base.specs.Doubles.{decimal}
use Rattle.color.specs.Lab.{within}
use Rattle.rules.specs.Palette.{Palette, out_of_range}
use Rattle.refusals.specs.Near.{near, all_near}
use Rattle.refusals.proofs.Scans.{any_front, any_push}

module _ (reach : Float) where
  -- a double is far
  abbrev far : Float → Bool
  far x = not (near reach x)

  -- a fold over the doubles xs that looks for a far one holds b
  pub record Holds (xs : List Float) (b : Bool) : Type 0 where
    pub is : b ≡ not (any (length xs) (λ p. far (get_or xs p nan)))

  pub holds_none : Holds [] true
  unfolding any
  holds_none = record { is = refl }

  pub holds_more : (xs : List Float) (x : Float) {a b : Bool} → Holds xs a → b ≡ (near reach x && a) → Holds (xs ++ x ∷ []) b
  holds_more xs x h e =
      record { is = e ∙ ap (λ (b : Bool). near reach x && b) h.is ∙ neither (near reach x) _ ∙ ap not (sym (any_push far nan xs x)) }
    where
      neither : (y b : Bool) → (y && not b) ≡ not (not y || b)
      neither true b = refl
      neither false b = refl

  pub holds_all : (palette : Palette) {b : Bool} → 3 * palette.count ≤ length palette.lab → Holds (take (3 * palette.count) palette.lab) b → b ≡ all_near reach palette
  unfolding all_near
  holds_all palette h s = s.is ∙ ap not (any_front far nan (3 * palette.count) palette.lab h)

-- in range is near 1024
pub out_of_range_lem : (palette : Palette) → not (all_near (decimal 1024 0) palette) ≡ out_of_range palette
unfolding all_near near out_of_range within
out_of_range_lem palette = twice _
  where
    twice : (b : Bool) → not (not b) ≡ b
    twice true = refl
    twice false = refl
