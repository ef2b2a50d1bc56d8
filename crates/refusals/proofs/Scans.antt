-- Whether a place passes a test: of the front of a list, with one more element, and in a loop up to the first that does. Assumes nothing.
use Prim.Native.Nat.{ℕ, ◌+◌, ◌≤◌}
use mathlib.Core.Path.{◌≡◌, refl, ap, ◌∙◌}
use mathlib.Core.Bool.{Bool, false, ◌||◌}
use mathlib.Core.List.{List, [], ◌∷◌, ◌++◌}
use native.Mathlib.Numerals.{add-one}
use lib.ListN.{length, get_or, take}
use Rattle.std.proofs.lemmas.List.{length-take-le, get_or-take, get_or_append_left, length_push, get_or_push}
use Rattle.base.specs.Places.{any}
use Rattle.base.proofs.Counting.{any_same}

module _ {A : Type 0} (t : A → Bool) (d : A) where
  -- the front of a list reads as the list
  pub any_front : (n : ℕ) (xs : List A) → n ≤ length xs → any (length (take n xs)) (λ p. t (get_or (take n xs) p d)) ≡ any n (λ p. t (get_or xs p d))
  any_front n xs h =
      ap (λ (m : ℕ). any m (λ p. t (get_or (take n xs) p d))) (length-take-le n xs h)
      ∙ any_same n _ _ (λ p l. ap t (get_or-take n xs p d l))

  -- one more element passes, or one before it does
  pub any_push : (xs : List A) (x : A) → any (length (xs ++ x ∷ [])) (λ p. t (get_or (xs ++ x ∷ []) p d)) ≡ (t x || any (length xs) (λ p. t (get_or xs p d)))
  unfolding any
  any_push xs x =
      ap (λ (m : ℕ). any m (λ p. t (get_or (xs ++ x ∷ []) p d))) (length_push xs x ∙ add-one (length xs))
      ∙ ap (λ (y : A). t y || any (length xs) (λ p. t (get_or (xs ++ x ∷ []) p d))) (get_or_push xs x d (length xs) cc)
      ∙ ap (λ (b : Bool). t x || b) (any_same (length xs) _ _ (λ p l. ap t (get_or_append_left xs (x ∷ []) d p l)))

-- ---- a loop up to the first

-- no place was looked at
pub none_yet : (t : ℕ → Bool) → any 0 t ≡ false
unfolding any
none_yet t = refl

-- one more place does not pass
pub none_more : (n : ℕ) (t : ℕ → Bool) → any n t ≡ false → t n ≡ false → any (n + 1) t ≡ false
unfolding any
none_more n t e z = rw (add-one, z) e
