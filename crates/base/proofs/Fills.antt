-- Laws of lists that are filled from the front: how a loop fills one, and that its elements settle it. Assumes nothing.
use Prim.Native.Nat.{ℕ, ◌+◌, ◌-◌, ◌≤◌, ◌<◌}
use mathlib.Core.Path.{◌≡◌, refl, sym, ap, ◌∙◌}
use mathlib.Core.List.{List, ◌++◌}
use native.Mathlib.Decide.{dec_lt}
use native.Mathlib.Omega.{arith}
use lib.ListN.{length, get_or, set, drop, length-append, length-drop, length-set, get_or-append}
use lib.Seq.{get_or-append-add, get_or-drop, ext_get_or, get_or-set_same, get_or-set_other}
use Rattle.base.specs.Places.{table_from, table}
use Rattle.base.specs.Outputs.{filled}
use Rattle.base.proofs.Counting.{table_at, table-length}

module _ {A : Type 0} where
  pub filled_at : (n : ℕ) (f : ℕ → A) (l : List A) (d : A) (p : ℕ) → p < n → get_or (filled n f l) p d ≡ f p
  unfolding filled
  filled_at n f l d p h =
      let k : p < length (table n f) = rw (table-length n f) h in
      get_or-append (table n f) (drop n l) d p k ∙ table_at n f d p h

  pub filled_past : (n : ℕ) (f : ℕ → A) (l : List A) (d : A) (p : ℕ) → n ≤ p → get_or (filled n f l) p d ≡ get_or l p d
  unfolding filled
  filled_past n f l d p h =
      let e : length (table n f) + (p - n) ≡ p = omega (arith, table-length n f) in
      let g : n + (p - n) ≡ p = omega arith in
      ap (λ (q : ℕ). get_or (table n f ++ drop n l) q d) (sym e)
      ∙ get_or-append-add (table n f) (drop n l) (p - n) d
      ∙ get_or-drop n l (p - n) d
      ∙ ap (λ (q : ℕ). get_or l q d) g

  pub filled-length : (n : ℕ) (f : ℕ → A) (l : List A) → n ≤ length l → length (filled n f l) ≡ length l
  unfolding filled
  filled-length n f l h = length-append (table n f) (drop n l) ∙ omega (arith, table-length n f, length-drop n l)

  -- a list of the same length with f below n and the old elements past it is the filled one
  pub filled_is : (n : ℕ) (f : ℕ → A) (l m : List A) (d : A) → n ≤ length l → length m ≡ length l →
      ((p : ℕ) → p < n → get_or m p d ≡ f p) → ((p : ℕ) → n ≤ p → get_or m p d ≡ get_or l p d) → m ≡ filled n f l
  filled_is n f l m d h e below past = ext_get_or d m (filled n f l) (e ∙ sym (filled-length n f l h)) (λ p k. at p (dec_lt p n))
    where
      at : (p : ℕ) → Dec (p < n) → get_or m p d ≡ get_or (filled n f l) p d
      at p (yes y) = below p y ∙ sym (filled_at n f l d p y)
      at p (no z) = past p (omega arith) ∙ sym (filled_past n f l d p (omega arith))

  -- nothing filled yet
  pub filled_none : (f : ℕ → A) (l : List A) → l ≡ filled 0 f l
  unfolding filled table table_from
  filled_none f l = refl

  -- one more
  pub filled_more : (n : ℕ) (f : ℕ → A) (l : List A) (x : A) → n < length l → x ≡ f n → set (filled n f l) n x ≡ filled (n + 1) f l
  filled_more n f l x h e =
      filled_is (n + 1) f l (set (filled n f l) n x) x (omega arith) (simp length-set (filled-length n f l (omega arith)))
      (λ p k. low p k (dec_lt p n))
      (λ p k. get_or-set_other (filled n f l) n p x x (λ z. absurd (omega arith)) ∙ filled_past n f l x p (omega arith))
    where
      low : (p : ℕ) → p < n + 1 → Dec (p < n) → get_or (set (filled n f l) n x) p x ≡ f p
      low p k (yes y) = get_or-set_other (filled n f l) n p x x (λ z. absurd (omega arith)) ∙ filled_at n f l x p y
      low p k (no z) =
          let q : p ≡ n = omega arith in
          let len : n < length (filled n f l) = omega (arith, filled-length n f l (omega arith)) in
          ap (λ (i : ℕ). get_or (set (filled n f l) n x) i x) q ∙ get_or-set_same (filled n f l) n x x len ∙ e ∙ ap f (sym q)
