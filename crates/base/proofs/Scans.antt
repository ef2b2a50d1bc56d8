-- A loop that looks for a place that passes a test, and finds none so far. Assumes nothing.
use Prim.Native.Nat.{ℕ, ◌+◌, ◌≤◌, ◌<◌}
use mathlib.Core.Path.{◌≡◌, refl, ap, ◌∙◌}
use mathlib.Core.Bool.{Bool, false}
use native.Mathlib.Numerals.{add-one}
use native.Mathlib.Omega.{arith}
use Rattle.base.specs.Places.{any}

-- of the n places those below i do not pass
pub record Clear (n : ℕ) (t : ℕ → Bool) (i : ℕ) : Type 0 where
  pub inside : i ≤ n
  pub none : any i t ≡ false

pub clear_none : (n : ℕ) (t : ℕ → Bool) → Clear n t 0
unfolding any
clear_none n t = record { inside = omega arith; none = refl }

pub clear_more : {n : ℕ} {t : ℕ → Bool} {i : ℕ} → Clear n t i → i < n → t i ≡ false → Clear n t (i + 1)
unfolding any
clear_more {n} {t} {i} s h z = record { inside = omega arith; none = rw (add-one i) (rw z s.none) }

pub clear_all : {n : ℕ} {t : ℕ → Bool} {i : ℕ} → Clear n t i → n ≤ i → any n t ≡ false
clear_all {n} {t} {i} s h = let e : n ≡ i = omega arith in ap (λ (k : ℕ). any k t) e ∙ s.none
