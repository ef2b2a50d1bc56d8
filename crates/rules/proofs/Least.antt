-- The first of the least values among those that may be chosen. Assumes nothing.
use Prim.Native.Nat.{ℕ, zero, suc, ◌≤◌, ◌<◌}
use mathlib.Core.Path.{◌≡◌, sym, ap, ◌∙◌}
use mathlib.Core.Bool.{Bool, true, false, cond}
use Rattle.std.specs.Prelude.{Option, None, Some}
use native.Mathlib.Nat.{le_step, lt-suc_self, not-suc-le-zero}
use native.Mathlib.Decide.{ℕ_discrete}
use native.Mathlib.Omega.{arith}
use lib.Ieee.{Float, lt}
use Rattle.base.proofs.Counting.{case}
use Rattle.rules.specs.Palette.{first_least}

module _ (may : ℕ → Bool) (v : ℕ → Float) where
  -- one more value
  pub least_skip : (i : ℕ) → may i ≡ false → first_least may v (suc i) ≡ first_least may v i
  unfolding first_least
  least_skip i z = rw z

  -- what is chosen may be chosen
  pub least_some : (k b : ℕ) → first_least may v k ≡ Some b → (b < k) × (may b ≡ true)
  unfolding first_least
  least_some zero b e = let z : ◌≡◌ {A = ℕ} 0 1 = cc in absurd (omega arith)
  least_some (suc i) b e =
      case (may i)
      (λ y. pick y (first_least may v i) (λ c. least_some i c) (rw y at e))
      (λ z. let w = least_some i b (rw z at e) in (le_step w.0, w.1))
    where
      this : {m : ℕ} → may i ≡ true → Some i ≡ Some m → (m < suc i) × (may m ≡ true)
      this {m} y r = let j : i ≡ m = cc in (rw (← j) (lt-suc_self i), rw j at y)

      pick : may i ≡ true → (o : Option ℕ) → ((c : ℕ) → o ≡ Some c → (c < i) × (may c ≡ true)) → elim o [ None ↦ Some i | Some c ↦ Some (cond (lt (v i) (v c)) i c) ] ≡ Some b →
          (b < suc i) × (may b ≡ true)
      pick y None f q = this y q
      pick y (Some c) f q = case (lt (v i) (v c)) (λ l. this y (rw l at q)) (λ l. let w = f b (rw l at q) in (le_step w.0, w.1))

  -- where none is chosen, none may be
  pub least_none : (k : ℕ) → first_least may v k ≡ None → (c : ℕ) → c < k → may c ≡ false
  unfolding first_least
  least_none zero e c h = absurd (not-suc-le-zero h)
  least_none (suc i) e c h =
      case (may i)
      (λ y. absurd (taken (first_least may v i) (rw y at e)))
      (λ z. elim (ℕ_discrete c i) [ yes u ↦ ap may u ∙ z | no d ↦ least_none i (rw z at e) c (omega arith) ])
    where
      taken : (o : Option ℕ) → ◌≡◌ {A = Option ℕ} (elim o [ None ↦ Some i | Some b ↦ Some (cond (lt (v i) (v b)) i b) ]) None → ⊥
      taken None q = let z : ◌≡◌ {A = ℕ} 0 1 = cc in omega arith
      taken (Some b) q = let z : ◌≡◌ {A = ℕ} 0 1 = cc in omega arith

  -- values that may not be chosen change nothing
  pub least_past : (m k : ℕ) → m ≤ k → ((c : ℕ) → m ≤ c → c < k → may c ≡ false) → first_least may v k ≡ first_least may v m
  least_past m zero h f = ap (first_least may v) (let e : m ≡ 0 = omega arith in sym e)
  least_past m (suc k) h f =
      elim (ℕ_discrete m (suc k)) [
        | yes e ↦ ap (first_least may v) (sym e)
        | no d ↦ (let l : m ≤ k = omega arith in least_skip k (f k l (lt-suc_self k)) ∙ least_past m k l (λ c a b. f c a (le_step b)))
      ]
