-- The window law: a count grows between two numbers exactly if some place between them passes. Assumes nothing.
use Prim.Native.Nat.{ℕ, zero, suc, ◌+◌, ◌-◌, ◌≤◌, ◌<◌, min}
use mathlib.Core.Path.{◌≡◌}
use mathlib.Core.Bool.{Bool, true, ◌&&◌}
use native.Mathlib.Nat.{le_refl, zero-add, not-suc-le-zero, lt-suc_self, le_step, min-le_left, min-le_right, le-min}
use native.Mathlib.Decide.{dec_le}
use native.Mathlib.Omega.{arith}
use borrow.Author.Tests.{ltb-true, lt-ltb}
use lib.Dec.{leb, ltb}
use Rattle.base.specs.Places.{any, count}
use Rattle.base.proofs.Counting.{case, both, left, right, leb_yes, yes_leb, any_yes, yes_any, same_test}
use Rattle.rules.specs.Grid.{close}

count_up : (t : ℕ → Bool) (a b : ℕ) → a ≤ b → count a t ≤ count b t
unfolding count
count_up t a zero h = let e : a ≡ 0 = omega arith in rw e (le_refl 0)
count_up t a (suc b) h =
    elim (dec_le a b) [
      | yes y ↦ (let r = count_up t a b y in omega arith)
      | no z ↦ (let e : a ≡ suc b = omega arith in rw e (le_refl (count (suc b) t)))
    ]

grown : (t : ℕ → Bool) (lo hi j : ℕ) → lo ≤ j → j < hi → t j ≡ true → count lo t < count hi t
unfolding count
grown t lo hi j l u y =
    let a = count_up t lo j l in
    let b = count_up t (suc j) hi u in
    let c : count (suc j) t ≡ 1 + count j t = rw y in
    omega arith

found : (t : ℕ → Bool) (lo hi : ℕ) → count lo t < count hi t → (j : ℕ) × (lo ≤ j) × (j < hi) × (t j ≡ true)
unfolding count
found t lo zero h = absurd (not-suc-le-zero h)
found t lo (suc hi) h =
    case (t hi)
    (λ y. elim (dec_le lo hi) [
      | yes l ↦ (hi, l, lt-suc_self hi, y)
      | no z ↦ (let r = count_up t (suc hi) lo (omega arith) in absurd (omega arith))
    ])
    (λ z. let e : 0 + count hi t ≡ count hi t = zero-add (count hi t) in
    let r = found t lo hi (rw (z, e) at h) in (r.0, r.1, le_step r.2, r.3))

-- the window of k about i, cut to the line's ends
pub window_law : (t : ℕ → Bool) (size k i : ℕ) →
    ltb (count (i - k) t) (count (min (i + k + 1) size) t) ≡ any size (λ j. t j && close k i j)
unfolding close
window_law t size k i =
    same_test
    (λ y. let r = found t (i - k) (min (i + k + 1) size) (ltb-true (count (i - k) t) (count (min (i + k + 1) size) t) y) in
    let a = min-le_left (i + k + 1) size in
    let b = min-le_right (i + k + 1) size in
    yes_any size (λ j. t j && close k i j) r.0 (omega arith)
    (both r.3 (both (yes_leb {m = i} {n = r.0 + k} (omega arith)) (yes_leb {m = r.0} {n = i + k} (omega arith)))))
    (λ y. let r = any_yes size (λ j. t j && close k i j) y in
    let c = right (t r.0) (close k i r.0) r.2 in
    let lo : i ≤ r.0 + k = leb_yes (left (leb i (r.0 + k)) (leb r.0 (i + k)) c) in
    let hi : r.0 ≤ i + k = leb_yes (right (leb i (r.0 + k)) (leb r.0 (i + k)) c) in
    let u : r.0 < min (i + k + 1) size = le-min (omega arith) r.1 in
    lt-ltb (count (i - k) t) (count (min (i + k + 1) size) t)
    (grown t (i - k) (min (i + k + 1) size) r.0 (omega arith) u (left (t r.0) (close k i r.0) r.2)))
