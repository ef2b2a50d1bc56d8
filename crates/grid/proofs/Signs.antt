-- What signed numbers of the machine tell: it compares what it reads back from bits. Assumes nothing.
use Prim.Native.Nat.{ℕ, suc, ◌≤◌, ◌<◌}
use mathlib.Core.Path.{◌≡◌, refl, ap, ◌∙◌}
use mathlib.Core.Bool.{true, false, true≢false}
use native.Mathlib.Omega.{arith}
use borrow.Author.Tests.{lt-ltb, le-ltb}
use lib.Dec.{T, ltb, lit<}
use lib.IntN.{ℤ, pos, negsuc, nat_abs, ◌+ℤ◌}
use lib.Signed.{mag, lt_z, le_z, non_neg}
use mir.Syntax.{w32}
use mir.Val.{SFits, of_z, to_z}
use mir.Facts.{to_z-of_z, to_z_pos, sfits_lit}
use Rattle.base.proofs.Counting.{case, clash, leb_yes, to_T}
use Rattle.rules.specs.Grid.{on_side}
use Rattle.std.specs.Prelude.{None, Some}
use Rattle.grid.specs.Steps.{Single}
use Rattle.grid.specs.Planes.{paint_of}

-- a step of at most two places from a place of a side of at most 514
pub record Short (a : ℕ) (d : ℤ) : Type 0 where
  pub from : a < 514
  pub low : le_z (negsuc 1) d ≡ true
  pub high : le_z d (pos 2) ≡ true

short_mag : (a : ℕ) (d : ℤ) → Short a d → mag (pos a +ℤ d) < 516
short_mag a (pos k) s = omega (arith, s.from, leb_yes {m = k} {n = 2} s.high)
short_mag a (negsuc k) s =
    let l : k ≤ 1 = leb_yes s.low in
    case (ltb a (suc k)) (λ y. rw y (omega (arith, s.from))) (λ z. rw z (omega (arith, s.from)))

small : (z : ℤ) → mag z < 516 → SFits w32 z
small z h = sfits_lit {w = w32} {z = z} (to_T (lt-ltb (mag z) 2147483648 (omega arith)))

pub short_fits : (a : ℕ) (d : ℤ) → Short a d → SFits w32 (pos a +ℤ d)
short_fits a d s = small (pos a +ℤ d) (short_mag a d s)

-- the machine's sum is the sum
pub sum_is : (a : ℕ) (d : ℤ) → SFits w32 d → Short a d → to_z w32 a +ℤ to_z w32 (of_z w32 d) ≡ pos a +ℤ d
sum_is a d f s = ap (λ (x : ℤ). to_z w32 a +ℤ x) (to_z-of_z f) ∙ ap (λ (x : ℤ). x +ℤ d) (to_z_pos w32 (omega (arith, s.from)))

pub sum_back : (a : ℕ) (d : ℤ) → SFits w32 d → Short a d → to_z w32 (of_z w32 (to_z w32 a +ℤ to_z w32 (of_z w32 d))) ≡ pos a +ℤ d
sum_back a d f s = ap (λ (x : ℤ). to_z w32 (of_z w32 x)) (sum_is a d f s) ∙ to_z-of_z (short_fits a d s)

-- ---- a single step, and one more than it

-- it is handed over as it is
pub single_is : {d : ℤ} → Single d → to_z w32 (of_z w32 d) ≡ d
single_is Single.back = refl
single_is Single.stay = refl
single_is Single.on = refl

pub single_fits : {d : ℤ} → Single d → SFits w32 (d +ℤ pos 1)
single_fits Single.back = small (pos 0) (lit< tt)
single_fits Single.stay = small (pos 1) (lit< tt)
single_fits Single.on = small (pos 2) (lit< tt)

pub single-on : {d : ℤ} → Single d → T (non_neg (d +ℤ pos 1))
single-on Single.back = tt
single-on Single.stay = tt
single-on Single.on = tt

pub single_past : {d : ℤ} → Single d → pos (nat_abs (d +ℤ pos 1)) ≡ d +ℤ pos 1
single_past Single.back = refl
single_past Single.stay = refl
single_past Single.on = refl

-- ---- the three ways through `along`, z being where the step leads

pub before_all : (len : ℕ) (z : ℤ) → lt_z z (pos 0) ≡ true → None ≡ on_side len z
unfolding on_side
before_all len (pos i) t = clash t (le-ltb i 0 (omega arith))
before_all len (negsuc i) t = refl

pub not_before : (z : ℤ) → lt_z z (pos 0) ≡ false → non_neg z ≡ true
not_before (pos i) t = refl
not_before (negsuc i) t = absurd (true≢false t)

pub within : (len : ℕ) (z : ℤ) → lt_z z (pos 0) ≡ false → nat_abs z < len → Some (nat_abs z) ≡ on_side len z
unfolding on_side
within len (pos i) t l = rw (lt-ltb i len l)
within len (negsuc i) t l = absurd (true≢false t)

pub after_all : (len : ℕ) (z : ℤ) → lt_z z (pos 0) ≡ false → len ≤ nat_abs z → None ≡ on_side len z
unfolding on_side
after_all len (pos i) t l = rw (le-ltb i len l)
after_all len (negsuc i) t l = absurd (true≢false t)

-- ---- paint

pub paint_most : (z : ℤ) → SFits w32 z → paint_of z ≤ 2147483648
unfolding paint_of
paint_most (pos i) f = let l : i < 2147483648 = f.sfits in omega arith
paint_most (negsuc i) f = omega arith
