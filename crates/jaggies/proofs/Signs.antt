-- The steps of a corner, as the machine holds them. Assumes nothing.
use mathlib.Core.Path.{◌≡◌, ap}
use mathlib.Core.Logic.{◌⊎◌, inl, inr}
use native.Mathlib.Omega.{arith}
use lib.IntN.{ℤ, pos, negsuc, nat_abs, neg_ℤ, ◌+ℤ◌, ◌-ℤ◌}
use mir.Syntax.{w32}
use mir.Val.{SFits, of_z, to_z}
use mir.Facts.{to_z-of_z, sfits_lit}

abbrev Sign : ℤ → Type 0
Sign z = (z ≡ negsuc 0) ⊎ (z ≡ pos 1)

-- a step as it arrives: what was worked out and read back
arrives : {z y : ℤ} → SFits w32 y → z ≡ y → to_z w32 (of_z w32 z) ≡ y
arrives f e = rw e (to_z-of_z f)

sign_fits : {z : ℤ} → Sign z → SFits w32 z
sign_fits (inl e) = rw e (sfits_lit tt)
sign_fits (inr e) = rw e (sfits_lit tt)

back_is : {z : ℤ} → Sign z → pos 0 -ℤ to_z w32 (of_z w32 z) ≡ neg_ℤ z
back_is (inl e) = rw e
back_is (inr e) = rw e

twice-is : {z : ℤ} → Sign z → to_z w32 (of_z w32 z) +ℤ to_z w32 (of_z w32 z) ≡ z +ℤ z
twice-is (inl e) = rw e
twice-is (inr e) = rw e

back_sign : {z : ℤ} → Sign z → Sign (neg_ℤ z)
back_sign (inl e) = inr (rw e)
back_sign (inr e) = inl (rw e)

twice_fits : {z : ℤ} → Sign z → SFits w32 (z +ℤ z)
twice_fits (inl e) = rw e (sfits_lit tt)
twice_fits (inr e) = rw e (sfits_lit tt)

-- one place on or one place back
sign_of : (z : ℤ) → nat_abs z ≡ 1 → Sign z
sign_of (pos n) e = inr (ap pos e)
sign_of (negsuc n) e = let z : n ≡ 0 = omega arith in inl (ap negsuc z)

module _ (z : ℤ) (u : nat_abs z ≡ 1) where
  pub on : to_z w32 (of_z w32 z) ≡ z
  on = to_z-of_z (sign_fits (sign_of z u))

  pub back : to_z w32 (of_z w32 (pos 0 -ℤ to_z w32 (of_z w32 z))) ≡ neg_ℤ z
  back = arrives (sign_fits (back_sign (sign_of z u))) (back_is (sign_of z u))

  pub twice : to_z w32 (of_z w32 (to_z w32 (of_z w32 z) +ℤ to_z w32 (of_z w32 z))) ≡ z +ℤ z
  twice = arrives (twice_fits (sign_of z u)) (twice-is (sign_of z u))
