-- The library's square root, IEEE 754's `sqrt`, is `sqrt_of`: it rounds a number next to the root, and no halfway point lies between the two. Assumes nothing.
use mathlib.Core.Path.{◌≡◌, refl, sym, ap, ◌∙◌, subst}
use mathlib.Core.Bool.{Bool, true, false, cond}
use Prim.Native.Nat.{ℕ, zero, suc, ◌+◌, ◌*◌, ◌/◌, ◌^◌, ◌≤◌, ◌<◌}
use native.Mathlib.Nat.{le_of_eq, add_comm, lt_of_le_of_lt, lt_of_lt_of_le, lt_trans, lt_of_not-le, not-le_of_lt, mul-le-mul, mul-pos, mul-div_cancel, eq_of_mul-eq-mul_right, zero-lt-suc}
use native.Mathlib.Omega.{arith}
use lib.IntN.{ℤ, pos}
use lib.Dec.{T, eqb, eqb→eq, eqb-suc-zero, lit<, lit≤}
use lib.Pow.{pow_pos}
use borrow.Author.Tests.{eqb-true}
use lib.Ieee.{Float, nan, inf, fin, binary64, up, down, fits, to_bits, lt, size, root_below, root_twice, round, sqrt}
use lib.Ieee.Exact.{HasValue}
use lib.Ieee.Fits.{round-fits}
use lib.Ieee.Positive.{num, den, den_pos, value→cross}
use lib.Ieee.Root.{whole_part}
use lib.Ieee.Scale.{round_val}
use Rattle.roots.specs.Root.{Double, NearestRoot, mid_num, mid_den}
use Rattle.roots.specs.Units.{limit, mag, mag_f}
use Rattle.roots.specs.Computed.{sqrt_of}
use Rattle.roots.proofs.Units.{mag_lt, pattern_lt, value_of, sign_of}
use Rattle.roots.proofs.Fraction.{power_lt, power_gt, mean}
use Rattle.roots.proofs.Nearby.{lt→pattern}
use Rattle.roots.proofs.Unique.{one_of}
use Rattle.roots.proofs.Computed.{sqrt_is}
use Rattle.roots.proofs.Exists.{sqrt_nearest}
use Rattle.roots.proofs.Rounding.{nearest-same, of_zero}
use Rattle.roots.proofs.Square.{square}
use Rattle.roots.proofs.Signs.{double, zero_place}
use Rattle.roots.proofs.Closest.{rounded_to, nearest_up, nearest_down, rounded-le}

-- ---- twice the root of N, with 1 more where it is not whole
root_lt : (x y : ℕ) → x * x < y * y → x < y
root_lt x y h = lt_of_not-le (λ (g : y ≤ x). not-le_of_lt h (mul-le-mul g g))

module _ (N K : ℕ) where
  twice_above : K * K < N → 2 * K < root_twice N
  unfolding root_twice
  twice_above h = let w = whole_part N in go (root_below (size N) N) w.0 w.1 (eqb (root_below (size N) N * root_below (size N) N) N) (eqb→eq _ N)
    where
      go : (r : ℕ) → r * r ≤ N → N < (r + 1) * (r + 1) → (b : Bool) → (T b → r * r ≡ N) → 2 * K < 2 * r + cond b 0 1
      go r p q true e = let l : K < r = root_lt K r (omega (arith, e tt)) in omega arith
      go r p q false e = let l : K < r + 1 = root_lt K (r + 1) (lt_trans h q) in omega arith

  twice_below : N < K * K → root_twice N < 2 * K
  unfolding root_twice
  twice_below h = let w = whole_part N in go (root_below (size N) N) w.0 (eqb (root_below (size N) N * root_below (size N) N) N)
    where
      go : (r : ℕ) → r * r ≤ N → (b : Bool) → 2 * r + cond b 0 1 < 2 * K
      go r p true = let l : r < K = root_lt r K (lt_of_le_of_lt p h) in omega arith
      go r p false = let l : r < K = root_lt r K (lt_of_le_of_lt p h) in omega arith

-- ---- a double that is not negative
mag_limit : mag limit ≡ 2 ^ 2098
unfolding mag mag_f
mag_limit = refl

mag_is : (y : Float) (g : ℕ) → Double y → HasValue y false g (2 ^ 1074) → mag (to_bits binary64 y) ≡ g
mag_is y g d h = eq_of_mul-eq-mul_right (den y) (den_pos y) _ _ (sym (value→cross y (mag (to_bits binary64 y)) (2 ^ 1074) (value_of y d)) ∙ value→cross y g (2 ^ 1074) h)

-- ---- M, twice a halfway point in units of 2 ^ -1074, against the root of B units and against R / 2 ^ 1198 units
halfway_less : (M B : ℕ) → M ^ 2 * 2 ^ 1074 < B * (2 * 2 ^ 1074) ^ 2 → M * 2 ^ 1196 * (M * 2 ^ 1196) < B * 2 ^ 3468
halfway_less M B h = omega (arith, square M, square (2 * 2 ^ 1074))

halfway_more : (M B : ℕ) → B * (2 * 2 ^ 1074) ^ 2 < M ^ 2 * 2 ^ 1074 → B * 2 ^ 3468 < M * 2 ^ 1196 * (M * 2 ^ 1196)
halfway_more M B h = omega (arith, square M, square (2 * 2 ^ 1074))

not_up : (M R : ℕ) → 2 * (M * 2 ^ 1196) < R → 2 * (R * 2 ^ 1074) ≤ M * 2 ^ 2272 → ⊥
not_up M R h l = omega arith

not_down : (M R : ℕ) → R < 2 * (M * 2 ^ 1196) → M * 2 ^ 2272 ≤ 2 * (R * 2 ^ 1074) → ⊥
not_down M R h l = omega arith

module _ (x : Float) (d : Double x) where
  abbrev B : ℕ
  B = mag (to_bits binary64 x)

  abbrev N : ℕ
  N = num x * 2 ^ 4542 / den x

  abbrev R : ℕ
  R = root_twice N

  abbrev y : Float
  y = round binary64 false R (2 ^ 2272)

  abbrev s : Float
  s = sqrt_of x

  cross : num x * 2 ^ 1074 ≡ B * den x
  cross = value→cross x B (2 ^ 1074) (value_of x d)

  -- the root's square, in places of 2 ^ -2271
  N_is : N ≡ B * 2 ^ 3468
  N_is =
      let e : num x * 2 ^ 4542 ≡ B * 2 ^ 3468 * den x = omega (arith, cross) in
      ap (λ (z : ℕ). z / den x) e ∙ mul-div_cancel (B * 2 ^ 3468) (den_pos x)

  R_lt : R < 2 ^ 2784
  R_lt =
      let b : B < 2 ^ 2098 = lt_of_lt_of_le (mag_lt (to_bits binary64 x) limit (pattern_lt x d)) (le_of_eq mag_limit) in
      let k : N < 2 ^ 2783 * 2 ^ 2783 = omega (arith, N_is) in
      lt_of_lt_of_le (twice_below N (2 ^ 2783) k) (lit≤ tt)

  abbrev g : ℕ
  g = rounded_to (R * 2 ^ 1074) (2 ^ 2272) (pow_pos 2272)

  g_lt : g < 2 ^ 2098
  g_lt = lt_of_le_of_lt (rounded-le (R * 2 ^ 1074) (2 ^ 2272) (pow_pos 2272) 1533 (omega (arith, R_lt))) (lit< tt)

  y_value : HasValue y false g (2 ^ 1074)
  y_value = round_val binary64 R (2 ^ 2272) g_lt

  y_double : Double y
  y_double = record { representable = round-fits binary64 false R (2 ^ 2272); sign = sign_of y _ _ y_value }

  y_mag : mag (to_bits binary64 y) ≡ g
  y_mag = mag_is y g y_double y_value

  s_nearest : NearestRoot 2 B (2 ^ 1074) s
  s_nearest = nearest-same 2 (num x) (den x) B (2 ^ 1074) s cross (pow_pos 1074) (sqrt_nearest x d)

  abbrev Z : ℕ
  Z = mag (to_bits binary64 s)

  halfway : (g + Z) * mid_den s y ≡ mid_num s y * (2 * 2 ^ 1074)
  halfway =
      ap (λ (z : ℕ). z * mid_den s y) (add_comm g Z ∙ ap (λ (z : ℕ). Z + z) (sym y_mag))
      ∙ sym (mean (2 ^ 1074) (num s) (den s) Z (num y) (den y) (mag (to_bits binary64 y)) (value→cross s Z (2 ^ 1074) (value_of s s_nearest.double)) (value→cross y (mag (to_bits binary64 y)) (2 ^ 1074) (value_of y y_double)))

  two_pos : 0 < 2 * 2 ^ 1074
  two_pos = mul-pos (zero-lt-suc 1) (pow_pos 1074)

  not_below : T (lt y s) → ⊥
  not_below l =
      let m : mag (to_bits binary64 y) < Z = mag_lt _ _ (lt→pattern (to_bits binary64 y) (to_bits binary64 s) y s (value_of y y_double) (value_of s s_nearest.double) l) in
      let n : 2 * (R * 2 ^ 1074) ≤ (g + Z) * 2 ^ 2272 = nearest_up (R * 2 ^ 1074) (2 ^ 2272) (pow_pos 2272) (to_bits binary64 s) (subst (λ (z : ℕ). z < Z) y_mag m) in
      let h : (g + Z) ^ 2 * 2 ^ 1074 < B * (2 * 2 ^ 1074) ^ 2 = power_lt 2 (g + Z) (2 * 2 ^ 1074) (mid_num s y) (mid_den s y) B (2 ^ 1074) halfway two_pos (s_nearest.smaller y y_double l) in
      not_up (g + Z) R (twice_above N ((g + Z) * 2 ^ 1196) (lt_of_lt_of_le (halfway_less (g + Z) B h) (le_of_eq (sym N_is)))) n

  not_above : T (lt s y) → ⊥
  not_above l =
      let m : Z < mag (to_bits binary64 y) = mag_lt _ _ (lt→pattern (to_bits binary64 s) (to_bits binary64 y) s y (value_of s s_nearest.double) (value_of y y_double) l) in
      let n : (g + Z) * 2 ^ 2272 ≤ 2 * (R * 2 ^ 1074) = nearest_down (R * 2 ^ 1074) (2 ^ 2272) (pow_pos 2272) (to_bits binary64 s) (subst (λ (z : ℕ). Z < z) y_mag m) in
      let h : B * (2 * 2 ^ 1074) ^ 2 < (g + Z) ^ 2 * 2 ^ 1074 = power_gt 2 (g + Z) (2 * 2 ^ 1074) (mid_num s y) (mid_den s y) B (2 ^ 1074) halfway two_pos (s_nearest.larger y y_double l) in
      not_down (g + Z) R (twice_below N ((g + Z) * 2 ^ 1196) (lt_of_le_of_lt (le_of_eq N_is) (halfway_more (g + Z) B h))) n

  rounded_is : round binary64 false (root_twice (num x * 2 ^ 4542 / den x)) (2 ^ 2272) ≡ sqrt_of x
  rounded_is = one_of y s y_double s_nearest.double not_below not_above

-- ---- every case of `sqrt`
pub root_is : (x : Float) → fits binary64 x ≡ true → sqrt binary64 x ≡ sqrt_of x
unfolding sqrt sqrt_of fits to_bits
root_is nan f = refl
root_is (inf false) f = refl
root_is (inf true) f = refl
root_is (fin true zero e) f = ap (fin true 0) (sym (zero_place e (eqb-true (up e * down e) 1 f)))
root_is (fin false zero e) f =
    let z : e ≡ pos 0 = zero_place e (eqb-true (up e * down e) 1 f) in
    let b : to_bits binary64 (fin false zero e) ≡ 0 = ap (λ (k : ℤ). to_bits binary64 (fin false zero k)) z in
    ap (fin false 0) (sym z) ∙ sqrt_is (fin false zero e) (fin false zero e) tt (of_zero 2 (fin false zero e) (double _ f tt) b)
root_is (fin true (suc m) e) f = sym (ap (λ (b : Bool). cond b (fin true (suc m) e) nan) (eqb-suc-zero m))
root_is (fin false (suc m) e) f = rounded_is (fin false (suc m) e) (double _ f tt)
