-- The order of doubles from 0 up is that of their bit patterns, and what lies below a double lies below all above it. Assumes nothing.
use mathlib.Core.Bool.{true, false}
use Prim.Native.Nat.{ℕ, ◌^◌, ◌≤◌, ◌<◌, zero-le}
use native.Mathlib.Nat.{lt_of_le_of_lt, lt_of_not-le, not-le_of_lt, le_of_suc-le-suc, mul-le-mul_right, le_of_mul-le-mul_right}
use lib.Dec.{T}
use lib.Pow.{pow_pos}
use lib.Ieee.{Float, nan, inf, fin, binary64, of_bits, le}
use lib.Ieee.Exact.{HasValue}
use lib.Ieee.Order.{le_of_values}
use lib.Ieee.Positive.{positive, above, above_of_le, positive_of_value, values_of_le, le_trans_positive}
use Rattle.roots.specs.Units.{limit, mag}
use Rattle.roots.proofs.Units.{mag_lt, mag_le, value}

-- a finite value above 0 is `positive`
pub finite_above : (z : Float) (a c : ℕ) → HasValue z false a c → T (above z) → T (positive z)
finite_above nan a c h t = t
finite_above (inf s) a c h t = absurd h
finite_above (fin true m e) a c h t = t
finite_above (fin false m e) a c h t = t

pub pattern_positive : (p : ℕ) → 0 < p → p < limit → T (positive (of_bits binary64 p))
pattern_positive p z h = positive_of_value (of_bits binary64 p) (mag p) (2 ^ 1074) (value p h) (lt_of_le_of_lt zero-le (mag_lt 0 p z))

pub pattern→le : (p q : ℕ) → p < limit → q < limit → p ≤ q → T (le (of_bits binary64 p) (of_bits binary64 q))
pattern→le p q h k l =
    le_of_values (of_bits binary64 p) (of_bits binary64 q) (mag p) (2 ^ 1074) (mag q) (2 ^ 1074) (pow_pos 1074) (pow_pos 1074) (value p h) (value q k)
    (mul-le-mul_right (2 ^ 1074) (mag_le p q l))

pub le→pattern : (p q : ℕ) → 0 < p → p < limit → q < limit → T (le (of_bits binary64 p) (of_bits binary64 q)) → p ≤ q
le→pattern p q z h k t =
    let y = pattern_positive p z h in
    let x = finite_above (of_bits binary64 q) (mag q) (2 ^ 1074) (value q k) (above_of_le (of_bits binary64 p) (of_bits binary64 q) y t) in
    let l = le_of_mul-le-mul_right (values_of_le (of_bits binary64 p) (of_bits binary64 q) (mag p) (2 ^ 1074) (mag q) (2 ^ 1074) y x (value p h) (value q k) t) (pow_pos 1074) in
    le_of_suc-le-suc (lt_of_not-le (λ g. not-le_of_lt (mag_lt q p g) l))

to_infinity : (x : Float) → T (positive x) → T (le x (inf false))
unfolding le
to_infinity nan p = absurd p
to_infinity (inf s) p = absurd p
to_infinity (fin s m e) p = tt

-- x ≤ y ≤ c for any c
pub le_through : (x y c : Float) → T (positive x) → T (positive y) → T (le x y) → T (le y c) → T (le x c)
le_through x y nan p q h k = absurd (above_of_le y nan q k)
le_through x y (inf true) p q h k = absurd (above_of_le y (inf true) q k)
le_through x y (inf false) p q h k = to_infinity x p
le_through x y (fin true m e) p q h k = absurd (above_of_le y (fin true m e) q k)
le_through x y (fin false m e) p q h k = le_trans_positive x y (fin false m e) p q (above_of_le y (fin false m e) q k) h k
