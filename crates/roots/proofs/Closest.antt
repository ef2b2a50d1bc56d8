-- IEEE 754's rounding gives the nearest double: what lies halfway from it to another double does not lie between it and what was rounded. Assumes nothing.
use mathlib.Core.Path.{◌≡◌, refl, sym, ap, subst}
use mathlib.Core.Logic.{◌⊎◌, inl, inr}
use mathlib.Core.Bool.{Bool, true, false, not}
use Prim.Native.Nat.{ℕ, ◌+◌, ◌*◌, ◌/◌, ◌%◌, ◌^◌, ◌≤◌, ◌<◌, compare, Ordering}
use native.Mathlib.Nat.{le_trans, le_of_eq, le_of_lt, lt_of_lt_of_le, lt_irrefl, eq-zero-or-pos, mul-le-mul, mul-le-mul_right, mul-pos, mod-lt, div-add-mod', div-div-eq-div-mul, le-div_iff_mul-le, div-lt_iff_lt-mul}
use native.Mathlib.Omega.{arith}
use lib.Dec.{T, leb, is_le, compare_is_eq, eqb→eq, leb→le, nleb→lt}
use lib.Pow.{pow_pos, pow_mono, pow-add}
use lib.Ieee.{size, nearest}
use lib.Ieee.Digits.{size_reaches, size-le}
use lib.Ieee.Fits.{kept-lt, nearest-le}
use lib.Ieee.Nearest.{closest}
use lib.Ieee.Order.{drop, kept}
use Rattle.roots.specs.Units.{mag}
use Rattle.roots.proofs.Units.{mag_le, mag-at}
use Rattle.roots.proofs.Rounding.{mag_in}

-- n / u to the nearest whole number: its whole part or the next number, by the remainder
abbrev Split : ℕ → ℕ → Type 0
Split n u = ((closest n u ≡ n / u) × (n % u * 2 ≤ u)) ⊎ ((closest n u ≡ n / u + 1) × (u ≤ n % u * 2))

split : (n u : ℕ) → Split n u
split n u = go (n / u) (compare (n % u * 2) u) (leb→le (n % u * 2) u) (nleb→lt (n % u * 2) u) (eqb→eq (n % u * 2) u)
  where
    go : (q : ℕ) (o : Ordering) → (T (is_le o) → n % u * 2 ≤ u) → (T (not (is_le o)) → u < n % u * 2) → (T (compare_is_eq o) → n % u * 2 ≡ u)
        → ((nearest q o ≡ q) × (n % u * 2 ≤ u)) ⊎ ((nearest q o ≡ q + 1) × (u ≤ n % u * 2))
    go q Ordering.lt h k e = inl (refl, h tt)
    go q Ordering.eq h k e = elim (eq-zero-or-pos (q % 2)) [ inl z ↦ inl (omega arith, le_of_eq (e tt)) | inr p ↦ inr (omega arith, le_of_eq (sym (e tt))) ]
    go q Ordering.gt h k e = inr (omega arith, le_of_lt (k tt))

-- between q * 2 ^ k and the next multiple lies no double, if q has all digits or k is 0
one_apart : (q m : ℕ) → (m ≤ q * 1) ⊎ ((q + 1) * 1 ≤ m)
one_apart q m = go (leb m q) (leb→le m q) (nleb→lt m q)
  where
    go : (b : Bool) → (T b → m ≤ q) → (T (not b) → q < m) → (m ≤ q * 1) ⊎ ((q + 1) * 1 ≤ m)
    go true a c = inl (omega (arith, a tt))
    go false a c = inr (omega (arith, c tt))

no_double : (q k p : ℕ) → (k ≡ 0) ⊎ (2 ^ 52 ≤ q) → q < 2 ^ 53 → (mag p ≤ q * 2 ^ k) ⊎ ((q + 1) * 2 ^ k ≤ mag p)
no_double q k p (inl e) l = subst (λ (j : ℕ). (mag p ≤ q * 2 ^ j) ⊎ ((q + 1) * 2 ^ j ≤ mag p)) (sym e) (one_apart q (mag p))
no_double q k p (inr h) l = go (leb p (k * 2 ^ 52 + q)) (leb→le p (k * 2 ^ 52 + q)) (nleb→lt p (k * 2 ^ 52 + q))
  where
    go : (b : Bool) → (T b → p ≤ k * 2 ^ 52 + q) → (T (not b) → k * 2 ^ 52 + q < p) → (mag p ≤ q * 2 ^ k) ⊎ ((q + 1) * 2 ^ k ≤ mag p)
    go true a c = inl (le_trans (mag_le p (k * 2 ^ 52 + q) (a tt)) (le_of_eq (mag-at k q h l)))
    go false a c =
        let m : k * 2 ^ 52 + (q + 1) ≤ p = omega (arith, c tt) in
        inr (le_trans (le_of_eq (sym (mag_in k (q + 1) (omega arith) (omega arith)))) (mag_le (k * 2 ^ 52 + (q + 1)) p m))

-- ---- n is q times c * t and r more: the halves of q * t and of the next multiple, with z beyond them
module _ (n c t q r z : ℕ) (sum : n ≡ q * (c * t) + r) (rest : r < c * t) where
  up_low : r * 2 ≤ c * t → (q + 1) * t ≤ z → 2 * n ≤ (q * t + z) * c
  up_low h l = let a : (q + 1) * t * c ≤ z * c = mul-le-mul_right c l in omega arith

  up_high : (q + 1) * t ≤ z → 2 * n ≤ ((q + 1) * t + z) * c
  up_high l = let a : (q + 1) * t * c ≤ z * c = mul-le-mul_right c l in omega arith

  down_low : z ≤ q * t → (q * t + z) * c ≤ 2 * n
  down_low l = let a : z * c ≤ q * t * c = mul-le-mul_right c l in omega arith

  down_high : c * t ≤ r * 2 → z ≤ q * t → ((q + 1) * t + z) * c ≤ 2 * n
  down_high h l = let a : z * c ≤ q * t * c = mul-le-mul_right c l in omega arith

le_next : (x : ℕ) → x ≤ x + 1
le_next x = omega arith

-- ---- what n / c units are rounded to
module _ (n c : ℕ) (C : 0 < c) where
  abbrev k : ℕ
  k = drop 53 n c

  abbrev u : ℕ
  u = c * 2 ^ k

  abbrev q : ℕ
  q = n / u

  abbrev pub rounded_to : ℕ
  rounded_to = kept 53 n c * 2 ^ k

  full : (k ≡ 0) ⊎ (2 ^ 52 ≤ q)
  full = elim (eq-zero-or-pos k) [ inl e ↦ inl e | inr p ↦ inr (all p) ]
    where
      all : 0 < k → 2 ^ 52 ≤ q
      all p =
          let a : 2 ^ 52 * 2 ^ k ≤ n / c = le_trans (le_of_eq (sym (pow-add 2 52 k))) (size_reaches (n / c) (52 + k) (omega arith)) in
          subst (λ (x : ℕ). 2 ^ 52 ≤ x) (div-div-eq-div-mul n c (2 ^ k)) ((le-div_iff_mul-le (pow_pos k)).1 a)

  few : q < 2 ^ 53
  few = subst (λ (x : ℕ). x < 2 ^ 53) (div-div-eq-div-mul n c (2 ^ k)) (kept-lt 53 (n / c))

  parts : n ≡ q * u + n % u
  parts = sym (div-add-mod' n u)

  rest : n % u < u
  rest = mod-lt n (mul-pos C (pow_pos k))

  -- a double above lies at least as far from n / c, and so does one below
  pub nearest_up : (p : ℕ) → rounded_to < mag p → 2 * n ≤ (rounded_to + mag p) * c
  nearest_up p l = go (split n u) (no_double q k p full few)
    where
      go : Split n u → (mag p ≤ q * 2 ^ k) ⊎ ((q + 1) * 2 ^ k ≤ mag p) → 2 * n ≤ (rounded_to + mag p) * c
      go (inl s) (inl a) = absurd (lt_irrefl _ (lt_of_lt_of_le l (le_trans a (le_of_eq (ap (λ (x : ℕ). x * 2 ^ k) (sym s.0))))))
      go (inl s) (inr a) = subst (λ (x : ℕ). 2 * n ≤ (x * 2 ^ k + mag p) * c) (sym s.0) (up_low n c (2 ^ k) q (n % u) (mag p) parts rest s.1 a)
      go (inr s) (inl a) = absurd (lt_irrefl _ (lt_of_lt_of_le l (le_trans a (le_trans (mul-le-mul_right (2 ^ k) (le_next q)) (le_of_eq (ap (λ (x : ℕ). x * 2 ^ k) (sym s.0)))))))
      go (inr s) (inr a) = subst (λ (x : ℕ). 2 * n ≤ (x * 2 ^ k + mag p) * c) (sym s.0) (up_high n c (2 ^ k) q (n % u) (mag p) parts rest a)

  pub nearest_down : (p : ℕ) → mag p < rounded_to → (rounded_to + mag p) * c ≤ 2 * n
  nearest_down p l = go (split n u) (no_double q k p full few)
    where
      go : Split n u → (mag p ≤ q * 2 ^ k) ⊎ ((q + 1) * 2 ^ k ≤ mag p) → (rounded_to + mag p) * c ≤ 2 * n
      go (inl s) (inl a) = subst (λ (x : ℕ). (x * 2 ^ k + mag p) * c ≤ 2 * n) (sym s.0) (down_low n c (2 ^ k) q (n % u) (mag p) parts rest a)
      go (inl s) (inr a) = absurd (lt_irrefl _ (lt_of_lt_of_le l (le_trans (le_of_eq (ap (λ (x : ℕ). x * 2 ^ k) s.0)) (le_trans (mul-le-mul_right (2 ^ k) (le_next q)) a))))
      go (inr s) (inl a) = subst (λ (x : ℕ). (x * 2 ^ k + mag p) * c ≤ 2 * n) (sym s.0) (down_high n c (2 ^ k) q (n % u) (mag p) parts rest s.1 a)
      go (inr s) (inr a) = absurd (lt_irrefl _ (lt_of_lt_of_le l (le_trans (le_of_eq (ap (λ (x : ℕ). x * 2 ^ k) s.0)) a)))

  pub rounded-le : (i : ℕ) → n < 2 ^ (53 + i) * c → rounded_to ≤ 2 ^ 53 * 2 ^ i
  rounded-le i h =
      let s : size (n / c) ≤ 53 + i = size-le (n / c) (53 + i) ((div-lt_iff_lt-mul C).1 h) in
      mul-le-mul (le_trans (nearest-le q (compare (n % u * 2) u)) few) (pow_mono (omega arith))
