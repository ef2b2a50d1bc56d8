-- Of two colours whose parts are in range the square of the distance is a finite double from 0 up, so their distance is the double nearest to its root. Assumes nothing.
use Prim.Native.Nat.{ℕ, ◌+◌, ◌-◌, ◌*◌, ◌^◌, ◌≤◌, ◌<◌, zero-le}
use mathlib.Core.Path.{◌≡◌, refl, sym, ap, ◌∙◌, subst}
use mathlib.Core.Logic.{inl, inr, ⊎_elim}
use mathlib.Core.Bool.{Bool, true, false, not, ◌&&◌, ◌||◌, beq, cond, true≢false, false≢true}
use native.Mathlib.Nat.{le_trans, le_of_eq, le_of_lt, lt_of_lt_of_le, eq-zero-or-pos, mul_assoc, mul_comm, mul-one, mul_right_comm, mul-le-mul, mul-le-mul_right, le_of_mul-le-mul_right, mul-pos, add-mul, mul-mul-mul_comm, mul-lt-mul_of_pos_right}
use native.Mathlib.Omega.{arith}
use lib.Dec.{T, ltb, eqb, ltb→lt, lit≤}
use lib.Pow.{pow_pos}
use lib.Ieee.{Float, nan, inf, fin, binary64, unlike, round, odd, units, add, sub, mul, neg, sum, le, up, down}
use lib.Ieee.Fits.{add-fits, down_pos, round_is}
use lib.Ieee.Exact.{HasValue, units_val, odd_sign, round_exact}
use lib.Ieee.Order.{round_mono, kept, drop}
use lib.Ieee.Positive.{above_of_le, positive_of_value, values_of_le}
use lib.Ieee.Scale.{grid, overflow, finite, round_val, round_under}
use Rattle.base.proofs.Counting.{left, right, either, to_T, eqb_yes}
use Rattle.roots.specs.Root.{not_negative, Double}
use Rattle.roots.proofs.Exists.{sqrt_nearest}
use Rattle.channel.proofs.Patterns.{finite_above}
use Rattle.color.specs.declared.Lab.{Lab}
use Rattle.base.specs.Doubles.{◌⊕◌, ◌⊖◌, ◌⊗◌, decimal}
use Rattle.color.specs.Lab.{within, InRange, dist2, distance, DistanceNearest}

-- x is finite, with the sign s, and its size is at most n
abbrev pub Size : ℕ → Bool → Float → Type 0
Size n s nan = ⊥
Size n s (inf t) = ⊥
Size n s (fin t m e) = (t ≡ s) × (m * up e ≤ n * down e)

of_value : (x : Float) (s : Bool) (a c n : ℕ) → HasValue x s a c → 0 < c → a ≤ n * c → Size n s x
of_value nan s a c n h C l = h
of_value (inf t) s a c n h C l = h
of_value (fin t m e) s a c n h C l = (
  h.0,
  le_of_mul-le-mul_right (le_trans (le_of_eq h.1) (le_trans (mul-le-mul_right (down e) l) (le_of_eq (mul_right_comm n c (down e))))) C,
)

-- ---- rounding: of a fraction that is at most n, to one that is at most n
finite_of_value : (x : Float) (s : Bool) (a c : ℕ) → HasValue x s a c → T (finite x)
finite_of_value nan s a c h = absurd h
finite_of_value (inf t) s a c h = absurd h
finite_of_value (fin t m e) s a c h = tt

past_all : (y : Float) → T (finite y) → T (le (inf false) y) → ⊥
unfolding le
past_all nan h t = h
past_all (inf s) h t = h
past_all (fin s m e) h t = t

units_finite : (q k : ℕ) (y : Float) → T (finite y) → T (le (units binary64 false q k) y) → T (finite (units binary64 false q k))
unfolding units
units_finite q k y h = go (ltb (q * 2 ^ k) (overflow binary64))
  where
    go : (b : Bool) → T (le (cond b (odd 54 false q k 1074) (inf false)) y) → T (finite (cond b (odd 54 false q k 1074) (inf false)))
    go true t = finite_of_value (odd 54 false q k 1074) false (q * 2 ^ k) (2 ^ 1074) (odd_sign 54 false q k 1074)
    go false t = past_all y h t

module _ (n : ℕ) (N : n < 2 ^ 53) where
  whole : HasValue (round binary64 false n 1) false n 1
  whole =
      round_exact binary64 false n 1 n 1074 (pow_pos 0) N (lt_of_lt_of_le (mul-lt-mul_of_pos_right N (pow_pos 1074)) (lit≤ tt)) (sym (mul-one (n * 2 ^ 1074)))

  module _ (a c : ℕ) (C : 0 < c) (l : a ≤ n * c) where
    below : T (le (round binary64 false a c) (round binary64 false n 1))
    below = round_mono binary64 a c n 1 C (pow_pos 0) (le_trans (le_of_eq (mul-one a)) l)

    under : grid binary64 a c < overflow binary64
    under =
        round_under binary64 a c
        (subst (λ (z : Float). T (finite z)) (sym (round_is binary64 false a c))
        (units_finite (kept 53 (a * 2 ^ 1074) c) (drop 53 (a * 2 ^ 1074) c) (round binary64 false n 1) (finite_of_value (round binary64 false n 1) false n 1 whole)
        (subst (λ (z : Float). T (le z (round binary64 false n 1))) (round_is binary64 false a c) below)))

    most : grid binary64 a c ≤ n * 2 ^ 1074
    most =
        let v = round_val binary64 a c under in
        elim (eq-zero-or-pos (grid binary64 a c)) [
          | inl z ↦ le_trans (le_of_eq z) zero-le
          | inr g ↦ (let x = positive_of_value (round binary64 false a c) (grid binary64 a c) (2 ^ 1074) v g in
              let y = finite_above (round binary64 false n 1) n 1 whole (above_of_le (round binary64 false a c) (round binary64 false n 1) x below) in
              le_trans (le_of_eq (sym (mul-one (grid binary64 a c)))) (values_of_le (round binary64 false a c) (round binary64 false n 1) (grid binary64 a c) (2 ^ 1074) n 1 x y v whole below))
        ]

    pub round_size : (s : Bool) → Size n s (round binary64 s a c)
    round_size s =
        of_value (round binary64 s a c) s (grid binary64 a c) (2 ^ 1074) n
        (subst (λ (z : Float). HasValue z s (grid binary64 a c) (2 ^ 1074)) (sym (round_is binary64 s a c))
        (units_val binary64 s (kept 53 (a * 2 ^ 1074) c) (drop 53 (a * 2 ^ 1074) c) under))
        (pow_pos 1074) most

-- ---- the operations
-- x is finite and its size is at most n
abbrev pub Sized : ℕ → Float → Type 0
Sized n x = (s : Bool) × (Size n s x)

-- a / c + b / d as one fraction
joined : (a b c d n k : ℕ) → a ≤ n * c → b ≤ k * d → a * d + b * c ≤ (n + k) * (c * d)
joined a b c d n k h g =
    let x : a * d ≤ n * (c * d) = le_trans (mul-le-mul_right d h) (le_of_eq (mul_assoc n c d)) in
    let y : b * c ≤ k * (c * d) = le_trans (mul-le-mul_right c g) (le_of_eq (mul_assoc k d c ∙ ap (λ (z : ℕ). k * z) (mul_comm d c))) in
    rw add-mul (omega arith)

turned : (n : ℕ) (x : Float) → Sized n x → Sized n (neg x)
unfolding neg
turned n nan h = h
turned n (inf s) h = h
turned n (fin s m e) h = (not s, (refl, h.1.1))

add_sized : (n k : ℕ) (x y : Float) → n + k < 2 ^ 53 → Sized n x → Sized k y → Sized (n + k) (add binary64 x y)
unfolding add sum
add_sized n k nan y N h g = absurd h.1
add_sized n k (inf s) y N h g = absurd h.1
add_sized n k (fin s m e) nan N h g = absurd g.1
add_sized n k (fin s m e) (inf t) N h g = absurd g.1
add_sized n k (fin s m e) (fin t p d) N h g =
    go (m * up e * down d) (p * up d * down e) (joined (m * up e) (p * up d) (down e) (down d) n k h.1.1 g.1.1) (beq s t)
  where
    go : (a b : ℕ) → a + b ≤ (n + k) * (down e * down d) → (q : Bool)
        → Sized (n + k) (cond q (round binary64 s (a + b) (down e * down d)) (cond (ltb a b) (round binary64 t (b - a) (down e * down d)) (round binary64 (s && ltb b a) (a - b) (down e * down d))))
    go a b l true = (s, round_size (n + k) N (a + b) (down e * down d) (mul-pos (down_pos e) (down_pos d)) l s)
    go a b l false = split (ltb a b)
      where
        split : (q : Bool) → Sized (n + k) (cond q (round binary64 t (b - a) (down e * down d)) (round binary64 (s && ltb b a) (a - b) (down e * down d)))
        split true = (t, round_size (n + k) N (b - a) (down e * down d) (mul-pos (down_pos e) (down_pos d)) (omega arith) t)
        split false = (s && ltb b a, round_size (n + k) N (a - b) (down e * down d) (mul-pos (down_pos e) (down_pos d)) (omega arith) (s && ltb b a))

add_natural : (n k : ℕ) (x y : Float) → n + k < 2 ^ 53 → Size n false x → Size k false y → Size (n + k) false (add binary64 x y)
unfolding add sum
add_natural n k nan y N h g = absurd h
add_natural n k (inf s) y N h g = absurd h
add_natural n k (fin s m e) nan N h g = absurd g
add_natural n k (fin s m e) (inf t) N h g = absurd g
add_natural n k (fin true m e) (fin t p d) N h g = absurd (true≢false h.0)
add_natural n k (fin false m e) (fin true p d) N h g = absurd (true≢false g.0)
add_natural n k (fin false m e) (fin false p d) N h g =
    round_size (n + k) N (m * up e * down d + p * up d * down e) (down e * down d) (mul-pos (down_pos e) (down_pos d))
    (joined (m * up e) (p * up d) (down e) (down d) n k h.1 g.1) false

unlike_none : (s : Bool) → unlike s s ≡ false
unlike_none true = refl
unlike_none false = refl

square : (n : ℕ) (x : Float) → n * n < 2 ^ 53 → Sized n x → Size (n * n) false (mul binary64 x x)
unfolding mul
square n nan N h = absurd h.1
square n (inf s) N h = absurd h.1
square n (fin s m e) N h =
    subst (λ (b : Bool). Size (n * n) false (round binary64 b (m * up e * (m * up e)) (down e * down e))) (sym (unlike_none s))
    (round_size (n * n) N (m * up e * (m * up e)) (down e * down e) (mul-pos (down_pos e) (down_pos e))
    (le_trans (mul-le-mul h.1.1 h.1.1) (le_of_eq (mul-mul-mul_comm n (down e) n (down e)))) false)

-- ---- a part in range
-- a ≤ b, as the comparison of doubles has it
pub not_above : (a b c d : ℕ) (q : Bool) → (c ≡ d → a ≡ b) → (ltb a b || (eqb c d && q)) ≡ true → a ≤ b
not_above a b c d q f t =
    ⊎_elim (λ h. le_of_lt (ltb→lt a b (to_T h))) (λ h. le_of_eq (f (eqb_yes (left (eqb c d) q h)))) (either (ltb a b) (eqb c d && q) t)

in_range_lem : (x : Float) → within x ≡ true → Sized 1024 x
unfolding within decimal round neg le
in_range_lem nan h = absurd (false≢true h)
in_range_lem (inf true) h = absurd (false≢true h)
in_range_lem (inf false) h = absurd (false≢true h)
in_range_lem (fin true m e) h =
    let x = fin true m e in
    let t = left (le (neg (decimal 1024 0)) x) (le x (decimal 1024 0)) h in
    (true, (refl, le_trans (le_of_eq (sym (mul-one (m * up e)))) (not_above (m * up e * 1) (1024 * down e) (1024 * down e) (m * up e * 1) true sym t)))
in_range_lem (fin false m e) h =
    let x = fin false m e in
    let t = right (le (neg (decimal 1024 0)) x) (le x (decimal 1024 0)) h in
    (false, (refl, le_trans (le_of_eq (sym (mul-one (m * up e)))) (not_above (m * up e * 1) (1024 * down e) (m * up e * 1) (1024 * down e) true (λ z. z) t)))

-- ---- the distance

part : (x y : Float) → within x ≡ true → within y ≡ true → Size 4194304 false ((x ⊖ y) ⊗ (x ⊖ y))
unfolding sub
part x y h g = square 2048 (x ⊖ y) (omega arith) (add_sized 1024 1024 x (neg y) (omega arith) (in_range_lem x h) (turned 1024 y (in_range_lem y g)))

natural : (n : ℕ) (x : Float) → Size n false x → T (not_negative x)
natural n nan h = h
natural n (inf s) h = h
natural n (fin s m e) h = subst (λ (b : Bool). T (not b)) (sym h.0) tt

total : (x y z : Float) → Size 4194304 false x → Size 4194304 false y → Size 4194304 false z → T (not_negative (x ⊕ y ⊕ z))
total x y z h g k =
    natural 12582912 (x ⊕ y ⊕ z) (add_natural 8388608 4194304 (x ⊕ y) z (omega arith) (add_natural 4194304 4194304 x y (omega arith) h g) k)

pub dist2_double : (p q : Lab) → InRange p → InRange q → Double (dist2 p q)
unfolding dist2
dist2_double p q h g =
    let d0 = p.l ⊖ q.l in
    let d1 = p.a ⊖ q.a in
    let d2 = p.b ⊖ q.b in
    record {
      representable = add-fits binary64 (d0 ⊗ d0 ⊕ d1 ⊗ d1) (d2 ⊗ d2);
      sign = total (d0 ⊗ d0) (d1 ⊗ d1) (d2 ⊗ d2) (part p.l q.l h.light g.light) (part p.a q.a h.first g.first) (part p.b q.b h.second g.second);
    }

-- the distance is the double nearest to the root
pub distance-nearest : DistanceNearest
unfolding DistanceNearest distance
distance-nearest p q h g = sqrt_nearest (dist2 p q) (dist2_double p q h g)
