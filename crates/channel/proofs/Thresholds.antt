-- The thresholds rise, so a channel's byte is found by halving, and a byte's decoded value is given that byte again. Assumes nothing.
use Prim.Native.Nat.{ℕ, zero, suc, ◌+◌, ◌-◌, ◌*◌, ◌≤◌, ◌<◌, zero-le}
use mathlib.Core.Path.{◌≡◌, sym, ap, ◌∙◌, subst}
use mathlib.Core.Logic.{inl, inr}
use mathlib.Core.Bool.{Bool, true, false, ◌&&◌}
use native.Mathlib.Nat.{le_refl, le_trans, le_of_eq, le_of_suc-le-suc, suc_inj, lt_trans, lt_of_le_of_lt, lt_of_lt_of_le, le_of_lt, eq-or-lt_of_le, not-suc-le-zero, not-le_of_lt, le_step, lt-suc_self}
use mathlib.Core.List.{List, [], ◌∷◌}
use native.Mathlib.Omega.{arith}
use lib.Dec.{T, ltb, leb, eqb, ltb→lt, leb→le, eqb→eq, lit<}
use lib.ListN.{get_or}
use lib.Ieee.{Float, binary64, of_bits, le, lt}
use lib.Ieee.Fits.{and_l, and_r}
use Rattle.base.specs.Places.{count}
use Rattle.base.proofs.Counting.{case, clash, from_T, to_T, get_d_within}
use Rattle.roots.specs.Units.{limit}
use Rattle.roots.proofs.Unique.{bits→lt}
use Rattle.channel.specs.Channel.{Decoded, Threshold, ThresholdTable, decode_of, threshold_of, byte_of}
use Rattle.channel.proofs.Entries.{at}
use Rattle.channel.proofs.Patterns.{pattern_positive, pattern→le, le→pattern, le_through}
use Rattle.channel.proofs.Tests.{decodes_fit, decodes-rule, decoded-is, bounds_fit, bounds-rule, threshold_is, between}
use Rattle.channel.proofs.Tables.{threshold_table, decode_pattern, threshold_pattern, decode_test, threshold_test, rise_test, between_test}

-- ---- each entry's rule
pub decode_fit : (k : ℕ) → k < 256 → decode_pattern k < limit
decode_fit k h = decodes_fit k (decode_pattern k) (decode_test k h)

pub decode_is : (k : ℕ) → k < 256 → of_bits binary64 (decode_pattern k) ≡ decode_of k
decode_is k h = decoded-is k (of_bits binary64 (decode_pattern k)) (decodes-rule k (decode_pattern k) (decode_test k h))

pub decode_rule : (k : ℕ) → k < 256 → Decoded k (decode_of k)
decode_rule k h = subst (Decoded k) (decode_is k h) (decodes-rule k (decode_pattern k) (decode_test k h))

pub threshold_fit : (i : ℕ) → i < 255 → threshold_pattern i < limit
threshold_fit i h = bounds_fit i (threshold_pattern i) (threshold_test i h)

pub entry-is : (i : ℕ) → i < 255 → of_bits binary64 (threshold_pattern i) ≡ threshold_of (i + 1)
entry-is i h = threshold_is (i + 1) (of_bits binary64 (threshold_pattern i)) (bounds-rule i (threshold_pattern i) (threshold_test i h))

pub threshold_rule : (i : ℕ) → i < 255 → Threshold (i + 1) (threshold_of (i + 1))
threshold_rule i h = subst (Threshold (i + 1)) (entry-is i h) (bounds-rule i (threshold_pattern i) (threshold_test i h))

-- ---- the order
inside : (i : ℕ) → i < 255 → get_or threshold_table i limit ≡ threshold_pattern i
unfolding threshold_pattern threshold_table
inside i h = get_d_within threshold_table i limit 0 h

patterns_rise : (i j : ℕ) → i < j → j < 255 → threshold_pattern i < threshold_pattern j
patterns_rise i zero l h = absurd (not-suc-le-zero l)
patterns_rise i (suc j) l h =
    let s : threshold_pattern j < threshold_pattern (suc j) = subst (λ (p : ℕ). threshold_pattern j < p) (inside (suc j) h) (ltb→lt _ _ (rise_test j (le_of_lt h))) in
    elim (eq-or-lt_of_le l) [
      | inl e ↦ subst (λ (n : ℕ). threshold_pattern n < threshold_pattern (suc j)) (sym (suc_inj e)) s
      | inr g ↦ lt_trans (patterns_rise i j (le_of_suc-le-suc g) (le_of_lt h)) s
    ]

patterns_climb : (i j : ℕ) → i ≤ j → j < 255 → threshold_pattern i ≤ threshold_pattern j
patterns_climb i j l h = elim (eq-or-lt_of_le l) [ inl e ↦ le_of_eq (ap threshold_pattern e) | inr g ↦ le_of_lt (patterns_rise i j g h) ]

-- the thresholds rise strictly
pub thresholds_rise : (i j : ℕ) → i < j → j < 255 → T (lt (threshold_of (i + 1)) (threshold_of (j + 1)))
thresholds_rise i j l h =
    let k = lt_trans l h in
    subst (λ (y : Float). T (lt y (threshold_of (j + 1)))) (entry-is i k)
    (subst (λ (z : Float). T (lt (of_bits binary64 (threshold_pattern i)) z)) (entry-is j h)
    (bits→lt (threshold_pattern i) (threshold_pattern j) (threshold_fit i k) (threshold_fit j h) (patterns_rise i j l h)))

pattern_pos : (i : ℕ) → i < 255 → 0 < threshold_pattern i
unfolding threshold_pattern threshold_table
pattern_pos i h = lt_of_lt_of_le (lit< tt) (patterns_climb 0 i zero-le h)

-- ---- the thresholds not above c are the first ones
unfoldable pub passes : Float → ℕ → Bool
passes c i = le (threshold_of (i + 1)) c

pub passes_at : (c : Float) (i : ℕ) → i < 255 → passes c i ≡ le (of_bits binary64 (threshold_pattern i)) c
unfolding passes
passes_at c i h = ap (λ (y : Float). le y c) (sym (entry-is i h))

-- the same read from a table
pub passes_by : {l : List ℕ} → ThresholdTable l → (c : Float) (i : ℕ) → i < 255 → passes c i ≡ le (of_bits binary64 (get_or l i 0)) c
unfolding passes
passes_by t c i h = ap (λ (y : Float). le y c) (sym (t.entry i h))

pub earlier : (c : Float) (i j : ℕ) → i ≤ j → j < 255 → passes c j ≡ true → passes c i ≡ true
earlier c i j l h t =
    let k = lt_of_le_of_lt l h in
    passes_at c i k
    ∙ from_T _ (le_through (of_bits binary64 (threshold_pattern i)) (of_bits binary64 (threshold_pattern j)) c
    (pattern_positive (threshold_pattern i) (pattern_pos i k) (threshold_fit i k)) (pattern_positive (threshold_pattern j) (pattern_pos j h) (threshold_fit j h))
    (pattern→le (threshold_pattern i) (threshold_pattern j) (threshold_fit i k) (threshold_fit j h) (patterns_climb i j l h)) (to_T (sym (passes_at c j h) ∙ t)))

pub later : (c : Float) (i j : ℕ) → i ≤ j → j < 255 → passes c i ≡ false → passes c j ≡ false
later c i j l h z = case (passes c j) (λ t. clash (earlier c i j l h t) z) (λ x. x)

-- how many pass, where the first k do and no other does
count-first : (n : ℕ) (t : ℕ → Bool) (k : ℕ) → k ≤ n → ((i : ℕ) → i < k → t i ≡ true) → ((i : ℕ) → k ≤ i → i < n → t i ≡ false) → count n t ≡ k
unfolding count
count-first zero t k h f g = omega arith
count-first (suc n) t k h f g =
    elim (eq-or-lt_of_le h) [
      | inl e ↦ (let r = count-first n t n (le_refl n) (λ i l. f i (omega arith)) (λ i l m. absurd (not-le_of_lt m l)) in
          rw (f n (le_of_eq (sym e))) (omega arith))
      | inr l ↦ (let r = count-first n t k (le_of_suc-le-suc l) f (λ i a b. g i a (le_step b)) in
          rw (g n (le_of_suc-le-suc l) (lt-suc_self n)) (omega arith))
    ]

pub byte_is : (c : Float) (k : ℕ) → k ≤ 255 → ((i : ℕ) → i < k → passes c i ≡ true) → ((i : ℕ) → k ≤ i → i < 255 → passes c i ≡ false) → k ≡ byte_of c
unfolding byte_of passes
byte_is c k h f g = sym (count-first 255 (λ i. le (threshold_of (i + 1)) c) k h f g)

-- ---- the byte of what a byte decodes to is that byte
from-own : (k i : ℕ) → k < 256 → i < k → threshold_pattern i ≤ decode_pattern k
unfolding between
from-own zero i h l = absurd (not-suc-le-zero l)
from-own (suc j) i h l =
    let m : j < 255 = le_of_suc-le-suc h in
    le_trans (patterns_climb i j (le_of_suc-le-suc l) m)
    (subst (λ (p : ℕ). p ≤ decode_pattern (suc j)) (inside j m) (leb→le _ _ (and_l (leb (get_or threshold_table j limit) (decode_pattern (suc j))) (ltb (decode_pattern (suc j)) (get_or threshold_table (suc j) limit)) (between_test (suc j) h))))

below_next : (k i : ℕ) → k ≤ i → i < 255 → decode_pattern k < threshold_pattern i
unfolding between
below_next k i l h =
    let m = lt_of_le_of_lt l h in
    lt_of_lt_of_le (subst (λ (p : ℕ). decode_pattern k < p) (inside k m) (ltb→lt _ _ (and_r (leb (get_or (0 ∷ threshold_table) k limit) (decode_pattern k)) _ (between_test k (le_step m)))))
    (patterns_climb k i l h)

pub decoded-back : (k : ℕ) → k < 256 → byte_of (decode_of k) ≡ k
decoded-back k h = sym (byte_is (decode_of k) k (le_of_suc-le-suc h) low high)
  where
    test : (i : ℕ) → i < 255 → passes (decode_of k) i ≡ le (of_bits binary64 (threshold_pattern i)) (of_bits binary64 (decode_pattern k))
    test i l = passes_at (decode_of k) i l ∙ ap (le (of_bits binary64 (threshold_pattern i))) (sym (decode_is k h))

    low : (i : ℕ) → i < k → passes (decode_of k) i ≡ true
    low i l =
        let m : i < 255 = omega arith in
        test i m ∙ from_T _ (pattern→le (threshold_pattern i) (decode_pattern k) (threshold_fit i m) (decode_fit k h) (from-own k i h l))

    high : (i : ℕ) → k ≤ i → i < 255 → passes (decode_of k) i ≡ false
    high i l m =
        case (passes (decode_of k) i)
        (λ t. absurd (not-le_of_lt (below_next k i l m) (le→pattern (threshold_pattern i) (decode_pattern k) (pattern_pos i m) (threshold_fit i m) (decode_fit k h) (to_T (sym (test i m) ∙ t)))))
        (λ z. z)

-- ---- the byte of c is at least n and below n + gap
pub record Sought (c : Float) (n gap : ℕ) : Type 0 where
  pub passed : (i : ℕ) → i < n → passes c i ≡ true
  pub failed : (i : ℕ) → n + gap ≤ i + 1 → i < 255 → passes c i ≡ false
  pub some : 0 < gap
  pub room : n + gap ≤ 256

pub sought_start : (c : Float) → Sought c 0 256
sought_start c = record { passed = λ i l. absurd (not-suc-le-zero l); failed = λ i l m. absurd (omega arith); some = omega arith; room = omega arith }

pub sought_hit : (c : Float) (n half : ℕ) → Sought c n (2 * half) → 0 < half → passes c (n + half - 1) ≡ true → Sought c (n + half) half
sought_hit c n half s h t =
    let r = s.room in
    record {
      passed = λ i l. earlier c i (n + half - 1) (omega arith) (omega arith) t;
      failed = λ i l m. s.failed i (omega arith) m;
      some = h;
      room = omega arith;
    }

pub sought_miss : (c : Float) (n half : ℕ) → Sought c n (2 * half) → 0 < half → passes c (n + half - 1) ≡ false → Sought c n half
sought_miss c n half s h z =
    let r = s.room in
    record {
      passed = s.passed;
      failed = λ i l m. later c (n + half - 1) i (omega arith) m z;
      some = h;
      room = omega arith;
    }

pub sought_end : (c : Float) (n : ℕ) → Sought c n 1 → n ≡ byte_of c
sought_end c n s = let r = s.room in byte_is c n (omega arith) s.passed (λ i l m. s.failed i (omega arith) m)

-- ---- the halves of the gap, in turn

unfoldable pub halves : List ℕ
halves = 128 ∷ 64 ∷ 32 ∷ 16 ∷ 8 ∷ 4 ∷ 2 ∷ 1 ∷ []

-- the gap before the turn i, and after the last
unfoldable pub gap_at : ℕ → ℕ
gap_at i = get_or (256 ∷ halves) i 0

-- half of the gap before the turn i, and the gap after it
pub record Half (i half : ℕ) : Type 0 where
  pub some : 0 < half
  pub before : gap_at i ≡ 2 * half
  pub after : gap_at (i + 1) ≡ half

abbrev is_half : ℕ → ℕ → Bool
is_half i half = ltb 0 half && (eqb (gap_at i) (2 * half) && eqb (gap_at (i + 1)) half)

is_half-fact : (i half : ℕ) → T (is_half i half) → Half i half
is_half-fact i half t =
    let u = and_r (ltb 0 half) _ t in
    record {
      some = ltb→lt 0 half (and_l (ltb 0 half) _ t);
      before = eqb→eq (gap_at i) (2 * half) (and_l (eqb (gap_at i) (2 * half)) _ u);
      after = eqb→eq (gap_at (i + 1)) half (and_r (eqb (gap_at i) (2 * half)) _ u);
    }

pub half_at : (i : ℕ) → i < 8 → Half i (get_or halves i 0)
unfolding halves gap_at
half_at i h = is_half-fact i (get_or halves i 0) (at is_half halves tt i h)

-- the threshold half way passes, or it does not
pub half_hit : {c : Float} {n i half : ℕ} → Sought c n (gap_at i) → Half i half → passes c (n + half - 1) ≡ true → Sought c (n + half) (gap_at (i + 1))
half_hit {c} {n} {i} {half} s h t = rw h.after (sought_hit c n half (rw h.before at s) h.some t)

pub half_miss : {c : Float} {n i half : ℕ} → Sought c n (gap_at i) → Half i half → passes c (n + half - 1) ≡ false → Sought c n (gap_at (i + 1))
half_miss {c} {n} {i} {half} s h z = rw h.after (sought_miss c n half (rw h.before at s) h.some z)

-- that threshold is there
pub half_inside : {c : Float} {n i half : ℕ} → Sought c n (gap_at i) → Half i half → n + half - 1 < 255
half_inside {c} {n} {i} {half} s h = let r = s.room in let e = h.before in let p = h.some in omega arith
