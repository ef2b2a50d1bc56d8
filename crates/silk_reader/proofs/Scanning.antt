-- How a text is gone over: past the bytes of a key, past bytes that pass a test, and over the digits of a number. Assumes nothing.
use Rattle.std.proofs.Common.{◌≡◌, ℕ, ◌+◌, ◌-◌, ◌*◌, ◌^◌, ◌<◌, ◌≤◌, zero, suc, Bool, true, false, not, cond, ◌&&◌, ◌||◌, ◌==◌, Some, None, Result, eqb, nat_eq, nat_lt, pos, List, [], ◌∷◌, length, get_or, take, drop, drop-cons, drop_of_length-le, length-drop, take_all, add-one, add_comm, refl, sym, ap, ◌∙◌, arith}
use Rattle.std.specs.List.{prefix_len, position_or_len, position}
use Rattle.std.proofs.lemmas.Bool.Decides.{nat_tests}
use lib.Pointwise.{pointwise}
use Rattle.std.proofs.lemmas.List.Quantifiers.{position-Some}
use native.Mathlib.Nat.{pow-suc, pow-le-pow_right, not-suc-le-zero, le_of_suc-le-suc}
use lib.Dec.{leb}
use lib.Ieee.{of_int, binary64}
use Rattle.base.specs.Doubles.{decimal}
use Rattle.std.specs.Char.{is_ascii_digit}
use Rattle.color.specs.declared.Rgb8.{Rgb8}
use Rattle.base.specs.declared.Refusal.{Refusal}
use Rattle.base.specs.declared.Refusal.TheVariants.{Malformed}
use Rattle.hex_colour.specs.Hex.{hex_to_rgb8}
use borrow.Author.Tests.{le-leb, lt-leb, leb-true, ltb-false, eqb-true}
use Rattle.base.proofs.Counting.{case, left, right}
use Rattle.silk_reader.specs.Reader.{got, refused, newline, bytes, take_while, span, in_line, is_digit, value, proper, proper_number, decimal_number, at_minus}
use Rattle.silk_reader.specs.Lines.{hex_line}
use Rattle.silk_reader.specs.Answers.{answer, Decimal}

-- ---- the bytes of a key

pub bytes_cases : (key text : List ℕ) → bytes key text ≡ cond (pointwise nat_eq (take (length key) text) key) (got tt (drop (length key) text)) (refused Malformed)
unfolding bytes
bytes_cases [] text = refl
bytes_cases (b ∷ bs) [] = refl
bytes_cases (b ∷ bs) (c ∷ cs) =
    case (nat_eq c b)
    (λ y. let q : eqb b c ≡ true = grind (arith, nat_tests) in rw (y, q, bytes_cases bs cs) refl)
    (λ z. let q : eqb b c ≡ false = grind (arith, nat_tests) in rw (z, q) refl)

-- a minus, as a key
pub minus_cases : (text : List ℕ) → bytes (45 ∷ []) text ≡ cond (at_minus text) (got tt (drop 1 text)) (refused Malformed)
unfolding bytes at_minus
minus_cases [] = refl
minus_cases (c ∷ cs) =
    case (eqb c 45)
    (λ y. let q : eqb 45 c ≡ true = grind (arith, nat_tests) in rw (y, q) refl)
    (λ z. let q : eqb 45 c ≡ false = grind (arith, nat_tests) in rw (z, q) refl)

-- ---- what passes a test

pub while_length : (t : ℕ → Bool) (l : List ℕ) → length (take_while t l) ≡ prefix_len t l
unfolding take_while
while_length t [] = refl
while_length t (x ∷ xs) = case (t x) (λ y. rw y (omega (arith, while_length t xs))) (λ z. rw z)

pub while_take : (t : ℕ → Bool) (l : List ℕ) → take_while t l ≡ take (prefix_len t l) l
unfolding take_while
while_take t [] = refl
while_take t (x ∷ xs) =
    case (t x) (λ y. rw (y, add_comm 1 (prefix_len t xs), add-one (prefix_len t xs)) (ap (λ (k : List ℕ). x ∷ k) (while_take t xs))) (λ z. rw z)

-- ---- digits

pub digit_in : {c : ℕ} → 48 ≤ c → c ≤ 57 → true ≡ is_digit c
unfolding is_digit
digit_in {c} p q = rw (le-leb 48 c p, le-leb c 57 q)

digit_is : (c : ℕ) → is_digit c ≡ true → (48 ≤ c) × (c ≤ 57)
unfolding is_digit
digit_is c y = (leb-true 48 c (left (leb 48 c) (leb c 57) y), leb-true c 57 (right (leb 48 c) (leb c 57) y))

-- ---- the number that digits write

-- v is the number that the first i digits write
pub record Valued (ds : List ℕ) (v i : ℕ) : Type 0 where
  pub small : v < 10 ^ i
  pub whole : value v (drop i ds) ≡ value 0 ds

module _ {ds : List ℕ} {v i : ℕ} (d : Decimal ds) (s : Valued ds v i) (h : i < length ds) where
  pub valued_fits : (48 ≤ get_or ds i 0) × (get_or ds i 0 ≤ 57) × (v * 10 + (get_or ds i 0 - 48) < 10 ^ 9)
  valued_fits =
      let k = digit_is (get_or ds i 0) (d.digits i h) in
      let p : 10 ^ suc i ≤ 10 ^ 9 = pow-le-pow_right {n = 10} (omega arith) {i = suc i} {j = 9} (omega (arith, d.nine)) in
      (k.0, k.1, omega (arith, pow-suc 10 i, s.small))

  pub valued_more : {n : ℕ} → n ≡ get_or ds i 0 - 48 → Valued ds (v * 10 + n) (i + 1)
  unfolding value
  valued_more e =
      let k = valued_fits in
      record {
        small = rw (e, add-one i) (omega (arith, pow-suc 10 i, s.small));
        whole = rw (e, add-one i) (sym (ap (value v) (drop-cons ds i 0 h)) ∙ s.whole);
      }

pub valued_all : {ds : List ℕ} {v i : ℕ} → Valued ds v i → length ds ≤ i → v ≡ value 0 ds
unfolding value
valued_all {ds} {v} s h = sym (sym s.whole ∙ ap (value v) (drop_of_length-le ds h))

pub valued_small : {ds : List ℕ} {v i : ℕ} → Decimal ds → Valued ds v i → i ≤ length ds → v < 10 ^ 9
valued_small {i = i} d s h =
    let p : 10 ^ i ≤ 10 ^ 9 = pow-le-pow_right {n = 10} (omega arith) {i = i} {j = 9} (omega (arith, d.nine)) in
    omega (arith, s.small)

-- ---- a number

pub proper_one : (ds : List ℕ) → length ds ≡ 1 → true ≡ proper ds
unfolding proper
proper_one ds e = rw e

pub proper_some : (ds : List ℕ) → 2 ≤ length ds → length ds ≤ 9 → not (eqb (get_or ds 0 0) 48) ≡ proper ds
unfolding proper
proper_some ds h k = rw (le-leb 1 (length ds) (omega arith), le-leb (length ds) 9 k, lt-leb (length ds) 1 h)

proper_nine : (ds : List ℕ) → proper ds ≡ true → length ds ≤ 9
unfolding proper
proper_nine ds y =
    leb-true (length ds) 9
    (right (leb 1 (length ds)) (leb (length ds) 9) (left (leb 1 (length ds) && leb (length ds) 9) (leb (length ds) 1 || not (eqb (get_or ds 0 0) 48)) y))

while_at : (t : ℕ → Bool) (l : List ℕ) (i : ℕ) → i < length (take_while t l) → t (get_or (take_while t l) i 0) ≡ true
unfolding take_while
while_at t [] i h = absurd (omega arith)
while_at t (x ∷ xs) zero h = case (t x) (λ y. rw y y) (λ z. absurd (not-suc-le-zero (rw z at h)))
while_at t (x ∷ xs) (suc i) h =
    case (t x) (λ y. rw y (while_at t xs i (le_of_suc-le-suc (rw y at h)))) (λ z. absurd (not-suc-le-zero (rw z at h)))

digits_are : (text : List ℕ) → take (prefix_len is_ascii_digit text) text ≡ take_while is_digit text
unfolding is_digit
digits_are text = sym (while_take is_digit text)

pub decimal_front : (text : List ℕ) → proper (take (prefix_len is_ascii_digit text) text) ≡ true → Decimal (take (prefix_len is_ascii_digit text) text)
decimal_front text y =
    record {
      digits = rw digits_are (while_at is_digit text);
      nine = proper_nine (take (prefix_len is_ascii_digit text) text) y;
    }

pub number_cut : (text : List ℕ) →
    decimal_number text ≡ proper_number (take (prefix_len is_ascii_digit text) text) (drop (prefix_len is_ascii_digit text) text)
unfolding decimal_number span is_digit
number_cut text = rw (while_length is_digit text, while_take is_digit text) refl

-- ---- the rest of a line

-- the place of the first byte 10
line_at : (text : List ℕ) (n : ℕ) → position (λ c. c == 10) text ≡ Some n → n ≡ length (take_while in_line text)
unfolding in_line
line_at text n e =
    let k = while_length in_line text in
    case (nat_lt (position_or_len (λ c. c == 10) text) (length text))
    (λ y. let q : position (λ c. c == 10) text ≡ Some (position_or_len (λ c. c == 10) text) = rw y refl in
    let z : n ≡ position_or_len (λ c. c == 10) text = cc in
    z ∙ sym k)
    (λ z. let q : position (λ c. c == 10) text ≡ None = rw z refl in
    cc)

line_over : (text : List ℕ) → position (λ c. c == 10) text ≡ None → length text ≤ length (take_while in_line text)
unfolding in_line
line_over text e =
    let k = while_length in_line text in
    case (nat_lt (position_or_len (λ c. c == 10) text) (length text))
    (λ y. let q : position (λ c. c == 10) text ≡ Some (position_or_len (λ c. c == 10) text) = rw y refl in
    cc)
    (λ z. omega (arith, k, ltb-false (position_or_len (λ c. c == 10) text) (length text) z))

pub hex_none : (text : List ℕ) → position (λ c. c == 10) text ≡ None → hex_line text ≡ refused Malformed
unfolding hex_line span bytes newline
hex_none text e = rw (drop_of_length-le text (line_over text e))

pub hex_at : (text : List ℕ) (n : ℕ) → position (λ c. c == 10) text ≡ Some n →
    hex_line text ≡ answer (hex_to_rgb8 (take n text)) (drop 1 (drop n text))
unfolding hex_line span bytes newline
hex_at text n e =
    let p = position-Some (λ c. c == 10) text n 0 e in
    let h : n < length text = p.0 in
    let k = line_at text n e in
    let t : take_while in_line text ≡ take n text = while_take in_line text ∙ ap (λ (i : ℕ). take i text) (sym (while_length in_line text) ∙ sym k) in
    let d : drop n text ≡ 10 ∷ drop (suc n) text = drop-cons text n 0 h ∙ ap (λ (x : ℕ). x ∷ drop (suc n) text) (eqb-true (get_or text n 0) 10 p.1) in
    rw (← k, t, d)

pub hex_read : (text : List ℕ) (n : ℕ) → position (λ c. c == 10) text ≡ Some n → {line rest : List ℕ} → line ≡ take n text → rest ≡ drop n text →
    {r : Result Rgb8 Refusal} → r ≡ hex_to_rgb8 line → answer r (take (length rest - 1) (drop 1 rest)) ≡ hex_line text
hex_read text n p {line} {rest} f b {r} e =
    let a : take (length rest - 1) (drop 1 rest) ≡ drop 1 rest = take_all (length rest - 1) (drop 1 rest) (omega (arith, length-drop 1 rest)) in
    rw (a, hex_at text n p, ← f, ← b, e)

-- ---- a setting

pub whole_double : (n : ℕ) → of_int binary64 (pos n) ≡ decimal n 0
unfolding of_int decimal
whole_double n = refl
