-- What the readers make of printed numbers, cells and hex colours. Assumes nothing.
use Prim.Native.Nat.{ℕ, zero, suc, ◌+◌, ◌-◌, ◌*◌, ◌/◌, ◌%◌, ◌^◌, ◌≤◌, ◌<◌}
use mathlib.Core.Path.{◌≡◌, refl, sym, ap, ◌∙◌}
use mathlib.Core.Logic.{inr}
use mathlib.Core.Bool.{true, false, not}
use mathlib.Core.List.{List, [], ◌∷◌, ◌++◌, append_assoc, append-nil}
use native.Mathlib.Nat.{not-suc-le-zero, div-lt_self, div-add-mod'}
use native.Mathlib.Omega.{arith}
use lib.Dec.{ltb, eqb}
use lib.IntN.{ℤ, pos, negsuc, nat_abs}
use lib.ListN.{length, get_or, get_or-append}
use lib.Seq.{drop-append_seam}
use borrow.Author.Tests.{ltb-true, ltb-false, eq-eqb, ne_eqb}
use Rattle.base.specs.Places.{any}
use Rattle.base.proofs.Counting.{case}
use Rattle.hex_colour.specs.Hex.{space, mark, drop_while, stripped, digit, all_digits, pair, six_digits, hex_to_rgb8}
use Rattle.color.specs.declared.Rgb8.{Rgb8}
use Rattle.std.specs.Prelude.{Ok}
use Rattle.hex_colour.proofs.Digits.{space_no, digit-decimal, digit-small}
use Rattle.silk_reader.specs.Reader.{got, codes, bytes, newline, take_while, span, in_line, is_digit, value, proper, proper_number, decimal_number, natural, minus, negative, at_minus, cell, cell_at}
use Rattle.silk_reader.specs.Lines.{hex_line, colour_line}
use Rattle.silk_print.specs.Claims.{InBytes}
use Rattle.silk_print.specs.Print.{numeral, signed_numeral, cell_text, hex_digit, hex_byte, hex_colour, colour_text}
use Rattle.silk_print.proofs.Digits.{numeral_one, numeral-more, more-length, numeral_short, hex_low, hex_high}
use Rattle.silk_reader.proofs.Scanning.{digit_in, proper_one, proper_some}

-- ---- the digits of a number

by_digits : (P : ℕ → Type 0) → ((n : ℕ) → n < 10 → P n) → ((n : ℕ) → 10 ≤ n → P (n / 10) → P n) → (k n : ℕ) → n < k → P n
by_digits P one more zero n h = absurd (not-suc-le-zero h)
by_digits P one more (suc k) n h =
    case (ltb n 10) (λ y. one n (ltb-true n 10 y))
    (λ z. let t : 10 ≤ n = ltb-false n 10 z in
    let d : n / 10 < n = div-lt_self (omega arith) (omega arith) in
    more n t (by_digits P one more k (n / 10) (omega arith)))

-- whatever follows, the digits pass
abbrev Passing : ℕ → Type 0
Passing n = (rest : List ℕ) → take_while is_digit (numeral n ++ rest) ≡ numeral n ++ take_while is_digit rest

while_digit : (d : ℕ) (rest : List ℕ) → d < 10 → take_while is_digit ((48 + d) ∷ rest) ≡ (48 + d) ∷ take_while is_digit rest
unfolding take_while
while_digit d rest h = rw (sym (digit_in {c = 48 + d} (omega arith) (omega arith)))

passing : (n : ℕ) → Passing n
passing n = by_digits Passing one more (suc n) n (omega arith)
  where
    one : (m : ℕ) → m < 10 → Passing m
    one m h rest = rw (numeral_one m h) (while_digit m rest h)

    more : (m : ℕ) → 10 ≤ m → Passing (m / 10) → Passing m
    more m h p rest =
        let d = (48 + m % 10) ∷ [] in
        rw (numeral-more m h)
        (ap (take_while is_digit) (append_assoc (numeral (m / 10)) d rest)
        ∙ p (d ++ rest)
        ∙ ap (λ (l : List ℕ). numeral (m / 10) ++ l) (while_digit (m % 10) rest (omega arith))
        ∙ sym (append_assoc (numeral (m / 10)) d (take_while is_digit rest)))

value-more : (s : List ℕ) (v d : ℕ) → value v (s ++ d ∷ []) ≡ value v s * 10 + (d - 48)
unfolding value
value-more [] v d = refl
value-more (x ∷ s) v d = value-more s (v * 10 + (x - 48)) d

value_one : (d : ℕ) → value 0 ((48 + d) ∷ []) ≡ d
unfolding value
value_one d = omega arith

value-is : (n : ℕ) → value 0 (numeral n) ≡ n
value-is n = by_digits (λ m. value 0 (numeral m) ≡ m) one more (suc n) n (omega arith)
  where
    one : (m : ℕ) → m < 10 → value 0 (numeral m) ≡ m
    one m h = ap (value 0) (numeral_one m h) ∙ value_one m

    more : (m : ℕ) → 10 ≤ m → value 0 (numeral (m / 10)) ≡ m / 10 → value 0 (numeral m) ≡ m
    more m h p = rw (numeral-more m h, value-more (numeral (m / 10)) 0 (48 + m % 10), p) (omega (arith, div-add-mod' m 10))

-- the first digit: there is one, and it is not 0 unless the number is
record First (n : ℕ) : Type 0 where
  some : 0 < length (numeral n)
  low : 48 ≤ get_or (numeral n) 0 0
  above : 0 < n → 48 < get_or (numeral n) 0 0

first : (n : ℕ) → First n
first n = by_digits First one more (suc n) n (omega arith)
  where
    one : (m : ℕ) → m < 10 → First m
    one m h =
        let e : get_or (numeral m) 0 0 ≡ 48 + m = ap (λ (l : List ℕ). get_or l 0 0) (numeral_one m h) in
        record { some = omega (arith, ap length (numeral_one m h)); low = omega arith; above = λ l. omega arith }

    more : (m : ℕ) → 10 ≤ m → First (m / 10) → First m
    more m h f =
        let e : get_or (numeral m) 0 0 ≡ get_or (numeral (m / 10)) 0 0 =
        ap (λ (l : List ℕ). get_or l 0 0) (numeral-more m h) ∙ get_or-append (numeral (m / 10)) ((48 + m % 10) ∷ []) 0 0 f.some in
        record { some = omega (arith, more-length m h); low = omega (arith, f.low); above = λ l. omega (arith, f.above (omega arith)) }

proper-is : (n : ℕ) → n < 10 ^ 9 → proper (numeral n) ≡ true
proper-is n h =
    case (ltb n 10) (λ y. sym (proper_one (numeral n) (ap length (numeral_one n (ltb-true n 10 y)))))
    (λ z. let t : 10 ≤ n = ltb-false n 10 z in
    sym (proper_some (numeral n) (omega (arith, more-length n t, (first (n / 10)).some)) (numeral_short 8 n h))
    ∙ ap not (ne_eqb (get_or (numeral n) 0 0) 48 (λ e. omega (arith, (first n).above (omega arith)))))

-- ---- numbers and cells

-- no digit comes next
pub record Stops (rest : List ℕ) : Type 0 where
  pub next : is_digit (get_or rest 0 0) ≡ false

while_stops : (rest : List ℕ) → Stops rest → take_while is_digit rest ≡ []
unfolding take_while
while_stops [] s = refl
while_stops (x ∷ rest) s = rw s.next

pub number-back : (n : ℕ) → n < 10 ^ 9 → (rest : List ℕ) → Stops rest → decimal_number (numeral n ++ rest) ≡ got n rest
unfolding decimal_number span proper_number
number-back n h rest s =
    let f : take_while is_digit (numeral n ++ rest) ≡ numeral n =
    passing n rest ∙ ap (λ (l : List ℕ). numeral n ++ l) (while_stops rest s) ∙ append-nil (numeral n) in
    rw (f, drop-append_seam (numeral n) rest, proper-is n h, value-is n)

no_minus : (n : ℕ) (rest : List ℕ) → at_minus (numeral n ++ rest) ≡ false
unfolding at_minus
no_minus n rest =
    let f = first n in
    ap (λ (c : ℕ). eqb c 45) (get_or-append (numeral n) rest 0 0 f.some) ∙ ne_eqb (get_or (numeral n) 0 0) 45 (λ e. omega (arith, f.low))

cell-back : (z : ℤ) → nat_abs z < 10 ^ 9 → (rest : List ℕ) → Stops rest → cell (signed_numeral z ++ rest) ≡ got z rest
unfolding cell natural negative minus at_minus signed_numeral
cell-back (pos n) h rest s = rw (no_minus n rest, number-back n h rest s)
cell-back (negsuc n) h rest s = rw (number-back (suc n) h rest s, ne_eqb (suc n) 0 (λ e. omega arith))

pub cell-at-back : (x : ℕ) (z : ℤ) → nat_abs z < 10 ^ 9 → (rest : List ℕ) → Stops rest → cell_at x (cell_text x z ++ rest) ≡ got z rest
unfolding cell_at cell_text bytes codes
cell-at-back x z h rest s = case (eqb x 0) (λ y. rw y (cell-back z h rest s)) (λ n. rw n (cell-back z h rest s))

pub comma_stops : (x : ℕ) (z : ℤ) (rest : List ℕ) → Stops (cell_text (suc x) z ++ rest)
unfolding cell_text is_digit
comma_stops x z rest = record { next = rw (ne_eqb (suc x) 0 (λ e. omega arith)) }

pub line_stops : (rest : List ℕ) → Stops (newline ++ rest)
unfolding newline is_digit
line_stops rest = record { next = refl }

-- ---- keys

pub bytes_back : (key rest : List ℕ) → bytes key (key ++ rest) ≡ got tt rest
unfolding bytes
bytes_back [] rest = refl
bytes_back (b ∷ key) rest = rw (eq-eqb b b refl) (bytes_back key rest)

-- ---- hex

-- c is the hex digit of d
record Hexed (c d : ℕ) : Type 0 where
  goes : in_line c ≡ true
  dark : space c ≡ false
  plain : mark c ≡ false
  means : digit c ≡ d
  small : eqb d 16 ≡ false

hexed : (d : ℕ) → d < 16 → Hexed (hex_digit d) d
unfolding in_line mark
hexed d h = case (ltb d 10) (λ y. low (ltb-true d 10 y)) (λ z. high (ltb-false d 10 z))
  where
    low : d < 10 → Hexed (hex_digit d) d
    low l =
        rw (← hex_low d l)
        (record {
          goes = ap not (ne_eqb (48 + d) 10 (λ e. omega arith));
          dark = sym (space_no {c = 48 + d} (inr (omega arith)) (λ e. omega arith));
          plain = ne_eqb (48 + d) 35 (λ e. omega arith);
          means = sym (digit-decimal {c = 48 + d} (omega arith) (omega arith)) ∙ omega arith;
          small = ne_eqb d 16 (λ e. omega arith);
        })

    high : 10 ≤ d → Hexed (hex_digit d) d
    high l =
        rw (← hex_high d l)
        (record {
          goes = ap not (ne_eqb (97 + (d - 10)) 10 (λ e. omega arith));
          dark = sym (space_no {c = 97 + (d - 10)} (inr (omega arith)) (λ e. omega arith));
          plain = ne_eqb (97 + (d - 10)) 35 (λ e. omega arith);
          means = sym (digit-small {c = 97 + (d - 10)} (omega arith) (omega arith)) ∙ omega arith;
          small = ne_eqb d 16 (λ e. omega arith);
        })

module _ {c₁ c₂ c₃ c₄ c₅ c₆ d₁ d₂ d₃ d₄ d₅ d₆ : ℕ} (a : Hexed c₁ d₁) (b : Hexed c₂ d₂) (c : Hexed c₃ d₃) (d : Hexed c₄ d₄) (e : Hexed c₅ d₅) (f : Hexed c₆ d₆) where
  six_while : (rest : List ℕ) → take_while in_line (c₁ ∷ c₂ ∷ c₃ ∷ c₄ ∷ c₅ ∷ c₆ ∷ 10 ∷ rest) ≡ c₁ ∷ c₂ ∷ c₃ ∷ c₄ ∷ c₅ ∷ c₆ ∷ []
  unfolding take_while in_line
  six_while rest = rw (a.goes, b.goes, c.goes, d.goes, e.goes, f.goes)

  six_means : hex_to_rgb8 (c₁ ∷ c₂ ∷ c₃ ∷ c₄ ∷ c₅ ∷ c₆ ∷ []) ≡ Ok (record { r = d₁ * 16 + d₂; g = d₃ * 16 + d₄; b = d₅ * 16 + d₆ })
  unfolding hex_to_rgb8 stripped drop_while six_digits all_digits any pair
  six_means = rw (a.dark, f.dark, a.plain, a.means, b.means, c.means, d.means, e.means, f.means, a.small, b.small, c.small, d.small, e.small, f.small)

pub colour-back : (c : Rgb8) → InBytes c → (rest : List ℕ) → colour_line (colour_text c ++ rest) ≡ got c rest
unfolding colour_text hex_line hex_colour hex_byte bytes codes newline span
colour-back c h rest =
    let r₁ = hexed (c.r / 16) (omega (arith, h.red)) in
    let r₂ = hexed (c.r % 16) (omega arith) in
    let g₁ = hexed (c.g / 16) (omega (arith, h.green)) in
    let g₂ = hexed (c.g % 16) (omega arith) in
    let b₁ = hexed (c.b / 16) (omega (arith, h.blue)) in
    let b₂ = hexed (c.b % 16) (omega arith) in
    rw (six_while r₁ r₂ g₁ g₂ b₁ b₂ rest, six_means r₁ r₂ g₁ g₂ b₁ b₂, div-add-mod' c.r 16, div-add-mod' c.g 16, div-add-mod' c.b 16)
