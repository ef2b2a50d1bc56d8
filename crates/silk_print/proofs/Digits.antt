-- The digits that a number is written with, in decimal and in hex. Assumes nothing.
use Prim.Native.Nat.{ℕ, zero, suc, ◌+◌, ◌-◌, ◌/◌, ◌%◌, ◌^◌, ◌≤◌, ◌<◌}
use mathlib.Core.Path.{◌≡◌, sym, ap, ◌∙◌}
use mathlib.Core.Bool.{Bool, true, false}
use mathlib.Core.List.{List, [], ◌∷◌, ◌++◌}
use native.Mathlib.Nat.{pow-suc, not-suc-le-zero, div-lt_self, div-lt_iff_lt-mul}
use native.Mathlib.Omega.{arith}
use lib.Dec.{ltb}
use lib.ListN.{length, length-append}
use borrow.Author.Tests.{lt-ltb, le-ltb, ltb-true, ltb-false}
use Rattle.std.specs.Fmt.{decimal}
use Rattle.std.proofs.lemmas.Fmt.{AppendsLastDigit, decimal_from_appends, length-decimal-le_succ}
use Rattle.base.proofs.Counting.{case}
use Rattle.silk_print.specs.Print.{digits_in, numeral, hex_digit}

digits_one : (k n : ℕ) → ltb n 10 ≡ true → digits_in (suc k) n ≡ (48 + n) ∷ []
unfolding digits_in
digits_one k n y = ap (λ (b : Bool). elim b as (λ x. List ℕ) [ true ↦ (48 + n) ∷ [] | false ↦ digits_in k (n / 10) ++ (48 + n % 10) ∷ [] ]) y

digits_more : (k n : ℕ) → ltb n 10 ≡ false → digits_in (suc k) n ≡ digits_in k (n / 10) ++ (48 + n % 10) ∷ []
unfolding digits_in
digits_more k n z = ap (λ (b : Bool). elim b as (λ x. List ℕ) [ true ↦ (48 + n) ∷ [] | false ↦ digits_in k (n / 10) ++ (48 + n % 10) ∷ [] ]) z

enough : (k m n : ℕ) → n < k → n < m → digits_in k n ≡ digits_in m n
enough zero m n h l = absurd (not-suc-le-zero h)
enough (suc k) zero n h l = absurd (not-suc-le-zero l)
enough (suc k) (suc m) n h l =
    case (ltb n 10) (λ y. digits_one k n y ∙ sym (digits_one m n y))
    (λ z. let d : n / 10 < n = div-lt_self (omega (arith, ltb-false n 10 z)) (omega arith) in
    digits_more k n z ∙ ap (λ (s : List ℕ). s ++ (48 + n % 10) ∷ []) (enough k m (n / 10) (omega arith) (omega arith)) ∙ sym (digits_more m n z))

pub numeral_one : (n : ℕ) → n < 10 → numeral n ≡ (48 + n) ∷ []
unfolding numeral
numeral_one n h = digits_one n n (lt-ltb n 10 h)

pub numeral-more : (n : ℕ) → 10 ≤ n → numeral n ≡ numeral (n / 10) ++ (48 + n % 10) ∷ []
unfolding numeral
numeral-more n h =
    let d : n / 10 < n = div-lt_self (omega arith) (omega arith) in
    digits_more n n (le-ltb n 10 h) ∙ ap (λ (s : List ℕ). s ++ (48 + n % 10) ∷ []) (enough n (suc (n / 10)) (n / 10) d (omega arith))

pub more-length : (n : ℕ) → 10 ≤ n → length (numeral n) ≡ length (numeral (n / 10)) + 1
more-length n h = ap length (numeral-more n h) ∙ length-append (numeral (n / 10)) ((48 + n % 10) ∷ [])

-- the library's digits of a number
pub decimal-numeral : (n : ℕ) → n < 2 ^ 64 → decimal n ≡ numeral n
unfolding numeral
decimal-numeral n h =
    let each : AppendsLastDigit digits_in = record { one = λ k m l. digits_one k m (lt-ltb m 10 l); more = λ k m l. digits_more k m (le-ltb m 10 l) } in
    sym (decimal_from_appends digits_in each (suc n) n h (omega (arith, length-decimal-le_succ n h)))

-- a number below 10 ^ k has at most k digits
pub numeral_short : (k n : ℕ) → n < 10 ^ suc k → length (numeral n) ≤ suc k
numeral_short zero n h = omega (arith, ap length (numeral_one n h))
numeral_short (suc k) n h =
    case (ltb n 10) (λ y. omega (arith, ap length (numeral_one n (ltb-true n 10 y))))
    (λ z. let d : n / 10 < 10 ^ suc k = (div-lt_iff_lt-mul {k = 10} {x = n} {y = 10 ^ suc k} (omega arith)).1 (rw (pow-suc 10 (suc k)) at h) in
    omega (arith, more-length n (ltb-false n 10 z), numeral_short k (n / 10) d))

pub hex_low : (d : ℕ) → d < 10 → 48 + d ≡ hex_digit d
unfolding hex_digit
hex_low d h = rw (lt-ltb d 10 h)

pub hex_high : (d : ℕ) → 10 ≤ d → 97 + (d - 10) ≡ hex_digit d
unfolding hex_digit
hex_high d h = rw (le-ltb d 10 h) (omega arith)
