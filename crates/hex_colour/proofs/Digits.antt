-- Which codes are hex digits and white space, and what the digits of a text come to. Assumes nothing.
use Prim.Native.Nat.{ℕ, ◌+◌, ◌*◌, ◌-◌, ◌≤◌, ◌<◌}
use mathlib.Core.Path.{◌≡◌}
use mathlib.Core.Logic.{◌⊎◌, inl, inr}
use mathlib.Core.Bool.{true, false}
use mathlib.Core.List.{List}
use native.Mathlib.Omega.{arith}
use lib.Dec.{leb, eqb}
use lib.ListN.{length, get_or}
use borrow.Author.Count.{below_none, below_more}
use borrow.Author.Tests.{le-leb, lt-leb, eq-eqb, ne_eqb, eqb-true, eqb-false, not-false}
use Rattle.base.proofs.Counting.{case, both, left, right, leb_yes, not_true, any_yes, any_no}
use Rattle.std.specs.Prelude.{Some, None}
use Rattle.hex_colour.specs.Hex.{in_range, space, digit, all_digits, pair, six_digits}

in_range_lem : (a b c : ℕ) → a ≤ c → c ≤ b → in_range a b c ≡ true
unfolding in_range
in_range_lem a b c p q = both (le-leb a c p) (le-leb c b q)

off_range : (a b c : ℕ) → (c < a) ⊎ (b < c) → in_range a b c ≡ false
unfolding in_range
off_range a b c (inl p) = rw (lt-leb a c p)
off_range a b c (inr q) = case (leb a c) (λ y. rw (y, lt-leb c b q)) (λ z. rw z)

from_range : (a b c : ℕ) → in_range a b c ≡ true → (a ≤ c) × (c ≤ b)
unfolding in_range
from_range a b c y = (leb_yes {m = a} {n = c} (left (leb a c) (leb c b) y), leb_yes {m = c} {n = b} (right (leb a c) (leb c b) y))

-- ---- white space

pub space_no : {c : ℕ} → (c < 9) ⊎ (13 < c) → (c ≡ 32 → ⊥) → false ≡ space c
unfolding space
space_no {c} p n = rw (off_range 9 13 c p, ne_eqb c 32 n)

-- ---- digits

pub digit-decimal : {c : ℕ} → 48 ≤ c → c ≤ 57 → c - 48 ≡ digit c
unfolding digit
digit-decimal {c} p q = rw (in_range_lem 48 57 c p q)

pub digit-small : {c : ℕ} → 97 ≤ c → c ≤ 102 → c - 97 + 10 ≡ digit c
unfolding digit
digit-small {c} p q = rw (off_range 48 57 c (inr (omega arith)), in_range_lem 97 102 c p q)

digit_le : (c : ℕ) → digit c ≤ 16
unfolding digit
digit_le c =
    case (in_range 48 57 c) (λ y. let h = from_range 48 57 c y in rw y (omega arith))
    (λ x. case (in_range 97 102 c) (λ y. let h = from_range 97 102 c y in rw (x, y) (omega arith))
    (λ z. case (in_range 65 70 c) (λ y. let h = from_range 65 70 c y in rw (x, z, y) (omega arith)) (λ w. rw (x, z, w) (omega arith))))

some_no : (l : List ℕ) → all_digits l ≡ false → (i : ℕ) × (i < length l) × (digit (get_or l i 0) ≡ 16)
unfolding all_digits
some_no l z =
    let a = any_yes (length l) (λ k. eqb (digit (get_or l k 0)) 16) (not-false _ z) in
    (a.0, a.1, eqb-true (digit (get_or l a.0 0)) 16 a.2)

pub digit_at : (l : List ℕ) (i : ℕ) → all_digits l ≡ true → i < length l → digit (get_or l i 0) < 16
unfolding all_digits
digit_at l i y h =
    let d = digit (get_or l i 0) in
    let n = eqb-false d 16 (any_no (length l) (λ k. eqb (digit (get_or l k 0)) 16) (not_true y) i h) in
    omega (arith, digit_le (get_or l i 0))

-- ---- six of them

pub six-length : (l : List ℕ) → (length l ≡ 6 → ⊥) → six_digits l ≡ None
unfolding six_digits
six-length l n = rw (ne_eqb (length l) 6 n)

-- two neighbours that are not both digits
pub six_no : (l : List ℕ) (i : ℕ) → length l ≡ 6 → i + 1 < 6 → ((digit (get_or l i 0) < 16) × (digit (get_or l (i + 1) 0) < 16) → ⊥) → six_digits l ≡ None
unfolding six_digits
six_no l i e h n =
    case (all_digits l) (λ y. absurd (n (digit_at l i y (omega arith), digit_at l (i + 1) y (omega arith)))) (λ z. rw (eq-eqb (length l) 6 e, z))

abbrev Low : List ℕ → ℕ → Type 0
Low l i = digit (get_or l i 0) < 16

below_six : (l : List ℕ) → Low l 0 → Low l 1 → Low l 2 → Low l 3 → Low l 4 → Low l 5 → (i : ℕ) → i < 6 → Low l i
below_six l a b c d e f =
    let P : ℕ → Type 0 = λ i. digit (get_or l i 0) < 16 in
    below_more P 5 (below_more P 4 (below_more P 3 (below_more P 2 (below_more P 1 (below_more P 0 (below_none P) a) b) c) d) e) f

-- two neighbours that are digits, and the number d that they write
abbrev pub Pair : List ℕ → ℕ → ℕ → Type 0
Pair l i d = ((digit (get_or l i 0) < 16) × (digit (get_or l (i + 1) 0) < 16)) × (d ≡ digit (get_or l i 0) * 16 + digit (get_or l (i + 1) 0))

pub six_yes : (l : List ℕ) (r g b : ℕ) → length l ≡ 6 → Pair l 0 r → Pair l 2 g → Pair l 4 b → six_digits l ≡ Some (record { r = r; g = g; b = b })
unfolding six_digits pair
six_yes l r g b e p q s =
    case (all_digits l) (λ y. rw (eq-eqb (length l) 6 e, y) (let a = p.1 in let b = q.1 in let c = s.1 in cc))
    (λ z. let a = some_no l z in let h : digit (get_or l a.0 0) < 16 = below_six l p.0.0 p.0.1 q.0.0 q.0.1 s.0.0 s.0.1 a.0 (omega arith) in absurd (omega arith))
