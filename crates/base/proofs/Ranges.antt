-- Whether a place passes a test, as the library's `any` over a range or a list tells it. Assumes nothing.
use Rattle.std.proofs.Common.{◌≡◌, ℕ, ◌<◌, Bool, true, false, List, length, get_or, sym, arith}
use Rattle.std.specs.Bool.{MatchBool}
use Rattle.std.specs.List.{range_with_len, AllWithin, HoldsAt}
use Rattle.std.proofs.lemmas.List.FromFn.{length-range_with_len, get_or-range_with_len}
use Rattle.base.specs.Places.{any}
use Rattle.base.proofs.Counting.{case, clash, any_yes, yes_any}

-- the number at its own place of the range
itself : (n k : ℕ) → k < n → get_or (range_with_len 0 n) k 0 ≡ k
itself n k l = omega (arith, get_or-range_with_len 0 n k 0 l)

pub any-from_range : (n : ℕ) (t : ℕ → Bool) (r : Bool) → MatchBool r ((k : ℕ) × (k < length (range_with_len 0 n)) × HoldsAt (λ x. t x ≡ true) (range_with_len 0 n) k) (AllWithin (λ x. t x ≡ false) (range_with_len 0 n) 0 (length (range_with_len 0 n))) → r ≡ any n t
any-from_range n t true w =
    let l : w.0 < n = omega (arith, w.1, length-range_with_len 0 n) in
    sym (yes_any n t w.0 l (rw (itself n w.0 l) at (w.2 0)))
any-from_range n t false f =
    case (any n t)
    (λ y. let w = any_yes n t y in clash w.2 (rw (itself n w.0 w.1) at (f w.0 0 (omega arith) (omega (arith, w.1, length-range_with_len 0 n)))))
    (λ z. sym z)

pub any-from_list : {A : Type 0} (xs : List A) (t : A → Bool) (d : A) (r : Bool) → MatchBool r ((k : ℕ) × (k < length xs) × HoldsAt (λ x. t x ≡ true) xs k) (AllWithin (λ x. t x ≡ false) xs 0 (length xs)) → r ≡ any (length xs) (λ p. t (get_or xs p d))
any-from_list xs t d true w = sym (yes_any (length xs) (λ p. t (get_or xs p d)) w.0 w.1 (w.2 d))
any-from_list xs t d false f =
    case (any (length xs) (λ p. t (get_or xs p d)))
    (λ y. let w = any_yes (length xs) (λ p. t (get_or xs p d)) y in clash w.2 (f w.0 d (omega arith) w.1))
    (λ z. sym z)
