-- What is left of a text past the bytes at its front that pass a test, or before those at its end. Assumes nothing.
use Rattle.std.proofs.Common.{◌≡◌, ℕ, ◌-◌, ◌≤◌, Bool, List, [], ◌∷◌, ◌++◌, reverse, length, take, drop, refl, sym, ap, ◌∙◌, arith}
use Rattle.std.specs.List.{prefix_len}
use Rattle.std.proofs.lemmas.List.{length-reverse, length-drop, take-append-drop}
use Rattle.std.proofs.lemmas.List.Sums.{prefix_len-le-length}
use mathlib.Core.List.{reverse-append, reverse-reverse}
use lib.Seq.{take_all, drop-append_seam}
use Rattle.base.proofs.Counting.{case}
use Rattle.hex_colour.specs.Hex.{drop_while}

drop-prefix_len : (t : ℕ → Bool) (l : List ℕ) → drop (prefix_len t l) l ≡ drop_while t l
unfolding drop_while
drop-prefix_len t [] = refl
drop-prefix_len t (x ∷ xs) = let h = drop-prefix_len t xs in case (t x) (λ y. rw y (grind (arith, h))) (λ z. rw z refl)

-- n bytes at the front pass
pub past_front : (t : ℕ → Bool) (l : List ℕ) {n : ℕ} → n ≡ prefix_len t l → take (length l - n) (drop n l) ≡ drop_while t l
past_front t l {n} e = take_all (length l - n) (drop n l) (omega (arith, length-drop n l)) ∙ ap (λ k. drop k l) e ∙ drop-prefix_len t l

-- the end of a list is the front of the reversed one
turned : (l : List ℕ) (n : ℕ) → n ≤ length l → reverse (drop n (reverse l)) ≡ take (length l - n) l
turned l n h =
    let m : ℕ = length l - n in
    let e : reverse l ≡ reverse (drop m l) ++ reverse (take m l) = ap reverse (sym (take-append-drop m l)) ∙ reverse-append (take m l) (drop m l) in
    let k : n ≡ length (reverse (drop m l)) = omega (arith, length-reverse (drop m l), length-drop m l) in
    ap (λ x. reverse (drop n x)) e
    ∙ ap (λ i. reverse (drop i (reverse (drop m l) ++ reverse (take m l)))) k
    ∙ ap reverse (drop-append_seam (reverse (drop m l)) (reverse (take m l)))
    ∙ reverse-reverse (take m l)

-- n bytes at the end pass
pub before_end : (t : ℕ → Bool) (l : List ℕ) {n : ℕ} → n ≡ prefix_len t (reverse l) → take (length l - n) l ≡ reverse (drop_while t (reverse l))
before_end t l {n} e =
    sym (turned l n (omega (arith, e, length-reverse l, prefix_len-le-length t (reverse l))))
    ∙ ap reverse (ap (λ k. drop k (reverse l)) e ∙ drop-prefix_len t (reverse l))
