-- A double that is near 0 stays in range when it is multiplied by one that is near 0 too. Assumes nothing.
use Prim.Native.Nat.{ℕ, ◌+◌, ◌*◌, ◌%◌, ◌^◌, ◌≤◌, ◌<◌}
use mathlib.Core.Path.{◌≡◌, refl, sym, ap, ◌∙◌}
use mathlib.Core.Logic.{⊎_elim}
use mathlib.Core.Bool.{Bool, true, false, not, ◌&&◌, ◌||◌, cond, false≢true}
use mathlib.Core.List.{List}
use native.Mathlib.Nat.{le_refl, le_trans, le_of_eq, mul-le-mul, mul-le-mul_right, mul-mul-mul_comm, mul-one, mul-pos, add_comm}
use native.Mathlib.Omega.{arith}
use borrow.Author.Tests.{not-false, ltb-false, lt-ltb}
use lib.Dec.{eqb, ltb}
use lib.IntN.{ℤ, pos}
use lib.ListN.{get_or}
use lib.Ieee.{Float, nan, inf, fin, unlike, round, mul, neg, le, lt, eq, up, down}
use lib.Ieee.Fits.{down_pos}
use Rattle.base.specs.Places.{any}
use Rattle.base.specs.Doubles.{◌⊗◌, decimal}
use Rattle.base.proofs.Counting.{case, clash, both, left, right, either, or_left, not_true, yes_eqb, any_yes, any_no}
use Rattle.color.specs.Lab.{within}
use Rattle.color.proofs.Range.{Sized, not_above, round_size}
use Rattle.rules.specs.Palette.{palette_of, out_of_range, saturate}
use Rattle.refusals.specs.Near.{near, all_near}
use Rattle.refusals.proofs.Nearness.{out_of_range_lem}
use Rattle.saturation.specs.Near.{surely_in_range}
use Rattle.saturation.proofs.Tones.{part, too_far, too_far-any}

-- a double that is near a * 2 ^ j is finite and of that size
near_sized : (a j : ℕ) (x : Float) → near (fin false a (pos j)) x ≡ true → Sized (a * 2 ^ j) x
unfolding near neg le lt eq
near_sized a j nan h = absurd (false≢true h)
near_sized a j (inf true) h = absurd (false≢true h)
near_sized a j (inf false) h = absurd (false≢true h)
near_sized a j (fin true m e) h =
    let r = fin false a (pos j) in
    let t = left (le (neg r) (fin true m e)) (le (fin true m e) r) h in
    (true, (refl, le_trans (le_of_eq (sym (mul-one (m * up e)))) (not_above (m * up e * 1) (a * 2 ^ j * down e) (a * 2 ^ j * down e) (m * up e * 1) true sym t)))
near_sized a j (fin false m e) h =
    let r = fin false a (pos j) in
    let t = right (le (neg r) (fin false m e)) (le (fin false m e) r) h in
    (false, (refl, le_trans (le_of_eq (sym (mul-one (m * up e)))) (not_above (m * up e * 1) (a * 2 ^ j * down e) (m * up e * 1) (a * 2 ^ j * down e) true (λ z. z) t)))

-- the product of two, rounded
product : (n p : ℕ) (x y : Float) → n * p ≤ 1024 → Sized n x → Sized p y → Sized 1024 (x ⊗ y)
unfolding mul
product n p nan y N h g = absurd h.1
product n p (inf s) y N h g = absurd h.1
product n p (fin s m e) nan N h g = absurd g.1
product n p (fin s m e) (inf t) N h g = absurd g.1
product n p (fin s m e) (fin t k d) N h g = (
  unlike s t,
  round_size 1024 (omega arith) (m * up e * (k * up d)) (down e * down d) (mul-pos (down_pos e) (down_pos d))
      (le_trans (mul-le-mul h.1.1 g.1.1) (le_trans (le_of_eq (mul-mul-mul_comm n (down e) p (down d))) (mul-le-mul_right (down e * down d) N))) (unlike s t),
)

-- a ≤ b, as the comparison of doubles asks for it
at_most : (a b c d : ℕ) → (a ≡ b → c ≡ d) → a ≤ b → (ltb a b || (eqb c d && true)) ≡ true
at_most a b c d f h =
    case (ltb a b) (λ y. rw y) (λ z. let l : a ≡ b = omega (arith, h, ltb-false a b z) in rw (z, yes_eqb {m = c} {n = d} (f l)))

-- a number from 0 up is not below -1024
some_down : (a : ℕ) (e : ℤ) → ltb 0 (a + 1024 * down e) ≡ true
some_down a e = let d = down_pos e in lt-ltb 0 (a + 1024 * down e) (omega (arith, d))

-- of size 1024 is in range
sized_within : (x : Float) → Sized 1024 x → within x ≡ true
unfolding within decimal round neg le lt eq
sized_within nan h = absurd h.1
sized_within (inf s) h = absurd h.1
sized_within (fin true m e) h =
    both (at_most (m * up e * 1) (1024 * down e) (1024 * down e) (m * up e * 1) sym (le_trans (le_of_eq (mul-one (m * up e))) h.1.1))
    (or_left _ (some_down (m * up e * 1) e))
sized_within (fin false m e) h =
    both (or_left _ (let z = some_down (m * up e * 1) e in rw (add_comm (m * up e * 1) (1024 * down e)) at z))
    (at_most (m * up e * 1) (1024 * down e) (m * up e * 1) (1024 * down e) (λ z. z) (le_trans (le_of_eq (mul-one (m * up e))) h.1.1))

-- a lesser size
wider : (n : ℕ) (x : Float) → n ≤ 1024 → Sized n x → Sized 1024 x
wider n nan l h = absurd h.1
wider n (inf s) l h = absurd h.1
wider n (fin s m e) l h = (h.0, (h.1.0, le_trans h.1.1 (mul-le-mul_right (down e) l)))

-- no place passes
none : (n : ℕ) (t : ℕ → Bool) → ((p : ℕ) → p < n → t p ≡ false) → any n t ≡ false
none n t f = case (any n t) (λ y. let w = any_yes n t y in clash w.2 (f w.0 w.1)) (λ z. z)

-- ---- palettes

-- every double of a palette is near a * 2 ^ j, beta is near b * 2 ^ i, and the product of both is not above 1024
module _ (a j b i : ℕ) (l : a * 2 ^ j ≤ 1024) (N : a * 2 ^ j * (b * 2 ^ i) ≤ 1024) (lab : List Float) (k : ℕ) (all : all_near (fin false a (pos j)) (palette_of lab k) ≡ true) where
  -- each double is of that size, and so in range
  held : (p : ℕ) → p < 3 * k → Sized (a * 2 ^ j) (get_or lab p nan)
  unfolding all_near
  held p h = near_sized a j (get_or lab p nan) (not-false _ (any_no (3 * k) _ (not_true all) p h))

  kept : (p : ℕ) → p < 3 * k → within (get_or lab p nan) ≡ true
  kept p h = sized_within (get_or lab p nan) (wider (a * 2 ^ j) (get_or lab p nan) l (held p h))

  -- so none is out of range when it is multiplied
  in_range_lem : (beta : Float) → near (fin false b (pos i)) beta ≡ true → out_of_range (saturate beta (palette_of lab k)) ≡ false
  unfolding too_far part
  in_range_lem beta small = too_far-any lab beta k ∙ none (3 * k) (too_far lab beta) (λ p h. ap not (toned p h (eqb (p % 3) 0)))
    where
      toned : (p : ℕ) → p < 3 * k → (c : Bool) → within (cond c (get_or lab p nan) (get_or lab p nan ⊗ beta)) ≡ true
      toned p h true = kept p h
      toned p h false = sized_within (get_or lab p nan ⊗ beta) (product (a * 2 ^ j) (b * 2 ^ i) (get_or lab p nan) beta N (held p h) (near_sized b i beta small))

-- 1 times 1024 and 4 times 256 are 1024
pub surely : (beta : Float) (lab : List Float) (k : ℕ) → out_of_range (palette_of lab k) ≡ false → surely_in_range beta (palette_of lab k) ≡ true → out_of_range (saturate beta (palette_of lab k)) ≡ false
unfolding surely_in_range decimal round
surely beta lab k ranged e =
    let one = near (fin false 1 (pos 0)) beta in
    let four = near (fin false 1 (pos 2)) beta in
    let all = all_near (fin false 1 (pos 8)) (palette_of lab k) in
    ⊎_elim (in_range_lem 1 10 1 0 (le_refl 1024) (le_refl 1024) lab k (not-false _ (out_of_range_lem (palette_of lab k) ∙ ranged)) beta)
    (λ y. in_range_lem 1 8 1 2 (omega arith) (le_refl 1024) lab k (right four all y) beta (left four all y))
    (either one (four && all) e)
