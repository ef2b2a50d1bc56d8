-- Outputs that are filled one number a turn or the three of a colour, and the best of a palette's first entries. Assumes nothing.
use Prim.Native.Nat.{ℕ, zero, suc, ◌+◌, ◌-◌, ◌*◌, ◌/◌, ◌%◌, ◌≤◌, ◌<◌}
use mathlib.Core.Path.{◌≡◌, refl, sym, ap, ◌∙◌}
use mathlib.Core.List.{List, ◌++◌}
use native.Mathlib.Nat.{add-zero, mul-le-mul}
use native.Mathlib.Numerals.{add-one}
use native.Mathlib.Omega.{arith}
use lib.ListN.{length, get_or, drop, set, length-append, length-drop}
use lib.Seq.{drop-append_seam, drop-drop}
use lib.Ieee.{Float, lt, nan}
use Rattle.std.proofs.lemmas.List.{get_or_append_left, get_or-drop}
use Rattle.std.specs.Prelude.{Some}
use Rattle.base.specs.Outputs.{filled}
use Rattle.base.proofs.Counting.{case}
use Rattle.base.proofs.Fills.{filled_more}
use Rattle.color.specs.declared.Lab.{Lab}
use Rattle.color.specs.Lab.{entry, dist2}
use Rattle.color.specs.Least.{lowered}
use Rattle.color_lists.specs.Entries.{best_of}

-- ---- an output

module _ {A : Type 0} (l : List A) where
  -- one number more
  pub fill_more : (v : ℕ → A) {m : List A} {i : ℕ} {x : A} → m ≡ filled i v l → i < length l → x ≡ v i → set m i x ≡ filled (i + 1) v l
  fill_more v {m} {i} {x} e h q = ap (λ k. set k i x) e ∙ filled_more i v l x h q

  -- the three numbers of one colour more, v i k being the number k of the colour i
  pub threes_more : (v : ℕ → ℕ → A) {m : List A} {i : ℕ} {x y z : A} → m ≡ filled (3 * i) (λ k. v (k / 3) (k % 3)) l → 3 * i + 2 < length l →
      x ≡ v i 0 → y ≡ v i 1 → z ≡ v i 2 →
      set (set (set m (3 * i) x) (3 * i + 1) y) (3 * i + 2) z ≡ filled (3 * (i + 1)) (λ k. v (k / 3) (k % 3)) l
  threes_more v {m} {i} {x} {y} {z} e h p q r =
      let f : ℕ → A = λ k. v (k / 3) (k % 3) in
      let at : (k j : ℕ) → j < 3 → k ≡ 3 * i + j → v i j ≡ f k = λ k j b o. ap (λ d. v d j) (omega arith) ∙ ap (v (k / 3)) (omega arith) in
      let a = fill_more f e (omega arith) (p ∙ at (3 * i) 0 (omega arith) (omega arith)) in
      let b = fill_more f a (omega arith) (q ∙ at (3 * i + 1) 1 (omega arith) refl) in
      let two : 3 * i + 1 + 1 ≡ 3 * i + 2 = omega arith in
      let end : 3 * i + 2 + 1 ≡ 3 * (i + 1) = omega arith in
      fill_more f (b ∙ ap (λ k. filled k f l) two) (omega arith) (r ∙ at (3 * i + 2) 2 (omega arith) refl) ∙ ap (λ k. filled k f l) end

-- ---- the matrix

-- at most 256 colours make a matrix whose places fit
pub square_le : (n : ℕ) → n ≤ 256 → n * n ≤ 65536
square_le n h = mul-le-mul h h

-- ---- the nearest entry

-- one entry more
pub best_more : (palette : List Float) (p : Lab) (k : ℕ) → lowered (Some (best_of palette p k)) (record { at = k; value = dist2 p (entry palette k) }) ≡ best_of palette p (k + 1)
unfolding best_of
best_more palette p k = rw (add-one k) refl

pub best_le : (palette : List Float) (p : Lab) (k : ℕ) → (best_of palette p k).at ≤ k
unfolding best_of lowered
best_le palette p zero = omega arith
best_le palette p (suc k) =
    case (lt (dist2 p (entry palette k)) (best_of palette p k).value) (λ y. rw y (omega arith)) (λ z. let h = best_le palette p k in rw z (omega arith))

-- the colour k stands at the front of what is left of a palette, and the colours past it come after that
pub record Next (palette : List Float) (k : ℕ) (front rest : List Float) : Type 0 where
  pub colour : entry front 0 ≡ entry palette k
  pub past : rest ≡ drop (3 * (k + 1)) palette
  pub inside : 3 * (k + 1) ≤ length palette

pub next_colour : (palette front rest : List Float) (k : ℕ) → drop (3 * k) palette ≡ front ++ rest → length front ≡ 3 → Next palette k front rest
unfolding entry
next_colour palette front rest k e n =
    let whole : length palette - 3 * k ≡ 3 + length rest = sym (length-drop (3 * k) palette) ∙ ap length e ∙ length-append front rest ∙ ap (λ (i : ℕ). i + length rest) n in
    let at : (i : ℕ) → i < 3 → get_or front i nan ≡ get_or palette (3 * k + i) nan =
    λ i h. sym (get_or_append_left front rest nan i (omega (arith, n))) ∙ ap (λ (l : List Float). get_or l i nan) (sym e) ∙ get_or-drop (3 * k) palette i nan in
    let x : get_or front 0 nan ≡ get_or palette (3 * k) nan = at 0 (omega arith) ∙ ap (λ (i : ℕ). get_or palette i nan) (add-zero (3 * k)) in
    let y = at 1 (omega arith) in
    let z = at 2 (omega arith) in
    let past : 3 * (k + 1) ≡ 3 * k + length front = omega (arith, n) in
    record {
      colour = rw (x, y, z) refl;
      past = sym (ap (λ (i : ℕ). drop i palette) past ∙ sym (drop-drop (length front) (3 * k) palette) ∙ ap (drop (length front)) e ∙ drop-append_seam front rest);
      inside = omega arith;
    }
