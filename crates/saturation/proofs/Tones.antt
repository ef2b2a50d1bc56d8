-- Laws of saturation: the loop that writes it, and the loop that tests it. Assumes nothing.
use Prim.Native.Nat.{ℕ, zero, suc, ◌+◌, ◌*◌, ◌%◌, ◌<◌}
use mathlib.Core.Path.{◌≡◌, refl, sym, ap, ◌∙◌}
use mathlib.Core.Bool.{Bool, not, ◌||◌, cond}
use mathlib.Core.List.{List}
use native.Mathlib.Nat.{le_refl}
use native.Mathlib.Decide.{dec_lt}
use native.Mathlib.Omega.{arith}
use lib.Dec.{eqb}
use lib.Ieee.{Float, nan}
use lib.ListN.{length, get_or, set, length-set}
use Rattle.base.specs.Places.{any}
use Rattle.base.specs.Outputs.{filled}
use Rattle.base.proofs.Counting.{any_same}
use Rattle.base.proofs.Fills.{filled_at, filled_past, filled_is, filled_none, filled_more}
use Rattle.base.specs.Doubles.{◌⊗◌}
use Rattle.color.specs.Lab.{entry, within}
use Rattle.rules.specs.Palette.{palette_of, out_of_range, saturate}

-- the double i of a saturated palette
unfoldable pub part : List Float → Float → ℕ → Float
part lab beta i = cond (eqb (i % 3) 0) (get_or lab i nan) (get_or lab i nan ⊗ beta)

module _ (lab : List Float) (beta : Float) (i : ℕ) where
  pub part_l : part lab beta (3 * i) ≡ get_or lab (3 * i) nan
  unfolding part
  part_l = let e : (3 * i) % 3 ≡ 0 = omega arith in rw e

  pub part_a : part lab beta (3 * i + 1) ≡ get_or lab (3 * i + 1) nan ⊗ beta
  unfolding part
  part_a = let e : (3 * i + 1) % 3 ≡ 1 = omega arith in rw e

  pub part_b : part lab beta (3 * i + 2) ≡ get_or lab (3 * i + 2) nan ⊗ beta
  unfolding part
  part_b = let e : (3 * i + 2) % 3 ≡ 2 = omega arith in rw e

-- ---- writing

-- the doubles before i are those of the saturated palette
pub record Saturates (old : List Float) (beta : Float) (i : ℕ) (new : List Float) : Type 0 where
  pub size : length new ≡ length old
  pub is : new ≡ filled i (part old beta) old

module _ (old : List Float) (beta : Float) where
  pub saturates_start : Saturates old beta 0 old
  saturates_start = record { size = refl; is = filled_none (part old beta) old }

  -- the double i stays
  stays : {i : ℕ} {new : List Float} → Saturates old beta i new → i < length old → part old beta i ≡ get_or old i nan → Saturates old beta (i + 1) new
  stays {i} {new} s h e =
      record {
        size = s.size;
        is = filled_is (i + 1) (part old beta) old new nan (omega arith) s.size (λ p k. low p k (dec_lt p i)) (λ p k. rw s.is (filled_past i (part old beta) old nan p (omega arith)));
      }
    where
      low : (p : ℕ) → p < i + 1 → Dec (p < i) → get_or new p nan ≡ part old beta p
      low p k (yes y) = rw s.is (filled_at i (part old beta) old nan p y)
      low p k (no z) = let q : p ≡ i = omega arith in rw (q, s.is) (filled_past i (part old beta) old nan i (le_refl i) ∙ sym e)

  -- the double i is multiplied
  grows : {i : ℕ} {new next : List Float} → Saturates old beta i new → i < length old → part old beta i ≡ get_or old i nan ⊗ beta
      → next ≡ set new i (get_or new i nan ⊗ beta) → Saturates old beta (i + 1) next
  grows {i} {new} s h e is =
      let g : get_or new i nan ≡ get_or old i nan = ap (λ (l : List Float). get_or l i nan) s.is ∙ filled_past i (part old beta) old nan i (le_refl i) in
      record {
        size = rw is (simp length-set s.size);
        is = is ∙ rw (g, s.is) (filled_more i (part old beta) old (get_or old i nan ⊗ beta) h (sym e));
      }

  -- an entry more
  pub saturates_step : (i : ℕ) {new one two : List Float} → Saturates old beta (3 * i) new → 3 * i + 2 < length old
      → one ≡ set new (3 * i + 1) (get_or new (3 * i + 1) nan ⊗ beta) → two ≡ set one (3 * i + 2) (get_or one (3 * i + 2) nan ⊗ beta)
      → Saturates old beta (3 * (i + 1)) two
  saturates_step i s h e f =
      let a = grows (stays s (omega arith) (part_l old beta i)) (omega arith) (part_a old beta i) e in
      let p : 3 * i + 1 + 1 ≡ 3 * i + 2 = omega arith in
      let b = grows (rw p at a) h (part_b old beta i) f in
      let q : 3 * i + 2 + 1 ≡ 3 * (i + 1) = omega arith in
      rw q at b

  pub saturates_end : (k : ℕ) {new : List Float} → Saturates old beta (3 * k) new → new ≡ (saturate beta (palette_of old k)).lab
  unfolding saturate part
  saturates_end k s = s.is

-- ---- testing

-- the double i of a saturated palette is out of range
unfoldable pub too_far : List Float → Float → ℕ → Bool
too_far lab beta i = not (within (part lab beta i))

-- a part of the colour i of a saturated palette is
unfoldable pub colour_far : List Float → Float → ℕ → Bool
colour_far lab beta i =
    let c = entry lab i in
    not (within c.l) || not (within (c.a ⊗ beta)) || not (within (c.b ⊗ beta))

module _ (lab : List Float) (beta : Float) where
  -- three doubles are those of a colour
  of_colour : (i : ℕ) (b : Bool) → too_far lab beta (3 * i + 2) || (too_far lab beta (3 * i + 1) || (too_far lab beta (3 * i) || b)) ≡ (colour_far lab beta i || b)
  unfolding too_far colour_far entry
  of_colour i b = rw (part_l lab beta i, part_a lab beta i, part_b lab beta i) (grind arith)

  pub colours_far : (k : ℕ) → any k (colour_far lab beta) ≡ any (3 * k) (too_far lab beta)
  unfolding any
  colours_far zero = refl
  colours_far (suc k) =
      let three : 3 * suc k ≡ suc (suc (suc (3 * k))) = omega arith in
      let two : 3 * k + 2 ≡ suc (suc (3 * k)) = omega arith in
      let one : 3 * k + 1 ≡ suc (3 * k) = omega arith in
      ap (λ (b : Bool). colour_far lab beta k || b) (colours_far k)
      ∙ sym (of_colour k (any (3 * k) (too_far lab beta)))
      ∙ rw (two, one, three) refl

  pub too_far-any : (k : ℕ) → out_of_range (saturate beta (palette_of lab k)) ≡ any (3 * k) (too_far lab beta)
  unfolding out_of_range saturate too_far part
  too_far-any k = any_same (3 * k) _ _ (λ p h. ap (λ (x : Float). not (within x)) (filled_at (3 * k) (part lab beta) lab nan p h))
