-- What an outline leaves of the palette, and that its index is one of the palette's. Assumes nothing.
use Prim.Native.Nat.{ℕ, ◌≤◌, ◌<◌}
use mathlib.Core.Path.{◌≡◌, refl}
use mathlib.Core.Bool.{Bool, true, false, ◌&&◌, ◌||◌, cond}
use Rattle.std.specs.Prelude.{Option, None, Some, IfSome}
use native.Mathlib.Nat.{le_refl}
use native.Mathlib.Decide.{dec_lt}
use native.Mathlib.Omega.{arith}
use lib.Dec.{ltb, eqb}
use lib.ListN.{length, length-set}
use borrow.Author.Tests.{ltb-true, ltb-false, eq-eqb}
use Rattle.color.specs.declared.Lab.{Lab}
use Rattle.color.specs.Lab.{lab_to_rgb8}
use Rattle.rules.specs.declared.Drawing.{Drawing}
use Rattle.rules.specs.Sheet.{Sheet}
use Rattle.rules.specs.Palette.{Palette, colour, recoloured, first_where, first_least}
use Rattle.rules.specs.Outline.{asked, pads, canvas, has_ring, same_rgb8, nearest_entry, line_colour, Choice, reuse, append, replace, choice, chosen_index, chosen_palette, Outlined, drawn, outline}
use Rattle.rules.specs.Run.{outline_if}
use Rattle.rules.specs.Rows.{is_auto, no_entry}
use Rattle.base.proofs.Counting.{case, clash, both, or_right}
use Rattle.rules.proofs.Least.{least_some}
use Rattle.outline_entry.proofs.Scans.{chosen_below, where_below}
use Rattle.postprocess.proofs.Indices.{Named, named_more, canvas_named, inked_named}

-- ---- the choice of an entry

-- a palette after a choice, with the index that it gives
pub record Entered (old new : Palette) (i : ℕ) : Type 0 where
  pub below : i < new.count
  pub more : old.count ≤ new.count
  pub few : new.count ≤ 256
  pub full : length new.lab ≡ length old.lab

module _ (palette : Palette) (c : Lab) (few : palette.count ≤ 256) where
  abbrev Chosen : Choice → Type 0
  Chosen ch = Entered palette (chosen_palette palette c ch) (chosen_index palette ch)

  -- each way of a choice that can be made
  reused : {i : ℕ} → i < palette.count → Chosen (reuse i)
  unfolding chosen_palette chosen_index
  reused h = record { below = h; more = le_refl _; few = few; full = refl }

  appended : palette.count < 256 → Chosen append
  unfolding chosen_palette chosen_index recoloured
  appended h = record { below = omega arith; more = omega arith; few = omega arith; full = simp length-set }

  replaced : {i : ℕ} → i < palette.count → Chosen (replace i)
  unfolding chosen_palette chosen_index recoloured
  replaced h = record { below = h; more = le_refl _; few = few; full = simp length-set }

  nearest_in : (may : ℕ → Bool) → 0 < palette.count → nearest_entry may palette c < palette.count
  unfolding nearest_entry
  nearest_in may h = chosen_below (first_least may _ palette.count) palette.count h (λ b e. (least_some may _ palette.count b e).0)

  chosen : (may : ℕ → Bool) (fixed : Bool) → (fixed ≡ true → 0 < palette.count) → Chosen (choice may fixed palette c)
  unfolding choice
  chosen may true f = reused (nearest_in _ (f refl))
  chosen may false f = go (first_where same palette.count) (where_below same palette.count)
    where
      same : ℕ → Bool
      same i = same_rgb8 (lab_to_rgb8 (colour palette i)) (lab_to_rgb8 c)

      room : (b : Bool) → ltb palette.count 256 ≡ b → Chosen (cond b append (replace (nearest_entry may palette c)))
      room true e = appended (ltb-true palette.count 256 e)
      room false e = replaced (nearest_in may (omega (arith, ltb-false palette.count 256 e)))

      go : (o : Option ℕ) → ((b : ℕ) → o ≡ Some b → b < palette.count)
          → Chosen (elim o [ Some i ↦ reuse i | None ↦ cond (ltb palette.count 256) append (replace (nearest_entry may palette c)) ])
      go None g = room (ltb palette.count 256) refl
      go (Some i) g = reused (g i refl)

-- ---- the outline call

-- the palette after it, the outline's index, and the cells' indices
pub record Lined (palette : Palette) (s : Sheet) (o : Outlined) : Type 0 where
  pub few : o.palette.count ≤ 256
  pub index : IfSome o.index (λ i. i < o.palette.count)
  pub full : length o.palette.lab ≡ length palette.lab
  pub named : Named palette.count s.cells → Named o.palette.count o.sheet.cells

module _ (may : ℕ → Bool) (how : Drawing) (palette : Palette) (s : Sheet) (few : palette.count ≤ 256) where
  abbrev on : Sheet
  on = canvas (pads how s) s

  abbrev fixed : Bool
  fixed = how.fixed_palette

  -- a ring that is asked for finds an entry in a fixed palette
  an_entry : (no_entry how palette on).applies ≡ false → asked how.outline ≡ true → has_ring on ≡ true → fixed ≡ true → 0 < palette.count
  unfolding no_entry
  an_entry z y r f = elim (dec_lt 0 palette.count) [
    | yes h ↦ h
    | no h ↦ (let e : palette.count ≡ 0 = omega arith in
        let x : (asked how.outline && has_ring on && eqb palette.count 0 && (is_auto how.outline || fixed)) ≡ true = both (both (both y r) (eq-eqb palette.count 0 e)) (or_right (is_auto how.outline) f) in
        clash x z)
  ]

  pub lined : (no_entry how palette on).applies ≡ false → Lined palette s (outline_if may how palette s)
  unfolding outline_if outline drawn
  lined z =
      case (asked how.outline)
      (λ y. case (has_ring on)
      (λ r. let c = line_colour palette how.outline in
      let k = chosen palette c few may fixed (an_entry z y r) in
      rw (y, r) (record {
        few = k.few;
        index = k.below;
        full = k.full;
        named = λ a. inked_named on (named_more k.more (canvas_named s a _)) (chosen_index palette (choice may fixed palette c)) k.below;
      }))
      (λ r. rw (y, r) (record { few = few; index = tt; full = refl; named = λ a. canvas_named s a _ })))
      (λ y. rw y (record { few = few; index = tt; full = refl; named = λ a. a }))
