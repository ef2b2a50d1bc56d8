-- The rows of `add_outline`: which sheets are read before they are judged, row 8, and what an accepted call may rely on. Assumes nothing.
use Prim.Native.Nat.{ℕ, ◌+◌, ◌*◌, ◌≤◌}
use mathlib.Core.Path.{◌≡◌, sym, ap, ◌∙◌}
use mathlib.Core.Bool.{Bool, true, false, not, ◌&&◌, ◌||◌}
use Rattle.std.specs.Prelude.{None, Some}
use mathlib.Core.List.{List, []}
use native.Mathlib.Omega.{arith}
use borrow.Author.Tests.{lt-ltb, eq-eqb, ne_eqb}
use lib.Dec.{eqb, leb}
use lib.IntN.{ℤ}
use lib.ListN.{length}
use Rattle.base.specs.declared.Refusal.TheVariants.{ListTooShort}
use Rattle.base.specs.Refusals.{refusal}
use Rattle.base.proofs.Counting.{case, left, right, not_true, yes_leb, leb_yes, no_leb}
use Rattle.base.proofs.Refusing.{row_hit, row-pass, rows_none}
use Rattle.rules.specs.declared.Drawing.{Drawing}
use Rattle.rules.specs.Sheet.{Sheet, lent_sheet, sheet_of, needed}
use Rattle.rules.specs.Palette.{palette_of}
use Rattle.rules.specs.Outline.{asked, touches, pads, canvas, has_ring}
use Rattle.rules.specs.Rows.{too_large, too_short, sheet_rows, is_auto, no_entry}
use Rattle.rules.specs.Entries.{lent_rows}
use Rattle.rules.proofs.Sizes.{needed-least}
use Rattle.refusals.specs.Room.{SheetFits}
use Rattle.refusals.proofs.Rows.{not_large, sheet_room}
use Rattle.outline.specs.Room.{Present, present}
use Rattle.outline.proofs.Padding.{padded-ring}

-- ---- a sheet that is not there is refused, padded or not

module _ (h w len : ℕ) (b : Bool) where
  same_rows : (work : ℕ) → refusal (sheet_rows h w (needed h w (present h w len && b)) len work) ≡ refusal (sheet_rows h w (needed h w b) len work)
  unfolding present too_short
  same_rows work =
      case (too_large h w).applies
      (λ y. row_hit (too_large h w) _ y ∙ sym (row_hit (too_large h w) _ y))
      (λ z. case (leb (h * w) len)
      (λ y. rw (z, y))
      (λ n. let short : (c : Bool) → refusal (sheet_rows h w (needed h w c) len work) ≡ Some ListTooShort =
      (λ c. row-pass (too_large h w) _ z ∙ row_hit (too_short len (needed h w c)) _ (lt-ltb len (needed h w c) (omega (arith, needed-least h w c, no_leb {m = h * w} {n = len} n)))) in
      short (present h w len && b) ∙ sym (short b)))

  -- where rows 1 to 3 refuse nothing, it is there
  there : (work : ℕ) → refusal (sheet_rows h w (needed h w b) len work) ≡ None → present h w len ≡ true
  unfolding present
  there work e =
      let one = rows_none (too_large h w) _ e in
      let r = (sheet_room {work = work} [] e).0 in
      rw one.0 (yes_leb {m = h * w} {n = len} (omega (arith, r.long, needed-least h w b)))

-- an answer to whether padding applies: the rows go by it as by the rule, and where they refuse nothing, it is the rule's
module _ (how : Drawing) (cells : List ℤ) (h w work : ℕ) {r : Bool} (is : r ≡ (present h w (length cells) && pads how (sheet_of cells h w))) where
  pub padded_rows : refusal (sheet_rows h w (needed h w r) (length cells) work) ≡ refusal (lent_rows (lent_sheet cells h w work) (pads how (sheet_of cells h w)))
  padded_rows =
      ap (λ (b : Bool). refusal (sheet_rows h w (needed h w b) (length cells) work)) is ∙ same_rows h w (length cells) (pads how (sheet_of cells h w)) work

  pub padded-is : refusal (lent_rows (lent_sheet cells h w work) (pads how (sheet_of cells h w))) ≡ None → r ≡ pads how (sheet_of cells h w)
  padded-is e = is ∙ ap (λ (b : Bool). b && pads how (sheet_of cells h w)) (there h w (length cells) (pads how (sheet_of cells h w)) work e)

-- a sheet that is there can be read
pub present-sheet : (h w : ℕ) (cells : List ℤ) → present h w (length cells) ≡ true → Present cells h w
unfolding present
present-sheet h w cells y =
    let sides = not_large h w (not_true (left _ _ y)) in
    record {
      high = omega (arith, sides.0);
      wide = omega (arith, sides.1);
      room = leb_yes {m = h * w} {n = length cells} (right (not (too_large h w).applies) (leb (h * w) (length cells)) y);
    }

-- sides and cells in a lent list
pub seated : {h w work : ℕ} (b : Bool) (cells : List ℤ) → SheetFits h w (needed h w b) (length cells) work → Present cells h w
seated {h} {w} b cells r = record { high = omega (arith, r.high); wide = omega (arith, r.wide); room = omega (arith, r.long, needed-least h w b) }

-- a sheet that is padded touches an edge
pub pad_touches : (how : Drawing) (s : Sheet) → pads how s ≡ true → touches s ≡ true
unfolding pads
pad_touches how s y = right (how.allow_pad && asked how.outline) (touches s) y

-- ---- row 8

module _ (how : Drawing) (k : ℕ) (on : Sheet) where
  -- an entry is needed
  abbrev pub Needs : Bool
  Needs = asked how.outline && (is_auto how.outline || how.fixed_palette)

  abbrev pub no_entry_lem : Bool
  no_entry_lem = (no_entry how (palette_of [] k) on).applies

  -- the tests in the order of the code
  sorted : no_entry_lem ≡ (eqb k 0 && Needs && has_ring on)
  unfolding no_entry
  sorted = grind arith

  pub some_entry : (k ≡ 0 → ⊥) → no_entry_lem ≡ false
  some_entry e = sorted ∙ rw (ne_eqb k 0 e)

  module _ (e : k ≡ 0) where
    pub none_needed : Needs ≡ false → no_entry_lem ≡ false
    none_needed z = sorted ∙ rw (eq-eqb k 0 e, z)

    pub one_needed : Needs ≡ true → no_entry_lem ≡ has_ring on
    one_needed y = sorted ∙ rw (eq-eqb k 0 e, y)

-- the ring of the sheet that is drawn on
pub ring-padded : (b : Bool) (s : Sheet) → b ≡ true → (b ≡ true → touches s ≡ true) → has_ring (canvas b s) ≡ true
unfolding canvas
ring-padded b s e t = rw e (padded-ring s (t e))

pub ring_plain : (b : Bool) (s : Sheet) → b ≡ false → has_ring (canvas b s) ≡ has_ring s
unfolding canvas
ring_plain b s e = rw e

-- ---- the needed cells of an accepted call, padded and not

pub room_padded : {len work h w : ℕ} (b : Bool) → SheetFits h w (needed h w b) len work → b ≡ true → ((h + 2) * (w + 2) ≤ len) × ((h + 2) * (w + 2) ≤ work)
unfolding needed
room_padded {len} {work} {h} {w} b k e =
    let i : needed h w true ≤ len = rw e at k.long in
    let j : 8 * needed h w true ≤ work = rw e at k.free in
    (i, omega arith)

pub room_plain : {len work h w : ℕ} (b : Bool) → SheetFits h w (needed h w b) len work → (h * w ≤ len) × (h * w ≤ work)
room_plain {h = h} {w = w} b k = (omega (arith, needed-least h w b, k.long), omega (arith, needed-least h w b, k.free))
