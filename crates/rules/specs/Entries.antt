-- The entries on sheets and palettes: for each its refusals, and what it answers and leaves in the lent lists. Definitions only. Assumes nothing.
use Rattle.std.specs.Prelude.{ℕ, ◌≤◌, Bool, true, false, not, ◌||◌, List, [], ◌∷◌, ◌++◌, ltb, ℤ, length, Float, Option, Result}
use Rattle.base.specs.declared.Refusal.{Refusal}
use Rattle.base.specs.Refusals.{Row, refusal, unless, answered}
use Rattle.rules.specs.declared.Outline.{Outline}
use Rattle.rules.specs.declared.Limits.{Limits}
use Rattle.rules.specs.declared.PostConfig.{PostConfig}
use Rattle.rules.specs.declared.Facts.{Facts}
use Rattle.rules.specs.declared.Processed.{Processed}
use Rattle.rules.specs.Sheet.{Sheet, LentSheet, sheet_in, over, needed}
use Rattle.rules.specs.Palette.{Palette, out_of_range, between, saturate}
use Rattle.rules.specs.Corners.{trim}
use Rattle.rules.specs.Outline.{asked, pads, canvas, Outlined, outline}
use Rattle.rules.specs.Calls.{OrphansCall, JaggiesCall, OutlineCall, RunCall}
use Rattle.rules.specs.Run.{CleanedSheet, clean_sheet, toned, drawing_of, process}
use Rattle.rules.specs.Rows.{sheet_rows, palette_rows, bad_darkening, bad_index, no_entry}

-- rows 1 to 3 of a lent sheet
abbrev pub lent_rows : LentSheet → Bool → List Row
lent_rows l padding = sheet_rows l.height l.width (needed l.height l.width padding) (length l.cells) l.work

-- ---- `remove_orphans`

-- the colour limit is out of range, or there are too many passes
unfoldable pub bad_limits : Limits → ℕ → Bool
bad_limits limits passes = not (between 0 1024 limits.colour) || ltb 65535 passes

unfoldable pub orphans_refusal : OrphansCall → Option Refusal
orphans_refusal c =
    refusal (
    lent_rows c.lent false
    ++ palette_rows c.palette (bad_limits c.limits c.passes)
    ++ bad_index true c.limits.region c.palette (sheet_in c.lent) ∷ []
    )

-- the cleaning that it makes
abbrev pub orphans_made : OrphansCall → CleanedSheet
orphans_made c = clean_sheet c.passes c.palette c.limits (sheet_in c.lent)

unfoldable pub orphans_answer : OrphansCall → Result ℕ Refusal
orphans_answer c = answered (orphans_refusal c) (orphans_made c).passes

unfoldable pub orphans_cells : OrphansCall → List ℤ
orphans_cells c = unless (orphans_refusal c) (λ n. c.lent.cells) (over (orphans_made c).sheet.cells c.lent.cells)

-- ---- `fix_jaggies`

unfoldable pub jaggies_refusal : JaggiesCall → Option Refusal
jaggies_refusal c = refusal (lent_rows c.lent false)

unfoldable pub jaggies_answer : JaggiesCall → Result Unit Refusal
jaggies_answer c = answered (jaggies_refusal c) tt

unfoldable pub jaggies_cells : JaggiesCall → List ℤ
jaggies_cells c = unless (jaggies_refusal c) (λ n. c.lent.cells) (over (trim (sheet_in c.lent)).cells c.lent.cells)

-- ---- `add_outline`

unfoldable pub facts_of : Sheet → Palette → Option ℕ → Bool → Facts
facts_of s palette index clipped =
    record {
      height = s.height;
      width = s.width;
      colours = palette.count;
      outline_index = index;
      outline_clipped = clipped;
    }

-- sides of at most those of a padded sheet, and at most 256 colours
pub record SizesInRange (f : Facts) : Type 0 where
  pub high : f.height ≤ 514
  pub wide : f.width ≤ 514
  pub few : f.colours ≤ 256

-- no outline is asked for, or its darkening is out of range
unfoldable pub bad_outline : Outline → Bool
bad_outline outline = not (asked outline) || bad_darkening outline

unfoldable pub outline_refusal : OutlineCall → Option Refusal
outline_refusal c =
    let s = sheet_in c.lent in
    let padding = pads c.how s in
    refusal (
    lent_rows c.lent padding
    ++ palette_rows c.palette (bad_outline c.how.outline)
    ++ no_entry c.how c.palette (canvas padding s) ∷ []
    )

-- the outline that it draws; any entry may be written over
abbrev pub outline_made : OutlineCall → Outlined
outline_made c = outline (λ i. true) c.how c.palette (sheet_in c.lent)

unfoldable pub outline_answer : OutlineCall → Result Facts Refusal
outline_answer c =
    answered (outline_refusal c)
    (let o = outline_made c in
    facts_of o.sheet o.palette o.index o.clipped)

unfoldable pub outline_cells : OutlineCall → List ℤ
outline_cells c = unless (outline_refusal c) (λ n. c.lent.cells) (over (outline_made c).sheet.cells c.lent.cells)

unfoldable pub outline_palette : OutlineCall → List Float
outline_palette c = unless (outline_refusal c) (λ n. c.palette.lab) (outline_made c).palette.lab

-- ---- `apply_saturation`

-- beta is out of range, or carries a double beyond ±1024
unfoldable pub bad_saturation : Float → Palette → Bool
bad_saturation beta palette = not (between 0 16 beta) || out_of_range (saturate beta palette)

unfoldable pub saturation_refusal : Palette → Float → Option Refusal
saturation_refusal palette beta = refusal (palette_rows palette (bad_saturation beta palette))

unfoldable pub saturation_answer : Palette → Float → Result Unit Refusal
saturation_answer palette beta = answered (saturation_refusal palette beta) tt

unfoldable pub saturation_palette : Palette → Float → List Float
saturation_palette palette beta = unless (saturation_refusal palette beta) (λ n. palette.lab) (saturate beta palette).lab

-- ---- `run`

-- a setting is out of range, whether or not its pass is on
unfoldable pub bad_ranges : PostConfig → Bool
bad_ranges config =
    not (between 0 16 config.saturation_beta)
    || not (between 0 1024 config.orphan_max_delta)
    || bad_darkening config.outline

-- or saturation applies and carries a double beyond ±1024
unfoldable pub bad_config : PostConfig → Bool → Palette → Bool
bad_config config kept palette = bad_ranges config || out_of_range (toned kept config palette)

unfoldable pub run_refusal : RunCall → Option Refusal
run_refusal c =
    let s = sheet_in c.lent in
    let padding = pads (drawing_of c) s in
    refusal (
    lent_rows c.lent padding
    ++ palette_rows c.palette (bad_config c.config (c.saturated || c.fixed) c.palette)
    ++ bad_index c.config.remove_orphans c.config.orphan_min_region c.palette s
    ∷ no_entry (drawing_of c) c.palette (canvas padding s) ∷ []
    )

unfoldable pub run_answer : RunCall → Result Processed Refusal
run_answer c =
    answered (run_refusal c)
    (let r = process c in
    record { facts = facts_of r.sheet r.palette r.index r.clipped; passes = r.passes; again = r.again })

unfoldable pub run_cells : RunCall → List ℤ
run_cells c = unless (run_refusal c) (λ n. c.lent.cells) (over (process c).sheet.cells c.lent.cells)

unfoldable pub run_palette : RunCall → List Float
run_palette c = unless (run_refusal c) (λ n. c.palette.lab) (process c).palette.lab
