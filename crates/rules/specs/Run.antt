-- Cleaning on a sheet, and `run`: saturation, cleaning, corners, outline, and cleaning once more. Definitions only. Assumes nothing.
use Rattle.std.specs.Prelude.{ℕ, Bool, true, false, not, ◌&&◌, ◌||◌, cond, ℤ, pos, Option, None}
use Rattle.color.specs.Lab.{distance}
use Rattle.rules.specs.declared.Limits.{Limits}
use Rattle.rules.specs.declared.Drawing.{Drawing}
use Rattle.rules.specs.declared.PostConfig.{PostConfig}
use Rattle.rules.specs.Sheet.{Sheet, area, sheet_in}
use Rattle.rules.specs.Grid.{eight}
use Rattle.rules.specs.Pass.{Rule, fresh, clean}
use Rattle.rules.specs.Palette.{Palette, colour, saturate}
use Rattle.rules.specs.Corners.{same, trim}
use Rattle.rules.specs.Outline.{asked, Outlined, outline}
use Rattle.rules.specs.Calls.{limits_at, RunCall}

-- ---- cleaning a sheet

-- the pass rule on a grid: eight neighbours, distances of palette entries, every index may be decided
unfoldable pub rule_on : ℕ → ℕ → Palette → Limits → Rule
rule_on n w palette limits =
    record {
      places = n;
      adj = eight w;
      limit = limits.region;
      free = λ i. true;
      dist = λ i j. distance (colour palette i) (colour palette j);
      reach = limits.colour;
    }

-- the rule on a sheet
unfoldable pub rule_for : Palette → Limits → Sheet → Rule
rule_for palette limits s = rule_on (area s) s.width palette limits

pub record CleanedSheet : Type 0 where
  pub sheet : Sheet
  pub passes : ℕ

-- a sheet after at most k passes, and the count of those that repainted
unfoldable pub clean_sheet : ℕ → Palette → Limits → Sheet → CleanedSheet
clean_sheet k palette limits s =
    let rule = rule_for palette limits s in
    let c = clean rule k (fresh rule s.cells) in
    record { sheet = record { cells = c.state.cells; height = s.height; width = s.width }; passes = c.count }

-- the same if it is switched on; else nothing, and 0 passes
unfoldable pub clean_sheet_if : Bool → ℕ → Palette → Limits → Sheet → CleanedSheet
clean_sheet_if on k palette limits s = cond on (clean_sheet k palette limits s) (record { sheet = s; passes = 0 })

-- ---- the steps of `run`

-- the limits in the settings
unfoldable pub limits_of : PostConfig → Limits
limits_of config = limits_at config.orphan_min_region config.orphan_max_delta

-- the palette, saturated unless its colours are kept
unfoldable pub toned : Bool → PostConfig → Palette → Palette
toned kept config palette = cond kept palette (saturate config.saturation_beta palette)

-- the palette that a call's steps go by: colours are kept if it is fixed or was saturated already
unfoldable pub toned_palette : RunCall → Palette
toned_palette c = toned (c.saturated || c.fixed) c.config c.palette

-- padding is allowed when tileset is off and the margin is 0
unfoldable pub pad_allowed : PostConfig → ℤ → Bool
pad_allowed config margin = not config.tileset && same margin (pos 0)

-- how a call draws its outline
unfoldable pub drawing_of : RunCall → Drawing
drawing_of c =
    record { outline = c.config.outline; allow_pad = pad_allowed c.config c.margin; fixed_palette = c.fixed }

-- an outline where one is asked for; without it no index, not clipped
unfoldable pub outline_if : (ℕ → Bool) → Drawing → Palette → Sheet → Outlined
outline_if may how palette s =
    cond (asked how.outline) (outline may how palette s)
    (record { sheet = s; palette = palette; index = None; clipped = false })

-- ---- `run`

-- the first cleaning makes at most 5 passes
unfoldable pub first_cleaning : RunCall → CleanedSheet
first_cleaning c = clean_sheet_if c.config.remove_orphans 5 (toned_palette c) (limits_of c.config) (sheet_in c.lent)

-- corners and outline; any entry may be written over
unfoldable pub outlined_run : RunCall → Outlined
outlined_run c =
    let s = (first_cleaning c).sheet in
    outline_if (λ i. true) (drawing_of c) (toned_palette c) (cond c.config.fix_jaggies (trim s) s)

-- the second cleaning, after an outline call, makes at most 1 pass
unfoldable pub cleans_again : PostConfig → Bool
cleans_again config = config.remove_orphans && asked config.outline

unfoldable pub second_cleaning : PostConfig → Outlined → CleanedSheet
second_cleaning config o = clean_sheet_if (cleans_again config) 1 o.palette (limits_of config) o.sheet

pub record Processing : Type 0 where
  pub sheet : Sheet
  pub palette : Palette
  pub index : Option ℕ
  pub clipped : Bool
  pub passes : ℕ
  pub again : ℕ

-- what `run` comes to
unfoldable pub process : RunCall → Processing
process c =
    let line = outlined_run c in
    let second = second_cleaning c.config line in
    record {
      sheet = second.sheet;
      palette = line.palette;
      index = line.index;
      clipped = line.clipped;
      passes = (first_cleaning c).passes;
      again = second.passes;
    }
