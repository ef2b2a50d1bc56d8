-- M1 to M12 come out as the specification says: one computed theorem over their list. Assumes nothing.
use mathlib.Core.Path.{◌≡◌, refl}
use mathlib.Core.List.{map}
use lib.Ieee as Ieee
use Rattle.base.specs.Places
use Rattle.roots.specs.Computed
use Rattle.roots.specs.Units
use Rattle.base.specs.Doubles.{decimal}
use Rattle.color.specs.Lab
use Rattle.rules.specs.Sheet
use Rattle.rules.specs.Palette
use Rattle.rules.specs.Grid
use Rattle.rules.specs.Regions
use Rattle.rules.specs.Pass
use Rattle.rules.specs.Corners
use Rattle.rules.specs.Outline
use Rattle.rules.specs.Run
use Rattle.rules.specs.Cases.{Case, outcome, cases}

pub examples : map (λ (c : Case). outcome c.call) cases ≡ map (λ (c : Case). c.gives) cases
unfolding cases outcome
    Places.table_from Places.table Places.any Places.count Places.least Places.greatest Places.times
    Computed.sqrt_of Computed.nearest_root Computed.last Units.mag Units.mag_f decimal Lab.entry Lab.dist2 Lab.distance Sheet.area Palette.colour Palette.first_least
    Grid.close Grid.eight Grid.four Grid.on_edge Grid.on_side Grid.place_of Grid.step_to
    Regions.at Regions.opaque Regions.index Regions.alike Regions.link Regions.held Regions.spread Regions.roots Regions.inside Regions.first
    Pass.marked Pass.size Pass.few Pass.is_large Pass.view Pass.judged Pass.votes Pass.most Pass.frequent Pass.target Pass.top Pass.voter Pass.pending Pass.verdict Pass.painted Pass.merges Pass.freezes Pass.fates Pass.fate Pass.applied Pass.moves Pass.fresh Pass.clean
    Corners.same Corners.corners Corners.look Corners.finds Corners.opposite Corners.arms Corners.around Corners.goes_on Corners.is_corner Corners.trimmed_by Corners.trimmed Corners.trim
    Outline.touches Outline.asked Outline.pads Outline.padded_at Outline.padded Outline.canvas Outline.ring Outline.has_ring Outline.inked Outline.darkest Outline.darkened Outline.line_colour Outline.nearest_entry Outline.choice Outline.chosen_index Outline.chosen_palette Outline.drawn Outline.outline
    Run.rule_on Run.rule_for Run.clean_sheet Ieee.sub Ieee.mul Ieee.le Ieee.of_bits
examples = refl
