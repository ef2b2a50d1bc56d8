-- In range is near 1024. Assumes nothing.
use mathlib.Core.Path.{ap, ◌∙◌}
use mathlib.Core.Bool.{not}
use lib.Ieee.{of_bits, round}
use Rattle.base.specs.Doubles.{decimal}
use Rattle.refusals.proofs.Nearness.{out_of_range_lem}
use Rattle.refusals.proofs.bad_colour.Goals as goal

pub returns : goal.returns
unfolding decimal round of_bits
returns c = ap not c.all_near.ensures ∙ out_of_range_lem _
