-- The bounds of a colour limit are the doubles 0 and 1024. Assumes nothing.
use lib.Ieee.{of_bits, round}
use Rattle.base.specs.Doubles.{decimal}
use Rattle.rules.specs.Palette.{between}
use Rattle.refusals.proofs.limit_in_range.Goals as goal

pub returns : goal.returns
unfolding between decimal round of_bits
returns c = c.between.ensures
