-- `color::cielab::within`: from -1024 to 1024, as decimals. Assumes nothing.
use lib.Ieee.{of_bits, round, neg}
use Rattle.base.specs.Doubles.{decimal}
use Rattle.color.specs.Lab.{within}
use Rattle.color.proofs.cielab.within.Goals as goal

pub returns : goal.returns
unfolding within decimal round of_bits neg
returns c = c.between.ensures
