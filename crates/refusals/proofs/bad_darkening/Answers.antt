-- The bounds of a darkening are the doubles 0 and 1. Assumes nothing.
use mathlib.Core.Path.{ap}
use mathlib.Core.Bool.{not}
use lib.Ieee.{round, of_bits}
use Rattle.base.specs.Doubles.{decimal}
use Rattle.rules.specs.Rows.{bad_darkening}
use Rattle.rules.specs.Palette.{between}
use Rattle.refusals.proofs.bad_darkening.Goals as goal

pub returns-in-Auto : goal.returns-in-Auto
unfolding bad_darkening between decimal round of_bits
returns-in-Auto c = rw c.in-Auto.is (ap not c.between.ensures)
