-- Each part times the same factor. Assumes nothing.
use mathlib.Core.Path.{refl}
use lib.Ieee.{of_bits, round}
use Rattle.base.specs.Doubles.{decimal}
use Rattle.rules.specs.Outline.{darkened}
use Rattle.outline_entry.proofs.darkened.Goals as goal

pub returns : goal.returns
unfolding darkened decimal round of_bits
returns c = refl
