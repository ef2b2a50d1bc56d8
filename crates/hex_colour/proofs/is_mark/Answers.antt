-- `is_mark`. Assumes nothing.
use Rattle.std.proofs.Common.{refl}
use Rattle.hex_colour.specs.Hex.{mark}
use Rattle.hex_colour.proofs.is_mark.Goals as goal

pub returns : goal.returns
unfolding mark
returns c = refl
