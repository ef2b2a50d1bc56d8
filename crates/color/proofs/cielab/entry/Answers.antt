-- `color::cielab::entry` computes as the definition does. Assumes nothing.
use Rattle.std.proofs.Common.{refl}
use Rattle.color.specs.Lab.{entry}
use Rattle.color.proofs.cielab.entry.Goals as goal

pub returns : goal.returns
unfolding entry
returns c = refl
