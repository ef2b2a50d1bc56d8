-- `color::cielab::dist2` computes as the definition does. Assumes nothing.
use Rattle.std.proofs.Common.{refl}
use Rattle.color.specs.Lab.{dist2}
use Rattle.color.proofs.cielab.dist2.Goals as goal

pub returns : goal.returns
unfolding dist2
returns c = refl
