-- `color::cielab::dot` computes as the definition does. Assumes nothing.
use Rattle.std.proofs.Common.{refl}
use Rattle.color.specs.Lab.{dot}
use Rattle.color.proofs.cielab.dot.Goals as goal

pub returns : goal.returns
unfolding dot
returns c = refl
