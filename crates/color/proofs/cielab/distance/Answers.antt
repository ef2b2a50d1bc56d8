-- `color::cielab::distance`: the root of the squares. Assumes nothing.
use Rattle.std.proofs.Common.{ap, ◌∙◌}
use Rattle.roots.specs.Computed.{sqrt_of}
use Rattle.color.specs.Lab.{distance}
use Rattle.color.proofs.cielab.distance.Goals as goal

pub returns : goal.returns
unfolding distance
returns c = c.sqrt.ensures.equal ∙ ap sqrt_of c.dist2.ensures
