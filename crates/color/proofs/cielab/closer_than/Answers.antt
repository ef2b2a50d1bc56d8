-- `color::cielab::closer_than`: of the root of the squares. Assumes nothing.
use Rattle.std.proofs.Common.{ap, ◌∙◌}
use lib.Ieee.{Float, lt}
use Rattle.roots.specs.Computed.{sqrt_of}
use Rattle.color.specs.Lab.{distance}
use Rattle.color.proofs.cielab.closer_than.Goals as goal

pub returns : goal.returns
unfolding distance
returns c = c.sqrt_below.ensures ∙ ap (λ (s : Float). lt (sqrt_of s) c.args.limit) c.dist2.ensures
