-- `roots::cubed`: two products of two digits. Assumes nothing.
use Rattle.roots.proofs.Cube.{cubed_is}
use Rattle.roots.proofs.cubed.Goals as goal

pub returns : goal.returns
returns c = rw (c.from.ensures, c.from-wide.ensures) (cubed_is c.args.v c.requires)
