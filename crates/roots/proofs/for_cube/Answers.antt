-- `roots::for_cube`: the significand is moved up so that three divides the place. Assumes nothing.
use Rattle.std.proofs.Common.{arith}
use Rattle.roots.proofs.Place.{scaled_cube}
use Rattle.roots.proofs.for_cube.Goals as goal

pub returns : goal.returns
returns c = let h = c.normal-c.ensures in (scaled_cube _ _ _ h, h.most, omega arith)
