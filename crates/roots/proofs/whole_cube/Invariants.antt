-- `roots::whole_cube`: the root lies from u up, below u and the last digit tried. Assumes nothing.
use Rattle.std.proofs.Common.{◌*◌, ◌^◌}
use Rattle.roots.proofs.Cube.{Gap}
use Rattle.roots.proofs.whole_cube.Given as goal

abbrev pub invariant-loop-i : goal.invariant-loop-i
invariant-loop-i l = Gap (l.w * 2 ^ 107) l.u (2 ^ l.i)
