-- The loop: the entries before i are multiplied. Assumes nothing.
use Rattle.std.proofs.Common.{◌*◌}
use Rattle.saturation.proofs.Tones.{Saturates}
use Rattle.saturation.proofs.scaling.saturate.Given as goal

abbrev pub invariant-loop-i : goal.invariant-loop-i
invariant-loop-i l = Saturates l.fn.palette l.beta (3 * l.i) l.palette
