-- `color::cielab::lab_f`, by its two branches. Assumes nothing.
use Rattle.std.proofs.Common.{refl}
use lib.Ieee.{of_bits, round, div}
use Rattle.base.specs.Doubles.{decimal}
use Rattle.color.specs.Lab.{edge, slope, shift, lab_f}
use Rattle.color.proofs.cielab.lab_f.Goals as goal

pub returns-then-t : goal.returns-then-t
unfolding lab_f edge decimal round of_bits
returns-then-t c = rw c.if-t.true c.cbrt.ensures.equal

pub returns-else-t : goal.returns-else-t
unfolding lab_f edge slope shift decimal round of_bits div
returns-else-t c = rw c.if-t.false refl
