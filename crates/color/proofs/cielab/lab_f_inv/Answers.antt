-- `color::cielab::lab_f_inv`, by its two branches. Assumes nothing.
use Rattle.std.proofs.Common.{refl}
use lib.Ieee.{of_bits, round, div}
use Rattle.base.specs.Doubles.{decimal}
use Rattle.color.specs.Lab.{edge_inv, slope, shift, lab_f_inv}
use Rattle.color.proofs.cielab.lab_f_inv.Goals as goal

pub returns-then-t : goal.returns-then-t
unfolding lab_f_inv edge_inv decimal round of_bits
returns-then-t c = rw c.if-t.true

pub returns-else-t : goal.returns-else-t
unfolding lab_f_inv edge_inv slope shift decimal round of_bits div
returns-else-t c = rw c.if-t.false refl
