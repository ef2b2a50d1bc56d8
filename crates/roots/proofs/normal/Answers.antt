-- `roots::normal`: a subnormal's digits are moved up by as many places as they lack. Assumes nothing.
use Rattle.roots.proofs.Place.{placed_low, placed_high}
use Rattle.roots.proofs.normal.Goals as goal

pub returns-then-x-gt0 : goal.returns-then-x-gt0
returns-then-x-gt0 c = placed_high _ c.requires.1 c.if-x-gt0.true

pub overflow_sub-s : goal.overflow_sub-s
overflow_sub-s c = (placed_low _ c.requires.0 c.if-x-gt0.false).0

pub returns : goal.returns
returns c = rw c.from.ensures (placed_low _ c.requires.0 c.if-x-gt0.false).2
