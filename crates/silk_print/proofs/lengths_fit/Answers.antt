-- `lengths_fit`: each test is one of the definition's. Assumes nothing.
use Rattle.std.proofs.Common.{rules}
use Rattle.silk_print.specs.Print.{lengths_fit, room_for}
use Rattle.silk_print.proofs.lengths_fit.Goals as goal

pub returns-then-h-w : goal.returns-then-h-w
unfolding lengths_fit room_for
returns-then-h-w c = search rules

pub returns-else-h-w : goal.returns-else-h-w
unfolding lengths_fit room_for
returns-else-h-w c = search rules
