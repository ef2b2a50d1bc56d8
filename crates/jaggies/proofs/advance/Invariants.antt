-- `advance`: so many columns have moved. Assumes nothing.
use Rattle.jaggies.specs.Rows.{Moved}
use Rattle.jaggies.proofs.advance.Given as goal

abbrev pub invariant-loop-i : goal.invariant-loop-i
invariant-loop-i l = Moved l.cells l.w l.end l.fn.work l.work l.i
