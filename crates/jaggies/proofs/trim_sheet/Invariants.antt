-- `trim_sheet`: the rows before y are trimmed, and the last three of them stand in the work area as they were. Assumes nothing.
use Rattle.jaggies.proofs.Rows.{Rowed}
use Rattle.jaggies.proofs.trim_sheet.Given as goal

abbrev pub invariant-loop-y : goal.invariant-loop-y
invariant-loop-y l = Rowed l.fn.cells l.h l.w l.cells l.work l.y
