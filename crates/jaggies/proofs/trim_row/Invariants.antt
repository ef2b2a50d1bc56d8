-- `trim_row`: the sheet is trimmed up to the column x. Assumes nothing.
use Rattle.std.proofs.Common.{◌+◌, ◌*◌, List}
use lib.IntN.{ℤ}
use Rattle.jaggies.specs.Rows.{OldRows, Trimmed}
use Rattle.jaggies.proofs.trim_row.Given as goal

abbrev pub invariant-loop-x : goal.invariant-loop-x
invariant-loop-x l =
    (old : List ℤ) → OldRows old l.work l.w (l.y * l.w + l.w) → Trimmed old l.h l.w (l.y * l.w) l.fn.cells → Trimmed old l.h l.w (l.y * l.w + l.x) l.cells
