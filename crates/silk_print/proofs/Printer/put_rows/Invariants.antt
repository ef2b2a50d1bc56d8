-- `Printer::put_rows`: y rows are put. Assumes nothing.
use Rattle.std.proofs.Common.{◌+◌, ◌*◌}
use Rattle.silk_print.specs.Print.{row_text}
use Rattle.silk_print.proofs.Printing.{Printing}
use Rattle.silk_print.proofs.Printer.put_rows.Given as goal

abbrev pub invariant-loop-y : goal.invariant-loop-y
invariant-loop-y l = Printing (λ y. row_text l.cells (y * l.w) l.w) (5 + 12 * l.w) l.h l.initial.self l.y l.self
