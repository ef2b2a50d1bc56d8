-- `Printer::put_cells`: x cells are put. Assumes nothing.
use Rattle.std.proofs.Common.{pos, length, get_or}
use Rattle.silk_print.specs.Print.{cell_text}
use Rattle.silk_print.proofs.Printing.{Printing}
use Rattle.silk_print.proofs.Printer.put_cells.Given as goal

abbrev pub invariant-loop-x : goal.invariant-loop-x
invariant-loop-x l = Printing (λ x. cell_text x (get_or l.row x (pos 0))) 12 (length l.row) l.initial.self l.x l.self
