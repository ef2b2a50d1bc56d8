-- `Printer::put_colours`: i colours are put. Assumes nothing.
use Rattle.color.specs.Lab.{entry, lab_to_rgb8}
use Rattle.silk_print.specs.Print.{colour_text}
use Rattle.silk_print.proofs.Printing.{Printing}
use Rattle.silk_print.proofs.Printer.put_colours.Given as goal

abbrev pub invariant-loop-i : goal.invariant-loop-i
invariant-loop-i l = Printing (λ i. colour_text (lab_to_rgb8 (entry l.entries.lab.now i))) 14 l.entries.k l.initial.self l.i l.self
