use Rattle.silk_reader.specs.Lines.{colour_line}
use Rattle.silk_text.specs.Format.{doubles}
use Rattle.silk_text.proofs.Repeating.{Going}
use Rattle.silk_text.proofs.sheet.read_colours.Given as goal

abbrev pub invariant-loop-i : goal.invariant-loop-i
invariant-loop-i l =
    Going (λ k. colour_line) doubles 3 l.fn.colours l.fn.text.rest.now l.fn.palette l.i l.text.rest.now l.palette
