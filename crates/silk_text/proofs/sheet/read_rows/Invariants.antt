use Rattle.silk_text.specs.Format.{row_line}
use Rattle.silk_text.proofs.Repeating.{Going}
use Rattle.silk_text.proofs.sheet.read_rows.Given as goal

abbrev pub invariant-loop-y : goal.invariant-loop-y
invariant-loop-y l =
    Going (λ k. row_line l.fn.w) (λ r. r) l.fn.w l.fn.h l.fn.text.rest.now l.fn.cells l.y l.text.rest.now l.cells
