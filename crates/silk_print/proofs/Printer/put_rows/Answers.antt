-- `Printer::put_rows`: one row after the other. Assumes nothing.
use Rattle.std.proofs.Common.{◌*◌}
use Rattle.silk_print.specs.Print.{rows_text}
use Rattle.silk_text.proofs.Whole.{row_fits}
use Rattle.silk_print.proofs.Cells.{row-put}
use Rattle.silk_print.proofs.Printing.{printing_none, printing_more, printing_all}
use Rattle.silk_print.proofs.Printer.put_rows.Goals as goal

pub loop-y-init : goal.loop-y-init
loop-y-init c = printing_none _ _ _ _

pub loop-y-preserved : goal.loop-y-preserved
loop-y-preserved c =
    printing_more c.loop-y.invariant c.loop-y-test.true c.requires.1
    (row-put c.args.cells.now (c.loop-y.y * c.args.w) c.args.w (row_fits c.args.h c.args.w _ c.loop-y.y c.requires.0 c.loop-y-test.true) c.put_row.ensures)

pub returns : goal.returns
unfolding rows_text
returns c = printing_all c.loop-y.invariant c.loop-y-test.false
