-- `Printer::put_cell`: the cell, after a comma unless it is the first. Assumes nothing.
use Rattle.std.proofs.Common.{refl, arith}
use mir.Facts.{to_z-of_z}
use borrow.Author.Tests.{eq-eqb, ne_eqb}
use Rattle.silk_print.specs.Print.{cell_text}
use Rattle.silk_print.proofs.Printing.{put_as, put_both}
use Rattle.silk_print.proofs.Printer.put_cell.Goals.{then-x-ne-FIRST_COLUMN, else-x-ne-FIRST_COLUMN}
use Rattle.silk_print.proofs.Printer.put_cell.Goals as goal

pub returns : goal.returns
unfolding cell_text
returns c =
    let p = rw (to_z-of_z c.ranges.c) at c.put_signed.ensures in
    elim c.if-x-ne-FIRST_COLUMN.branch [
      | then-x-ne-FIRST_COLUMN w ↦ rw (ne_eqb c.args.x 0 w.if-x-ne-FIRST_COLUMN.true) (put_both w.put_byte.ensures (rw w.self-is at p) (omega arith))
      | else-x-ne-FIRST_COLUMN w ↦ rw (eq-eqb c.args.x 0 w.if-x-ne-FIRST_COLUMN.false) (put_as (rw w.self-is at p) refl (omega arith))
    ]
