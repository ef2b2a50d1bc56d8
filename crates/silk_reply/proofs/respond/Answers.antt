-- `respond`: by what reading came to. Assumes nothing.
use lib.Ieee.{of_bits, round}
use Rattle.base.specs.Doubles.{decimal}
use Rattle.silk_reply.specs.Reply.{no_colours, no_cells}
use Rattle.silk_reply.proofs.Replying.{read_sheet, read_refused}
use Rattle.silk_reply.proofs.respond.Goals as goal

pub returns-in-Ok : goal.returns-in-Ok
unfolding no_colours no_cells decimal of_bits round
returns-in-Ok c =
    let read = c.read.ensures in
    rw (read_sheet _ read.value c.in-Ok.is read.palette_after read.cells_after) (record { value = c.put_sheet.ensures.size; out_after = c.put_sheet.ensures.list })

pub returns-in-Err : goal.returns-in-Err
unfolding no_colours no_cells decimal of_bits round
returns-in-Err c =
    let put = rw c.number.ensures at c.put_refusal.ensures in
    rw (read_refused _ c.read.ensures.value c.in-Err.is) (record { value = put.size; out_after = put.list })
