-- `Printer::put_result`. Assumes nothing.
use Rattle.std.proofs.Common.{refl, arith}
use Rattle.silk_print.specs.Print.{result_text, room_for}
use Rattle.silk_print.proofs.Printing.{put_as, put_three}
use Rattle.silk_print.proofs.Printer.put_result.Goals as goal

pub put_head-requires : goal.put_head-requires
unfolding room_for
put_head-requires c = (c.requires.sizes, omega (arith, c.requires.room))

pub put_colours-requires : goal.put_colours-requires
unfolding room_for
put_colours-requires c = omega (arith, c.requires.room)

pub put_rows-requires : goal.put_rows-requires
unfolding room_for
put_rows-requires c = (c.requires.sheet, omega (arith, c.requires.room))

pub returns : goal.returns
unfolding result_text room_for
returns c =
    put_as (put_three c.put_head.ensures c.put_colours.ensures c.put_rows.ensures (omega (arith, c.requires.room))) refl (omega arith)
