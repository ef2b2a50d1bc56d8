-- `Printer::put_colours`: one colour after the other. Assumes nothing.
use Rattle.rules.specs.Palette.{colour}
use Rattle.silk_print.specs.Print.{colours_text}
use Rattle.silk_print.proofs.Printing.{printing_none, printing_room, printing_more, printing_all}
use Rattle.silk_print.proofs.Printer.put_colours.Goals as goal

pub put_colour_line-requires : goal.put_colour_line-requires
put_colour_line-requires c = printing_room c.loop-i.invariant c.loop-i-test.true c.requires

pub loop-i-init : goal.loop-i-init
loop-i-init c = printing_none _ _ _ _

pub loop-i-preserved : goal.loop-i-preserved
unfolding colour
loop-i-preserved c =
    printing_more c.loop-i.invariant c.loop-i-test.true c.requires
    (rw (c.lab_to_rgb8_one.ensures, c.colour.ensures) at c.put_colour_line.ensures)

pub returns : goal.returns
unfolding colours_text
returns c = printing_all c.loop-i.invariant c.loop-i-test.false
