-- `Printer::put_hex_colour`. Assumes nothing.
use Rattle.silk_print.specs.Print.{hex_colour}
use Rattle.silk_print.proofs.Printing.{put_three}
use Rattle.silk_print.proofs.Printer.put_hex_colour.Goals as goal

pub returns : goal.returns
unfolding hex_colour
returns c = put_three c.put_hex_byte.ensures c.put_hex_byte-2.ensures c.put_hex_byte-3.ensures c.requires
