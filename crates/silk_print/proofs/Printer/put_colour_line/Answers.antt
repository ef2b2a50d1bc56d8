-- `Printer::put_colour_line`. Assumes nothing.
use Rattle.silk_reader.specs.Reader.{codes, newline}
use Rattle.silk_print.specs.Print.{colour_text}
use Rattle.silk_print.proofs.Printing.{put_three}
use Rattle.silk_print.proofs.Printer.put_colour_line.Goals as goal

pub returns : goal.returns
unfolding colour_text codes newline
returns c = put_three c.put_bytes.ensures c.put_hex_colour.ensures c.put_byte.ensures c.requires
