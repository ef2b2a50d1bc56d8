-- `Printer::put_sizes`. Assumes nothing.
use Rattle.silk_reader.specs.Reader.{codes}
use Rattle.silk_print.specs.Print.{sizes_text}
use Rattle.silk_print.proofs.Printing.{put_three}
use Rattle.silk_print.proofs.Printer.put_sizes.Goals as goal

pub returns : goal.returns
unfolding sizes_text codes
returns c = put_three c.put_number_line.ensures c.put_number_line-2.ensures c.put_number_line-3.ensures c.requires.1
