-- `Printer::put_index`. Assumes nothing.
use Rattle.std.proofs.Common.{refl, arith}
use Rattle.silk_reader.specs.Reader.{codes}
use Rattle.silk_print.specs.Print.{index_text}
use Rattle.silk_print.proofs.Printing.{put_as}
use Rattle.silk_print.proofs.Printer.put_index.Goals as goal

pub returns-in-None : goal.returns-in-None
unfolding index_text codes
returns-in-None c = rw c.in-None.is (put_as c.put_bytes.ensures refl (omega arith))

pub returns-in-Some : goal.returns-in-Some
unfolding index_text codes
returns-in-Some c = rw c.in-Some.is c.put_number_line.ensures
