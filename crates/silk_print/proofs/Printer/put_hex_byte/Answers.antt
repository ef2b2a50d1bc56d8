-- `Printer::put_hex_byte`. Assumes nothing.
use Rattle.std.proofs.Common.{arith}
use Rattle.silk_print.specs.Print.{hex_byte}
use Rattle.silk_print.proofs.Printing.{put_both}
use Rattle.silk_print.proofs.Printer.put_hex_byte.Goals as goal

pub returns : goal.returns
unfolding hex_byte
returns c = put_both (rw c.digit.ensures at c.put_byte.ensures) (rw c.digit-2.ensures at c.put_byte-2.ensures) (omega arith)
