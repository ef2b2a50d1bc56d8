-- `Printer::put_row`. Assumes nothing.
use Rattle.std.proofs.Common.{refl, arith}
use Rattle.silk_reader.specs.Reader.{codes, newline}
use Rattle.silk_print.specs.Print.{row_text}
use Rattle.silk_print.proofs.Printing.{put_as, put_three}
use Rattle.silk_print.proofs.Printer.put_row.Goals as goal

pub returns : goal.returns
unfolding row_text codes newline
returns c = put_as (put_three c.put_bytes.ensures c.put_cells.ensures c.put_byte.ensures (omega arith)) refl (omega arith)
