-- `Printer::put_clipped`. Assumes nothing.
use Rattle.silk_reader.specs.Reader.{codes}
use Rattle.silk_print.specs.Print.{clipped_text}
use Rattle.silk_print.proofs.Printer.put_clipped.Goals as goal

pub returns-then-clipped : goal.returns-then-clipped
unfolding clipped_text codes
returns-then-clipped c = rw c.if-clipped.true c.put_bytes.ensures

pub returns : goal.returns
unfolding clipped_text codes
returns c = rw c.if-clipped.false c.put_bytes-2.ensures
