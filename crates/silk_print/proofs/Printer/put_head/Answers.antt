-- `Printer::put_head`. Assumes nothing.
use Rattle.silk_print.specs.Print.{head_text}
use Rattle.silk_print.proofs.Printing.{put_three}
use Rattle.silk_print.proofs.Printer.put_head.Goals as goal

pub returns : goal.returns
unfolding head_text
returns c = put_three c.put_sizes.ensures c.put_index.ensures c.put_clipped.ensures c.requires.1
