-- `Printer::put_bytes`: the bytes are laid over a part of the buffer. Assumes nothing.
use Rattle.std.proofs.Common.{refl, arith}
use Rattle.silk_text.proofs.Laying.{mid_laid}
use Rattle.silk_print.proofs.Printing.{put_laid}
use Rattle.silk_print.proofs.Printer.put_bytes.Goals as goal

pub returns : goal.returns
returns c = put_laid c.requires (mid_laid _ _ _ _ c.copy_from_slice.ensures.after (omega arith)) refl refl
