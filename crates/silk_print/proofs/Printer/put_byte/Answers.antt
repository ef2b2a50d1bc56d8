-- `Printer::put_byte`: a byte is laid over one of the buffer's. Assumes nothing.
use Rattle.std.proofs.Common.{refl, arith}
use Rattle.silk_text.proofs.Laying.{laid_one}
use Rattle.silk_print.proofs.Printing.{put_laid}
use Rattle.silk_print.proofs.Printer.put_byte.Goals as goal

pub returns : goal.returns
returns c = put_laid c.requires (laid_one _ _ _ (omega arith)) refl refl
