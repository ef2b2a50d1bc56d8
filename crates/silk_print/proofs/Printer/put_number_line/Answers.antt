-- `Printer::put_number_line`. Assumes nothing.
use Rattle.std.proofs.Common.{refl, arith}
use Rattle.silk_reader.specs.Reader.{newline}
use Rattle.silk_print.specs.Print.{number_text}
use Rattle.silk_print.proofs.Digits.{numeral_short}
use Rattle.silk_print.proofs.Printing.{put_as, put_three}
use Rattle.silk_print.proofs.Printer.put_number_line.Goals as goal

pub put_number-requires : goal.put_number-requires
put_number-requires c = omega (arith, numeral_short 9 c.args.n c.requires.0)

pub put_byte-requires : goal.put_byte-requires
put_byte-requires c = omega (arith, numeral_short 9 c.args.n c.requires.0)

pub returns : goal.returns
unfolding number_text newline
returns c =
    put_as (put_three c.put_bytes.ensures c.put_number.ensures c.put_byte.ensures (omega (arith, numeral_short 9 c.args.n c.requires.0)))
    refl (omega (arith, numeral_short 9 c.args.n c.requires.0))
