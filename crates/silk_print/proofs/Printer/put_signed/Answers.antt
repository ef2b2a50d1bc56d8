-- `Printer::put_signed`: the library's text of a cell is put. Assumes nothing.
use Rattle.std.proofs.Common.{◌≡◌, ap, ◌∙◌, length, arith}
use Rattle.std.specs.Fmt.{signed_decimal}
use mir.Facts.{to_z-of_z}
use Rattle.silk_print.specs.Print.{signed_numeral}
use Rattle.silk_print.proofs.Cells.{signed-numeral, signed-short}
use Rattle.silk_print.proofs.Printing.{put_as}
use Rattle.silk_print.proofs.Printer.put_signed.Goals as goal

pub put_bytes-requires : goal.put_bytes-requires
put_bytes-requires c = omega (arith, c.as_bytes.ensures.len, c.format.ensures.fits, c.requires)

pub returns : goal.returns
returns c =
    let e : c.as_bytes.result.now ≡ signed_numeral c.args.c = c.as_bytes.ensures.value ∙ c.format.ensures.text ∙ ap signed_decimal (to_z-of_z c.ranges.c) ∙ signed-numeral c.args.c c.ranges.c in
    put_as c.put_bytes.ensures e (omega (arith, ap length e, signed-short c.args.c c.ranges.c))
