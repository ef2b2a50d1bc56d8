-- `Printer::put_number`: the library's digits are put. Assumes nothing.
use Rattle.std.proofs.Common.{◌≡◌, ap, ◌∙◌, length, arith}
use Rattle.silk_print.specs.Print.{numeral}
use Rattle.silk_print.proofs.Digits.{decimal-numeral}
use Rattle.silk_print.proofs.Printing.{put_as}
use Rattle.silk_print.proofs.Printer.put_number.Goals as goal

pub put_bytes-requires : goal.put_bytes-requires
put_bytes-requires c =
    let e : c.as_bytes.result.now ≡ numeral c.args.n = c.as_bytes.ensures.value ∙ c.format.ensures.text ∙ decimal-numeral c.args.n (omega (arith, c.ranges.n.fits)) in
    omega (arith, ap length e, c.requires)

pub returns : goal.returns
returns c =
    let e : c.as_bytes.result.now ≡ numeral c.args.n = c.as_bytes.ensures.value ∙ c.format.ensures.text ∙ decimal-numeral c.args.n (omega (arith, c.ranges.n.fits)) in
    put_as c.put_bytes.ensures e (omega (arith, ap length e))
