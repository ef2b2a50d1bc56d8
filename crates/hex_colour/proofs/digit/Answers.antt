-- `digit`: below 16 the library's digits are the hex digits. Assumes nothing.
use Rattle.std.proofs.Common.{arith}
use Rattle.std.proofs.lemmas.Grind.{common_steps}
use Rattle.std.proofs.lemmas.Bool.Decides.{nat_tests}
use Rattle.hex_colour.specs.Hex.{in_range, digit}
use Rattle.hex_colour.proofs.digit.Goals as goal

pub returns : goal.returns
unfolding digit in_range
returns c = grind (arith, nat_tests, common_steps, c.to_digit.ensures.value, c.from.ensures)
