-- `digit`: the library's digit character. Assumes nothing.
use Rattle.std.proofs.Common.{arith}
use Rattle.std.proofs.lemmas.Grind.{common_steps}
use Rattle.std.proofs.lemmas.Bool.Decides.{nat_tests}
use Rattle.silk_print.specs.Print.{hex_digit}
use Rattle.silk_print.proofs.digit.Goals as goal

pub returns : goal.returns
unfolding hex_digit
returns c = grind (arith, nat_tests, common_steps, c.from.ensures, c.from_digit.ensures.value, c.unwrap.ensures)
