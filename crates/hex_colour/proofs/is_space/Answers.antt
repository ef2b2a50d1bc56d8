-- `is_space`: the tests of the definition, for each way through the match. Assumes nothing.
use Rattle.std.proofs.Common.{arith}
use Rattle.std.proofs.lemmas.Bool.Decides.{nat_tests}
use Rattle.hex_colour.specs.Hex.{in_range, space}
use Rattle.hex_colour.proofs.is_space.Goals as goal

pub returns-in_default : goal.returns-in_default
unfolding space in_range
returns-in_default c = grind (arith, nat_tests)

pub returns-in_default-2 : goal.returns-in_default-2
unfolding space in_range
returns-in_default-2 c = grind (arith, nat_tests)

pub returns-in-9-to-13 : goal.returns-in-9-to-13
unfolding space in_range
returns-in-9-to-13 c = grind (arith, nat_tests)

pub returns-in-9-to-13-2 : goal.returns-in-9-to-13-2
unfolding space in_range
returns-in-9-to-13-2 c = grind (arith, nat_tests)
