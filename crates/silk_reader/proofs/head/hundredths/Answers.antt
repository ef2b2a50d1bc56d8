use Rattle.std.proofs.Common.{refl}
use lib.Ieee.{of_int, of_bits}
use Rattle.base.specs.Doubles.{decimal}
use Rattle.silk_reader.proofs.head.hundredths.Goals as goal

pub returns : goal.returns
unfolding decimal of_int of_bits
returns c = refl
