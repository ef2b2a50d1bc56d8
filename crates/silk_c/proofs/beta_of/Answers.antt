-- `silk_c::beta_of`: by the test of the kind. Assumes nothing.
use Rattle.std.proofs.Common.{arith}
use lib.Ieee.{of_bits}
use borrow.Author.Tests.{lt-ltb, le-ltb}
use Rattle.silk_c.proofs.beta_of.Goals as goal

pub returns-then-kind-gt-LAST_KIND : goal.returns-then-kind-gt-LAST_KIND
unfolding of_bits
returns-then-kind-gt-LAST_KIND c = rw (lt-ltb 2 c.args.kind (omega arith))

pub returns-else-kind-gt-LAST_KIND : goal.returns-else-kind-gt-LAST_KIND
returns-else-kind-gt-LAST_KIND c = rw (le-ltb 2 c.args.kind (omega arith))
