-- `add_row`: the second row is as promised as far as the loop has come. Assumes nothing.
use Rattle.std.proofs.Common.{◌≡◌, ℕ, ◌<◌, get_or}
use Rattle.mask.specs.Lines.{next_count}
use Rattle.mask.proofs.dilation.add_row.Given as goal

abbrev pub invariant-loop-j : goal.invariant-loop-j
invariant-loop-j l = (k : ℕ) → k < l.j → get_or l.next k 0 ≡ next_count l.above l.lo l.hi k
