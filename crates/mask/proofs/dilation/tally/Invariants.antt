-- `tally`: the counts stand as far as the loop has come, and `sum` is the next one. Assumes nothing.
use Rattle.std.proofs.Common.{◌≡◌, ℕ, ◌<◌, get_or}
use Rattle.base.specs.Places.{count}
use Rattle.mask.specs.Lines.{set_in}
use Rattle.mask.proofs.dilation.tally.Given as goal

abbrev pub invariant-loop-i : goal.invariant-loop-i
invariant-loop-i l = (l.sum ≡ count l.i (set_in l.row)) × ((k : ℕ) → k < l.i → get_or l.counts k 0 ≡ count k (set_in l.row))
