-- `store_row`: the row is as promised as far as the loop has come. Assumes nothing.
use Rattle.std.proofs.Common.{◌≡◌, ℕ, ◌<◌, get_or}
use Rattle.mask.specs.Lines.{less}
use Rattle.mask.proofs.dilation.store_row.Given as goal

abbrev pub invariant-loop-j : goal.invariant-loop-j
invariant-loop-j l = (k : ℕ) → k < l.j → get_or l.out k 0 ≡ less (get_or l.lo k 0) (get_or l.hi k 0)
