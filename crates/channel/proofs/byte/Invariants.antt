-- `byte`: the number lies in a gap that each turn halves. Assumes nothing.
use Rattle.channel.proofs.Thresholds.{Sought, gap_at}
use Rattle.channel.proofs.byte.Given as goal

abbrev pub invariant-loop-half : goal.invariant-loop-half
invariant-loop-half l = Sought l.c l.n (gap_at l.half-index)
