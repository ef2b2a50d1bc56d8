-- `verdicts::voting::poll`: the neighbours of the places so far. Assumes nothing.
use Rattle.verdicts.specs.Steps.{area_of}
use Rattle.verdicts.specs.Polling.{Polled, Beside}
use Rattle.verdicts.proofs.voting.poll.Given as goal

abbrev pub invariant-loop-i : goal.invariant-loop-i
invariant-loop-i l = Polled (area_of l.grid) l.mark.word (Beside l.grid l.fn.work l.fn.span.from l.i) l.fn.work l.work l.counts
