-- `verdicts::voting::vote_all`: the steps so far. Assumes nothing.
use Rattle.std.proofs.Common.{◌≤◌}
use Rattle.grid.specs.Steps.{steps_of}
use Rattle.verdicts.specs.Steps.{area_of}
use Rattle.verdicts.specs.Polling.{Polled}
use Rattle.verdicts.proofs.Votes.{Reached}
use Rattle.verdicts.proofs.voting.vote_all.Given as goal

abbrev pub invariant-loop-s : goal.invariant-loop-s
invariant-loop-s l = Polled (area_of l.grid) l.mark.word (Reached l.grid l.p l.s) l.fn.work l.work l.counts × (l.s ≤ steps_of l.grid.near)
