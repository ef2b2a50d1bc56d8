-- `verdicts::target::most`: the greatest of the counts so far. Assumes nothing.
use Rattle.std.proofs.Common.{◌≡◌}
use Rattle.verdicts.specs.Targets.{peak}
use Rattle.verdicts.proofs.target.most.Given as goal

abbrev pub invariant-loop-votes : goal.invariant-loop-votes
invariant-loop-votes l = l.best ≡ peak l.counts l.votes-index
