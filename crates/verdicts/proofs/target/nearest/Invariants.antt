-- `verdicts::target::nearest`: the nearest so far. Assumes nothing.
use Rattle.std.proofs.Common.{◌≡◌}
use Rattle.verdicts.specs.Targets.{entry_distance, nearest}
use Rattle.verdicts.proofs.target.nearest.Given as goal

abbrev pub invariant-loop-index : goal.invariant-loop-index
invariant-loop-index l = l.best ≡ nearest (entry_distance l.judge.palette.now l.own) l.counts l.m l.index
