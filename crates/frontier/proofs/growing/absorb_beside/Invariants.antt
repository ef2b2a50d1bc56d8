-- `frontier::growing::absorb_beside`: the steps so far. Assumes nothing.
use Rattle.std.proofs.Common.{◌≤◌}
use Rattle.grid.specs.Steps.{steps_of}
use Rattle.frontier.specs.Growing.{Gained}
use Rattle.frontier.proofs.Gains.{MatchesBy}
use Rattle.frontier.proofs.growing.absorb_beside.Given as goal

abbrev pub invariant-loop-s : goal.invariant-loop-s
invariant-loop-s l = record {
  gained : Gained l.grid (MatchesBy l.grid l.fn.work l.p l.s) l.fn.work l.work l.from l.end;
  made : l.s ≤ steps_of l.grid.near;
}
