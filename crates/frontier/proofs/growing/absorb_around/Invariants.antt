-- `frontier::growing::absorb_around`: the places of the group so far. Assumes nothing.
use Rattle.std.proofs.Common.{◌≤◌}
use Rattle.grid.specs.Planes.{end_of}
use Rattle.verdicts.specs.Steps.{area_of}
use Rattle.frontier.specs.Growing.{Gained}
use Rattle.frontier.proofs.Around.{MatchesTo}
use Rattle.frontier.proofs.growing.absorb_around.Given as goal

abbrev pub invariant-loop-i : goal.invariant-loop-i
invariant-loop-i l = record {
  gained : Gained l.grid (MatchesTo l.grid l.fn.work l.at l.i) l.fn.work l.work l.from l.end;
  low : end_of (area_of l.grid) l.fn.work l.at ≤ l.i;
}
