-- `frontier::judging::judge_around`: the places of the group so far. Assumes nothing.
use Rattle.std.proofs.Common.{◌≤◌}
use Rattle.grid.specs.Planes.{end_of}
use Rattle.verdicts.specs.Steps.{area_of}
use Rattle.verdicts.specs.Judging.{rule_of}
use Rattle.verdicts.specs.Polling.{Beside}
use Rattle.frontier.specs.Judging.{Met, Small}
use Rattle.frontier.proofs.judging.judge_around.Given as goal

abbrev pub invariant-loop-i : goal.invariant-loop-i
invariant-loop-i l = record {
  met : Met (rule_of l.judge.grid l.judge.by l.judge.palette.now) l.judge.grid l.judge.by.k (Small (area_of l.judge.grid) l.fn.work (Beside l.judge.grid l.fn.work (end_of (area_of l.judge.grid) l.fn.work l.at) l.i)) l.fn.work l.work l.from l.end;
  low : end_of (area_of l.judge.grid) l.fn.work l.at ≤ l.i;
}
