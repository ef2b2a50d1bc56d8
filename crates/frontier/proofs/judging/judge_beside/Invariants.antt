-- `frontier::judging::judge_beside`: the steps so far. Assumes nothing.
use Rattle.std.proofs.Common.{◌≤◌}
use Rattle.grid.specs.Steps.{steps_of}
use Rattle.verdicts.specs.Steps.{area_of}
use Rattle.verdicts.specs.Judging.{rule_of}
use Rattle.verdicts.proofs.Votes.{Reached}
use Rattle.frontier.specs.Judging.{Met, Small}
use Rattle.frontier.proofs.judging.judge_beside.Given as goal

abbrev pub invariant-loop-s : goal.invariant-loop-s
invariant-loop-s l = record {
  met : Met (rule_of l.judge.grid l.judge.by l.judge.palette.now) l.judge.grid l.judge.by.k (Small (area_of l.judge.grid) l.fn.work (Reached l.judge.grid l.p l.s)) l.fn.work l.work l.from l.end;
  made : l.s ≤ steps_of l.judge.grid.near;
}
