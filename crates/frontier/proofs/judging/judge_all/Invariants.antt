-- `frontier::judging::judge_all`: the groups so far. Assumes nothing.
use Rattle.std.proofs.Common.{◌≤◌, ◌<◌}
use Rattle.verdicts.specs.Judging.{rule_of}
use Rattle.frontier.specs.Judging.{Met}
use Rattle.frontier.proofs.judging.judge_all.Given as goal

abbrev pub invariant-loop-at : goal.invariant-loop-at
invariant-loop-at l = record {
  met : Met (rule_of l.judge.grid l.judge.by l.judge.palette.now) l.judge.grid l.judge.by.k (λ i. i < l.at) l.fn.work l.work 0 l.end;
  made : l.at ≤ l.count;
}
