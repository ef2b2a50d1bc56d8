-- `frontier::judging::judge_frontier`: the groups of the log so far. Assumes nothing.
use Rattle.std.proofs.Common.{◌≤◌}
use Rattle.verdicts.specs.Steps.{area_of}
use Rattle.verdicts.specs.Judging.{rule_of}
use Rattle.frontier.specs.Judging.{Met, Small, AroundLogged}
use Rattle.frontier.proofs.judging.judge_frontier.Given as goal

abbrev pub invariant-loop-i : goal.invariant-loop-i
invariant-loop-i l = record {
  met : Met (rule_of l.judge.grid l.judge.by l.judge.palette.now) l.judge.grid l.judge.by.k (Small (area_of l.judge.grid) l.fn.work (AroundLogged l.judge.grid l.fn.work l.begin l.i)) l.fn.work l.work l.end l.mid;
  low : l.begin ≤ l.i;
}
