-- `frontier::growing::mark_large`: the groups so far. Assumes nothing.
use Rattle.std.proofs.Common.{◌≤◌}
use Rattle.frontier.specs.Growing.{Enlarged}
use Rattle.frontier.proofs.Repaints.{Wide}
use Rattle.frontier.proofs.growing.mark_large.Given as goal

abbrev pub invariant-loop-at : goal.invariant-loop-at
invariant-loop-at l = record {
  done : Enlarged l.n (Wide l.n l.fn.work l.limit l.at) l.fn.work l.work;
  high : l.at ≤ l.count;
}
