-- `frontier::growing::repaint_all`: the groups of the log so far. Assumes nothing.
use Rattle.std.proofs.Common.{◌≡◌, ◌≤◌, ◌⊎◌}
use Rattle.frontier.specs.Growing.{Listed, Repainted}
use Rattle.frontier.proofs.growing.repaint_all.Given as goal

abbrev pub invariant-loop-i : goal.invariant-loop-i
invariant-loop-i l = record {
  done : Repainted l.n (Listed l.n l.fn.work l.from l.i) l.fn.work l.work;
  low : l.from ≤ l.i;
  high : (l.i ≤ l.to) ⊎ (l.i ≡ l.from);
}
