-- `frontier::growing::absorb_all`: the groups of the log so far. Assumes nothing.
use Rattle.std.proofs.Common.{◌≡◌, ◌≤◌, ◌⊎◌}
use Rattle.frontier.specs.Growing.{MatchesLogged, Gained}
use Rattle.frontier.proofs.growing.absorb_all.Given as goal

abbrev pub invariant-loop-i : goal.invariant-loop-i
invariant-loop-i l = record {
  gained : Gained l.grid (MatchesLogged l.grid l.fn.work l.from l.i) l.fn.work l.work l.to l.last;
  low : l.from ≤ l.i;
  high : (l.i ≤ l.to) ⊎ (l.i ≡ l.from);
}
