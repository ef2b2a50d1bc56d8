-- `fill`: the first i places are filled. Assumes nothing.
use Rattle.std.proofs.Common.{◌≡◌, ℕ}
use Rattle.base.specs.Outputs.{filled}
use Rattle.color_lists.specs.Entries.{Gives}
use Rattle.color_lists.proofs.fill.Given as goal

abbrev pub invariant-loop-i : goal.invariant-loop-i
invariant-loop-i g l = (v : ℕ → g.row.T.Denot) → Gives g.F.Fn l.n v l.f → l.out ≡ filled l.i v l.initial.out
