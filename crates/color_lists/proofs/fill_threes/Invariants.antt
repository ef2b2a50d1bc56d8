-- `fill_threes`: the numbers of the first i colours are filled in. Assumes nothing.
use Rattle.std.proofs.Common.{◌≡◌, ℕ, ◌*◌, ◌/◌, ◌%◌}
use Rattle.base.specs.Outputs.{filled}
use Rattle.color_lists.specs.Entries.{Gives}
use Rattle.color_lists.proofs.fill_threes.Given as goal

abbrev pub invariant-loop-i : goal.invariant-loop-i
invariant-loop-i g l =
    (v : ℕ → ℕ → g.row.T.Denot) → Gives g.F.Fn l.n (λ i. (v i 0, v i 1, v i 2)) l.f → l.out ≡ filled (3 * l.i) (λ k. v (k / 3) (k % 3)) l.initial.out
