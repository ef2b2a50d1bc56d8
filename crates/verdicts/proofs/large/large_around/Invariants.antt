-- `verdicts::large::large_around`: none beside the places so far. Assumes nothing.
use Rattle.std.proofs.Common.{◌≡◌, true, ℕ, ◌+◌, ◌<◌}
use Rattle.rules.specs.Grid.{eight}
use Rattle.grid.specs.Planes.{plane}
use Rattle.verdicts.proofs.large.large_around.Given as goal

abbrev pub invariant-loop-p : goal.invariant-loop-p
invariant-loop-p l = (i : ℕ) → i < l.p-index → (q : ℕ) → eight l.w (plane l.n 2 l.work (l.fn.span.from + i)) q ≡ true → plane l.n 5 l.work q ≡ 0
