-- The loop: the cells between the row's start and column x are marked. Assumes nothing.
use Prim.Native.Nat.{◌+◌, ◌*◌, ◌≤◌}
use mathlib.Core.Bool.{cond}
use Rattle.rules.specs.Outline.{ring}
use Rattle.outline.specs.Standing.{sheet_on}
use Rattle.outline.proofs.Fillings.{Span}
use Rattle.outline.proofs.canvas.Lent.mark_row.Given as goal

abbrev pub invariant-loop-x : goal.invariant-loop-x
invariant-loop-x l = record {
  low : 1 ≤ l.x;
  high : l.x ≤ l.self.w;
  row : Span 0 (l.y * l.self.w + 1) (l.y * l.self.w + l.x) (λ p. cond (ring (sheet_on l.self) p) 1 0) l.fn.marks l.marks;
}
