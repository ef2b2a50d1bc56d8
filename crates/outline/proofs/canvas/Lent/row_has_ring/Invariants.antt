-- The loop: whether a cell before column x is of the ring. Assumes nothing.
use Prim.Native.Nat.{◌+◌, ◌*◌, ◌≤◌}
use mathlib.Core.Path.{◌≡◌}
use Rattle.base.specs.Places.{any}
use Rattle.outline.specs.Standing.{sheet_on}
use Rattle.rules.specs.Outline.{ring}
use Rattle.outline.proofs.canvas.Lent.row_has_ring.Given as goal

abbrev pub invariant-loop-x : goal.invariant-loop-x
invariant-loop-x l = record {
  low : 1 ≤ l.x;
  high : l.x ≤ l.self.w;
  told : l.found ≡ any l.x (λ i. ring (sheet_on l.self) (l.y * l.self.w + i));
}
