-- The loop: the cells between the row's start and column x are written. Assumes nothing.
use Prim.Native.Nat.{◌+◌, ◌≤◌}
use Rattle.outline.proofs.Padding.{Row}
use Rattle.outline.proofs.canvas.pad_row.Given as goal

abbrev pub invariant-loop-x : goal.invariant-loop-x
invariant-loop-x l = record {
  low : 1 ≤ l.x;
  high : l.x ≤ l.w + 1;
  row : Row l.h l.w l.y l.x l.fn.cells l.cells;
}
