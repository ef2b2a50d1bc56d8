-- The loop: the rows from y on are done, all cells below hold what they held. Assumes nothing.
use Rattle.outline.proofs.Padding.{Pads}
use Rattle.outline.proofs.canvas.pad.Given as goal

abbrev pub invariant-loop-y : goal.invariant-loop-y
invariant-loop-y l = Pads l.h l.w l.y l.fn.cells l.cells
