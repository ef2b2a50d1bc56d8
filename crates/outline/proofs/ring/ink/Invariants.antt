-- The loop: the cells before p are painted. Assumes nothing.
use Rattle.outline.proofs.Inking.{Inks}
use Rattle.outline.proofs.ring.ink.Given as goal

abbrev pub invariant-loop-p : goal.invariant-loop-p
invariant-loop-p l = Inks l.fn.cells l.marks l.index l.p l.cells
