-- The loop: the rows before y are marked. Assumes nothing.
use Prim.Native.Nat.{◌*◌}
use mathlib.Core.Bool.{cond}
use Rattle.rules.specs.Outline.{ring}
use Rattle.outline.specs.Standing.{sheet_on}
use Rattle.outline.proofs.Fillings.{Span}
use Rattle.outline.proofs.canvas.Lent.mark_ring.Given as goal

abbrev pub invariant-loop-y : goal.invariant-loop-y
invariant-loop-y l = Span 0 0 (l.y * l.self.w) (λ p. cond (ring (sheet_on l.self) p) 1 0) l.fn.marks l.marks
