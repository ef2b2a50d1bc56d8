-- `store`: the rows before y are stored. Assumes nothing.
use Rattle.std.proofs.Common.{◌≡◌, ◌*◌, ◌/◌, ◌%◌}
use Rattle.base.specs.Outputs.{filled}
use Rattle.mask.specs.Lines.{grows}
use Rattle.mask.proofs.dilation.store.Given as goal

abbrev pub invariant-loop-y : goal.invariant-loop-y
invariant-loop-y l = l.out ≡ filled (l.y * l.w) (λ p. grows l.work l.h l.w l.k (p / l.w) (p % l.w)) l.initial.out
