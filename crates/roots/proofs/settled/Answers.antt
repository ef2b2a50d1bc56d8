-- `roots::settled`: the gap tells that the guess is the whole root, or the number before it. Assumes nothing.
use Rattle.std.proofs.Common.{arith}
use mathlib.Core.Logic.{inl, inr}
use Rattle.roots.specs.Units.{WholeRoot}
use Rattle.roots.proofs.Cube.{root-here, root_before, less_if}
use Rattle.roots.proofs.settled.Goals as goal

pub returns : goal.returns
returns c =
    let k = c.in_ok-c.ensures in (
      less_if (WholeRoot 3 _) _ _ _ _ c.from.ensures
          (λ h. root-here _ _ _ _ _ k h (omega arith) (λ q. elim c.else-c-eq-FAR.either [ inl p ↦ omega arith | inr n ↦ absurd (n q) ]))
          (λ h. root_before _ _ _ _ _ k c.requires.1 c.requires.2 h (omega arith)),
      omega arith,
    )
