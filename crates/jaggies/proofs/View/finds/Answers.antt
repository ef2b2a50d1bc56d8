-- `View::finds`. Assumes nothing.
use Rattle.std.proofs.Common.{ℕ, ap, ◌∙◌}
use lib.Dec.{eqb}
use mir.Facts.{to_z-of_z}
use Rattle.jaggies.proofs.Steps.{finds_paint}
use Rattle.jaggies.proofs.View.finds.Goals as goal

pub returns : goal.returns
returns c old shown =
    ap (λ (v : ℕ). eqb v c.args.a) (rw (to_z-of_z c.ranges.dy, to_z-of_z c.ranges.dx) at (c.look.ensures.sees old shown)) ∙ finds_paint _ _ _ _ _ c.requires.2
