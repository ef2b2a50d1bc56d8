-- `View::arms`. Assumes nothing.
use Rattle.std.proofs.Common.{sym, ◌∙◌}
use Rattle.rules.specs.Corners.{arms}
use Rattle.jaggies.proofs.Signs.{on}
use Rattle.jaggies.proofs.Cuts.{on_yes, on_no}
use Rattle.jaggies.proofs.View.arms.Goals as goal

pub returns-then-finds : goal.returns-then-finds
unfolding arms
returns-then-finds c old shown =
    on_yes
    (sym (rw (on c.args.c.sx c.args.c.cols) at (c.finds.ensures old shown)) ∙ c.if-finds.true)
    (rw (on c.args.c.sy c.args.c.rows) at (c.finds-then-finds.ensures old shown))

pub returns-else-finds : goal.returns-else-finds
unfolding arms
returns-else-finds c old shown =
    on_no _
    (sym (rw (on c.args.c.sx c.args.c.cols) at (c.finds.ensures old shown)) ∙ c.if-finds.false)
    c.if-finds.false
