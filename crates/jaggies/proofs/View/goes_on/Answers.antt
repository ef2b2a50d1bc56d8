-- `View::goes_on`. Assumes nothing.
use Rattle.std.proofs.Common.{sym, ◌∙◌}
use Rattle.rules.specs.Corners.{goes_on}
use Rattle.jaggies.proofs.Signs.{back, twice}
use Rattle.jaggies.proofs.Steps.{found_by}
use Rattle.jaggies.proofs.Cuts.{on_yes, on_no}
use Rattle.jaggies.proofs.View.goes_on.Goals as goal

pub returns-then-finds : goal.returns-then-finds
unfolding goes_on
returns-then-finds c old shown =
    on_yes
    (sym (found_by _ _ _ (back c.args.c.sy c.args.c.rows) (twice c.args.c.sx c.args.c.cols) (c.finds.ensures old shown)) ∙ c.if-finds.true)
    (found_by _ _ _ (twice c.args.c.sy c.args.c.rows) (back c.args.c.sx c.args.c.cols) (c.finds-then-finds.ensures old shown))

pub returns-else-finds : goal.returns-else-finds
unfolding goes_on
returns-else-finds c old shown =
    on_no _
    (sym (found_by _ _ _ (back c.args.c.sy c.args.c.rows) (twice c.args.c.sx c.args.c.cols) (c.finds.ensures old shown)) ∙ c.if-finds.false)
    c.if-finds.false
