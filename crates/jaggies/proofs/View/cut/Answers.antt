-- `View::cut`: the tests of the rule, one after the other. Assumes nothing.
use Rattle.std.proofs.Common.{true, false, sym, ◌∙◌}
use Rattle.base.proofs.Counting.{both}
use Rattle.jaggies.proofs.Signs.{back}
use Rattle.jaggies.proofs.Steps.{opposite_paint}
use Rattle.jaggies.proofs.Cuts.{cut_clear, cut-same, cut_by}
use Rattle.jaggies.proofs.View.cut.Goals.{then-b-eq-TRANSPARENT-via-then-b-eq-TRANSPARENT, then-b-eq-TRANSPARENT-via-else-b-eq-TRANSPARENT+then-b-a, else-arms-via-then-arms+then-around+else-goes_on, else-arms-via-then-arms+else-around, else-arms-via-else-arms}
use Rattle.jaggies.proofs.View.cut.Goals as goal

pub returns-then-b-eq-TRANSPARENT-clause-sees : goal.returns-then-b-eq-TRANSPARENT-clause-sees
returns-then-b-eq-TRANSPARENT-clause-sees c old shown =
    let over = (rw (back c.args.c.sy c.args.c.rows, back c.args.c.sx c.args.c.cols) at (c.look-b.ensures.sees old shown)) ∙ opposite_paint _ _ _ in
    elim c.then-b-eq-TRANSPARENT.branch [
      | then-b-eq-TRANSPARENT-via-then-b-eq-TRANSPARENT w ↦ cut_clear _ _ _ _ _ c.requires over w.if-b-eq-TRANSPARENT.true
      | then-b-eq-TRANSPARENT-via-else-b-eq-TRANSPARENT+then-b-a w ↦ cut-same _ _ _ _ _ c.requires over w.if-b-a.true
    ]

pub returns-then-goes_on-clause-sees : goal.returns-then-goes_on-clause-sees
returns-then-goes_on-clause-sees c old shown =
    let over = (rw (back c.args.c.sy c.args.c.rows, back c.args.c.sx c.args.c.cols) at (c.look-b.ensures.sees old shown)) ∙ opposite_paint _ _ _ in
    cut_by _ _ _ _ _ c.requires over c.if-b-eq-TRANSPARENT.false c.if-b-a.false true
    (both (both (sym (c.arms.ensures old shown) ∙ c.if-arms.true) (sym (c.around.ensures old shown) ∙ c.if-around.true)) (sym (c.goes_on.ensures old shown) ∙ c.if-goes_on.true))

pub returns-clause-sees : goal.returns-clause-sees
returns-clause-sees c old shown =
    let over = (rw (back c.args.c.sy c.args.c.rows, back c.args.c.sx c.args.c.cols) at (c.look-b.ensures.sees old shown)) ∙ opposite_paint _ _ _ in
    let arms = sym (c.arms.ensures old shown) in
    cut_by _ _ _ _ _ c.requires over c.if-b-eq-TRANSPARENT.false c.if-b-a.false false
    (elim c.else-arms.branch [
      | else-arms-via-then-arms+then-around+else-goes_on w ↦
          rw (both (arms ∙ w.if-arms.true) (sym (w.around.ensures old shown) ∙ w.if-around.true)) (sym (w.goes_on.ensures old shown) ∙ w.if-goes_on.false)
      | else-arms-via-then-arms+else-around w ↦ rw (arms ∙ w.if-arms.true, sym (w.around.ensures old shown) ∙ w.if-around.false)
      | else-arms-via-else-arms w ↦ rw (arms ∙ w.if-arms.false)
    ])
