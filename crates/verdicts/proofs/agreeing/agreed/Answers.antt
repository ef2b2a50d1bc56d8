-- `verdicts::agreeing::agreed`: the places so far. Assumes nothing.
use Rattle.std.proofs.Common.{ℕ, ◌+◌, ◌-◌, refl, sym, ap, ap₂, ◌∙◌, arith}
use Rattle.grid.specs.Steps.{steps_of}
use Rattle.verdicts.specs.declared.agreeing.Agreement.{Agreement}
use Rattle.verdicts.specs.Agreeing.{asked_beside, asked_around, one_paint}
use Rattle.verdicts.proofs.Agrees.{around_more, several-around}
use Rattle.verdicts.proofs.agreeing.agreed.Goals as goal

pub loop-p-init : goal.loop-p-init
unfolding asked_around
loop-p-init c = refl

-- with several paints so far there is no single one
pub returns-in-Several : goal.returns-in-Several
unfolding one_paint
returns-in-Several c =
    ap one_paint
    (several-around c.args.grid c.args.work.now c.args.span.from (c.loop-p.p-index + 1) (c.args.span.to - c.args.span.from) (omega (arith, c.places-p-items.ensures.count))
    (sym c.in-Several.is ∙ c.ask_beside-found.ensures
    ∙ ap₂ (λ (p : ℕ) (t : Agreement). asked_beside c.args.grid c.args.work.now p (steps_of c.args.grid.near) t) (c.places-p-items.ensures.each c.loop-p.p-index c.loop-p-test.true) c.loop-p.invariant
    ∙ around_more c.args.grid c.args.work.now c.args.span.from c.loop-p.p-index))

pub loop-p-preserved : goal.loop-p-preserved
loop-p-preserved c =
    c.ask_beside-found.ensures
    ∙ ap₂ (λ (p : ℕ) (t : Agreement). asked_beside c.args.grid c.args.work.now p (steps_of c.args.grid.near) t) (c.places-p-items.ensures.each c.loop-p.p-index c.loop-p-test.true) c.loop-p.invariant
    ∙ around_more c.args.grid c.args.work.now c.args.span.from c.loop-p.p-index
