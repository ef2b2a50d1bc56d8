-- A sheet that is not there is not padded. Assumes nothing.
use Rattle.std.proofs.Common.{Bool, ◌&&◌, sym, ap, ◌∙◌}
use Rattle.rules.specs.Outline.{asked, pads}
use Rattle.outline.proofs.Refusing.{present-sheet}
use Rattle.outline.proofs.rows.padding.Goals as goal

pub invariant_of-on : goal.invariant_of-on
invariant_of-on c = record { present = present-sheet _ _ _ (sym c.present.ensures ∙ c.if-not-present.false) }

pub returns : goal.returns
unfolding pads
returns c =
    let how = c.args.how in
    rw (sym c.present.ensures ∙ c.if-not-present.false) (c.pads.ensures ∙ ap (λ (b : Bool). how.allow_pad && asked how.outline && b) c.touches_edge.ensures)
