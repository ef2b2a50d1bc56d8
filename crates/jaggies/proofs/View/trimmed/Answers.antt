-- `View::trimmed`: the one corner that the spot can be decides. Assumes nothing.
use Rattle.std.proofs.Common.{ℕ, Option, refl, ap, ◌∙◌, not}
use mathlib.Core.Logic.{inl, inr}
use Rattle.std.specs.Option.{unwrap_or}
use Rattle.jaggies.proofs.Cuts.{on_both_same, either_no, toward_held, toward_one, level, upright, turned}
use Rattle.jaggies.proofs.View.trimmed.Goals as goal

pub returns-then-left-right-clause-sees : goal.returns-then-left-right-clause-sees
returns-then-left-right-clause-sees c old shown =
    level _ _ _ c.requires.0 _ _ _ _ (c.look-left.ensures.sees old shown) (c.look-right.ensures.sees old shown) refl refl (on_both_same c.if-left-right.true)

pub returns-then-not-on_one-clause-sees : goal.returns-then-not-on_one-clause-sees
returns-then-not-on_one-clause-sees c old shown =
    let left = c.look-left.ensures.sees old shown in
    let right = c.look-right.ensures.sees old shown in
    let above = c.look-above.ensures.sees old shown in
    let below = c.look-below.ensures.sees old shown in
    elim (either_no c.on_one.result c.on_one-2.result (ap not c.if-not-on_one.true)) [
      | inl z ↦ level _ _ _ c.requires.0 _ _ _ _ left right above below (c.on_one.ensures z)
      | inr z ↦ upright _ _ _ c.requires.0 _ _ _ _ left right above below (c.on_one-2.ensures z)
    ]

pub invariant_of-corner : goal.invariant_of-corner
invariant_of-corner c = record { rows = rw c.toward.ensures (toward_one _ _); cols = rw c.toward-2.ensures (toward_one _ _) }

pub returns-clause-sees : goal.returns-clause-sees
returns-clause-sees c old shown =
    c.unwrap_or.ensures ∙ ap (λ (o : Option ℕ). unwrap_or o c.args.a) (c.cut.ensures.sees old shown)
    ∙ turned _ _ _ c.requires.0 _ _ _ _
    (c.look-left.ensures.sees old shown) (c.look-right.ensures.sees old shown) (c.look-above.ensures.sees old shown) (c.look-below.ensures.sees old shown)
    (toward_held c.look-below.result c.args.a c.toward.ensures) (toward_held c.look-right.result c.args.a c.toward-2.ensures)
