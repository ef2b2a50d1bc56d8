-- `roots::cbrt`: what is not finite is its own root, and a negative value's sign is turned before and after. Assumes nothing.
use mathlib.Core.Path.{sym, ◌∙◌}
use Rattle.roots.proofs.Computed.{cbrt_is}
use Rattle.roots.proofs.Signs.{cube_kept, not_finite_root, sign_turned, sign_clear, cbrt_turned}
use Rattle.roots.proofs.cbrt.Goals as goal

pub returns-then-not-is_finite : goal.returns-then-not-is_finite
returns-then-not-is_finite c = cube_kept _ _ c.well_formed.0.1 (not_finite_root _ (sym c.is_finite.ensures.value ∙ c.if-not-is_finite.true))

pub cube_root-requires : goal.cube_root-requires
cube_root-requires c = sign_turned _ (sym c.is_finite.ensures.value ∙ c.if-not-is_finite.false) (sym c.is_sign_negative.ensures ∙ c.if-is_sign_negative.true)

pub returns-then-is_sign_negative : goal.returns-then-is_sign_negative
returns-then-is_sign_negative c =
    let s = sign_turned c.args.x (sym c.is_finite.ensures.value ∙ c.if-not-is_finite.false) (sym c.is_sign_negative.ensures ∙ c.if-is_sign_negative.true) in
    cube_kept _ _ c.well_formed.0.1 (cbrt_turned _ _ s c.cube_root.ensures)

pub cube_root-requires-2 : goal.cube_root-requires-2
cube_root-requires-2 c = sign_clear _ (sym c.is_finite.ensures.value ∙ c.if-not-is_finite.false) (sym c.is_sign_negative.ensures ∙ c.if-is_sign_negative.false)

pub returns : goal.returns
returns c =
    let s = sign_clear c.args.x (sym c.is_finite.ensures.value ∙ c.if-not-is_finite.false) (sym c.is_sign_negative.ensures ∙ c.if-is_sign_negative.false) in
    cube_kept _ _ c.well_formed.0.1 (cbrt_is _ _ s c.cube_root-2.ensures)
