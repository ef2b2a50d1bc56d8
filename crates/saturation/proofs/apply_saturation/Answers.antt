-- The rows of the palette, then the products, then they are written. Assumes nothing.
use mathlib.Core.Path.{◌≡◌, refl, sym, ◌∙◌}
use mathlib.Core.Bool.{not}
use mathlib.Core.List.{[]}
use Rattle.std.specs.Prelude.{None, Result, Err, Ok}
use Rattle.std.proofs.Common.{rules}
use native.Mathlib.Omega.{arith}
use lib.Ieee.{Float, of_bits, round}
use Rattle.base.specs.declared.Refusal.{Refusal}
use Rattle.base.specs.Doubles.{decimal}
use Rattle.base.specs.Refusals.{refusal, answered}
use Rattle.base.proofs.Refusing.{some_unless, none_unless, some_answered, none_answered, answered_some, answered_none}
use Rattle.rules.specs.Palette.{Palette, between}
use Rattle.rules.specs.Entries.{saturation_answer, saturation_palette}
use Rattle.rules.specs.Rows.{palette_rows}
use Rattle.refusals.specs.Room.{Usable}
use Rattle.refusals.proofs.Rows.{palette_room}
use Rattle.saturation.proofs.Rows.{refused_palette, refused_products, not_refused}
use Rattle.saturation.proofs.apply_saturation.Goals as goal

module _ (palette : Palette) (beta : Float) (e : ◌≡◌ {A = Result (Unit {0}) Refusal} (Ok tt) (answered (refusal (palette_rows palette (not (between 0 16 beta)))) tt)) where
  -- the rows of the palette refuse nothing
  clear : refusal (palette_rows palette (not (between 0 16 beta))) ≡ None
  clear = answered_none (tt {0}) e refl

  usable : Usable palette (not (between 0 16 beta))
  usable = (palette_room [] clear).0

pub returns-in_err-palette_refusal-clause-value : goal.returns-in_err-palette_refusal-clause-value
unfolding saturation_answer between decimal round of_bits
returns-in_err-palette_refusal-clause-value c =
    let r : c.from_residual.result ≡ Err c.in_err-palette_refusal.field-0.0 = search rules in
    r ∙ some_answered _ (refused_palette _ _ (answered_some _ (rw c.between-bad.ensures at c.in_err-palette_refusal.ensures) refl))

pub returns-in_err-palette_refusal-clause-palette_after : goal.returns-in_err-palette_refusal-clause-palette_after
unfolding saturation_palette between decimal round of_bits
returns-in_err-palette_refusal-clause-palette_after c =
    some_unless _ _ (refused_palette _ _ (answered_some _ (rw c.between-bad.ensures at c.in_err-palette_refusal.ensures) refl))

pub invariant_of-scaled_too_far : goal.invariant_of-scaled_too_far
unfolding between decimal round of_bits
invariant_of-scaled_too_far c =
    let u = usable _ c.args.beta (rw c.between-bad.ensures at c.in_ok-palette_refusal.ensures) in
    record { room = (omega (arith, u.few, u.whole), u.few) }

pub scaled_too_far-requires : goal.scaled_too_far-requires
unfolding between decimal round of_bits
scaled_too_far-requires c =
    (usable _ c.args.beta (rw c.between-bad.ensures at c.in_ok-palette_refusal.ensures)).ranged

pub returns-then-scaled_too_far-clause-value : goal.returns-then-scaled_too_far-clause-value
unfolding saturation_answer between decimal round of_bits
returns-then-scaled_too_far-clause-value c =
    some_answered _ (refused_products _ _ (clear _ c.args.beta (rw c.between-bad.ensures at c.in_ok-palette_refusal.ensures)) (sym c.scaled_too_far.ensures ∙ c.if-scaled_too_far.true))

pub returns-then-scaled_too_far-clause-palette_after : goal.returns-then-scaled_too_far-clause-palette_after
unfolding saturation_palette between decimal round of_bits
returns-then-scaled_too_far-clause-palette_after c =
    some_unless _ _ (refused_products _ _ (clear _ c.args.beta (rw c.between-bad.ensures at c.in_ok-palette_refusal.ensures)) (sym c.scaled_too_far.ensures ∙ c.if-scaled_too_far.true))

pub saturate-requires : goal.saturate-requires
unfolding between decimal round of_bits
saturate-requires c =
    let u = usable _ c.args.beta (rw c.between-bad.ensures at c.in_ok-palette_refusal.ensures) in
    (omega (arith, u.few, u.whole), u.few)

pub returns-clause-value : goal.returns-clause-value
unfolding saturation_answer between decimal round of_bits
returns-clause-value c =
    none_answered _ (not_refused _ _ (clear _ c.args.beta (rw c.between-bad.ensures at c.in_ok-palette_refusal.ensures)) (sym c.scaled_too_far.ensures ∙ c.if-scaled_too_far.false)) refl

pub returns-clause-palette_after : goal.returns-clause-palette_after
unfolding saturation_palette between decimal round of_bits
returns-clause-palette_after c =
    none_unless _ _ (not_refused _ _ (clear _ c.args.beta (rw c.between-bad.ensures at c.in_ok-palette_refusal.ensures)) (sym c.scaled_too_far.ensures ∙ c.if-scaled_too_far.false)) c.saturate.ensures
