-- Rows 4 to 6 by the settings' ranges, and row 6 by the doubles that saturation leaves. Assumes nothing.
use mathlib.Core.Path.{◌≡◌, refl, sym, ap, ◌∙◌}
use mathlib.Core.Bool.{Bool, true, false, ◌||◌}
use Rattle.std.specs.Prelude.{None, Some, Result, Ok, Err}
use Rattle.std.proofs.Common.{rules}
use native.Mathlib.Omega.{arith}
use Rattle.base.specs.declared.Refusal.{Refusal}
use Rattle.base.specs.declared.Refusal.TheVariants.{SettingOutOfRange}
use Rattle.base.specs.Refusals.{refusal, answered}
use Rattle.base.proofs.Refusing.{row_hit, row_last, rows_hit, rows_pass, some_answered, none_answered, answered_some, answered_none}
use Rattle.rules.specs.declared.PostConfig.{PostConfig}
use Rattle.rules.specs.Palette.{Palette, out_of_range, saturate}
use Rattle.rules.specs.Rows.{palette_rows}
use Rattle.rules.specs.Entries.{bad_ranges, bad_config}
use Rattle.refusals.specs.Room.{Usable}
use Rattle.refusals.proofs.Rows.{palette_room}
use Rattle.run_refusals.proofs.Conditions.{kept_tones, new_tones, in_two}
use Rattle.run_refusals.proofs.settings_refusal.Goals as goal

module _ (config : PostConfig) (kept : Bool) (palette : Palette) {bad : Bool} (told : bad ≡ bad_ranges config) where
  by_ranges : {n : Refusal} → ◌≡◌ {A = Result (Unit {0}) Refusal} (Err n) (answered (refusal (palette_rows palette bad)) tt) → refusal (palette_rows palette (bad_config config kept palette)) ≡ Some n
  by_ranges e = in_two config kept palette ∙ rows_hit _ _ (ap (λ (b : Bool). refusal (palette_rows palette b)) (sym told) ∙ answered_some (tt {0}) e refl)

  module _ (first : ◌≡◌ {A = Result (Unit {0}) Refusal} (Ok tt) (answered (refusal (palette_rows palette bad)) tt)) where
    passes : refusal (palette_rows palette (bad_ranges config)) ≡ None
    passes = ap (λ (b : Bool). refusal (palette_rows palette b)) (sym told) ∙ answered_none (tt {0}) first refl

    usable : Usable palette (bad_ranges config)
    usable = (palette_room _ passes).0

    as_kept : kept ≡ true → refusal (palette_rows palette (bad_config config kept palette)) ≡ None
    as_kept y = in_two config kept palette ∙ rows_pass _ _ passes ∙ row_last _ (ap out_of_range (kept_tones config kept palette y) ∙ usable.ranged)

    module _ (z : kept ≡ false) {far : Bool} (e : far ≡ out_of_range (saturate config.saturation_beta palette)) where
      by_products : far ≡ true → refusal (palette_rows palette (bad_config config kept palette)) ≡ Some SettingOutOfRange
      by_products y = in_two config kept palette ∙ rows_pass _ _ passes ∙ row_hit _ _ (ap out_of_range (new_tones config kept palette z) ∙ sym e ∙ y)

      in_range : far ≡ false → refusal (palette_rows palette (bad_config config kept palette)) ≡ None
      in_range n = in_two config kept palette ∙ rows_pass _ _ passes ∙ row_last _ (ap out_of_range (new_tones config kept palette z) ∙ sym e ∙ n)

pub returns-in_err-palette_refusal : goal.returns-in_err-palette_refusal
returns-in_err-palette_refusal c =
    let r : c.from_residual.result ≡ Err c.in_err-palette_refusal.field-0.0 = search rules in
    r ∙ some_answered _ (by_ranges c.args.o.config (c.args.o.saturated || c.args.o.fixed_palette) _ c.bad_ranges.ensures c.in_err-palette_refusal.ensures)

pub returns-then-not-scaled : goal.returns-then-not-scaled
returns-then-not-scaled c =
    none_answered _ (as_kept c.args.o.config (c.args.o.saturated || c.args.o.fixed_palette) _ c.bad_ranges.ensures c.in_ok-palette_refusal.ensures (sym c.kept-scaled.ensures ∙ c.if-not-scaled.true)) refl

pub invariant_of-scaled_too_far : goal.invariant_of-scaled_too_far
invariant_of-scaled_too_far c =
    let u = usable c.args.o.config (c.args.o.saturated || c.args.o.fixed_palette) _ c.bad_ranges.ensures c.in_ok-palette_refusal.ensures in
    record { room = (omega (arith, u.few, u.whole), u.few) }

pub scaled_too_far-requires : goal.scaled_too_far-requires
scaled_too_far-requires c = (usable c.args.o.config (c.args.o.saturated || c.args.o.fixed_palette) _ c.bad_ranges.ensures c.in_ok-palette_refusal.ensures).ranged

pub returns-then-scaled_too_far : goal.returns-then-scaled_too_far
returns-then-scaled_too_far c =
    some_answered _ (by_products c.args.o.config (c.args.o.saturated || c.args.o.fixed_palette) _ c.bad_ranges.ensures c.in_ok-palette_refusal.ensures (sym c.kept-scaled.ensures ∙ c.if-not-scaled.false) c.scaled_too_far.ensures c.if-scaled_too_far.true)

pub returns : goal.returns
returns c =
    none_answered _ (in_range c.args.o.config (c.args.o.saturated || c.args.o.fixed_palette) _ c.bad_ranges.ensures c.in_ok-palette_refusal.ensures (sym c.kept-scaled.ensures ∙ c.if-not-scaled.false) c.scaled_too_far.ensures c.if-scaled_too_far.false) refl
