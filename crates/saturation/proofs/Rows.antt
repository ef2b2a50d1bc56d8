-- The rows of `apply_saturation`: those of a palette with beta as its setting, and row 6 again for the products. Assumes nothing.
use mathlib.Core.Path.{◌≡◌, ◌∙◌}
use mathlib.Core.Bool.{Bool, true, false, not}
use mathlib.Core.List.{[], ◌∷◌, ◌++◌}
use Rattle.std.specs.Prelude.{None, Some}
use lib.Ieee.{Float}
use Rattle.base.specs.declared.Refusal.{Refusal}
use Rattle.base.specs.declared.Refusal.TheVariants.{SettingOutOfRange}
use Rattle.base.specs.Refusals.{refusal}
use Rattle.base.proofs.Refusing.{row_hit, row_last, rows_hit, rows_pass}
use Rattle.rules.specs.Palette.{Palette, out_of_range, between, saturate}
use Rattle.rules.specs.Rows.{bad_setting, palette_rows}
use Rattle.rules.specs.Entries.{bad_saturation, saturation_refusal}
use Rattle.refusals.proofs.Rows.{setting_in_two}

module _ (palette : Palette) (beta : Float) where
  -- beta is out of range; a product is
  abbrev bad : Bool
  bad = not (between 0 16 beta)

  abbrev too_far : Bool
  too_far = out_of_range (saturate beta palette)

  in_two : saturation_refusal palette beta ≡ refusal (palette_rows palette bad ++ (bad_setting too_far ∷ []))
  unfolding saturation_refusal bad_saturation bad_setting
  in_two = setting_in_two palette bad too_far

  pub refused_palette : {n : Refusal} → refusal (palette_rows palette bad) ≡ Some n → saturation_refusal palette beta ≡ Some n
  refused_palette e = in_two ∙ rows_hit (palette_rows palette bad) _ e

  module _ (e : refusal (palette_rows palette bad) ≡ None) where
    pub refused_products : too_far ≡ true → saturation_refusal palette beta ≡ Some SettingOutOfRange
    unfolding bad_setting
    refused_products y = in_two ∙ rows_pass (palette_rows palette bad) _ e ∙ row_hit (bad_setting too_far) [] y

    pub not_refused : too_far ≡ false → saturation_refusal palette beta ≡ None
    unfolding bad_setting
    not_refused z = in_two ∙ rows_pass (palette_rows palette bad) _ e ∙ row_last (bad_setting too_far) z
