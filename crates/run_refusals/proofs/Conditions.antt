-- Row 6 of `run`: the palette after saturation, and the row in two parts. Assumes nothing.
use mathlib.Core.Path.{◌≡◌}
use mathlib.Core.Bool.{Bool, true, false}
use mathlib.Core.List.{[], ◌∷◌, ◌++◌}
use Rattle.base.specs.declared.Refusal.TheVariants.{SettingOutOfRange}
use Rattle.base.specs.Refusals.{row, refusal}
use Rattle.refusals.proofs.Rows.{setting_in_two}
use Rattle.rules.specs.declared.PostConfig.{PostConfig}
use Rattle.rules.specs.Palette.{Palette, out_of_range, saturate}
use Rattle.rules.specs.Run.{toned}
use Rattle.rules.specs.Rows.{palette_rows}
use Rattle.rules.specs.Entries.{bad_ranges, bad_config}

module _ (config : PostConfig) (kept : Bool) (palette : Palette) where
  pub kept_tones : kept ≡ true → toned kept config palette ≡ palette
  unfolding toned
  kept_tones y = rw y

  pub new_tones : kept ≡ false → toned kept config palette ≡ saturate config.saturation_beta palette
  unfolding toned
  new_tones z = rw z

  -- row 6 in two parts: the settings' ranges, and the doubles that saturation leaves
  pub in_two : refusal (palette_rows palette (bad_config config kept palette)) ≡ refusal (palette_rows palette (bad_ranges config) ++ row SettingOutOfRange (out_of_range (toned kept config palette)) ∷ [])
  unfolding bad_config
  in_two = setting_in_two palette (bad_ranges config) (out_of_range (toned kept config palette))
