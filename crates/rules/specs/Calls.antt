-- What each entry on a sheet with a palette is given. Definitions only. Assumes nothing.
use Rattle.std.specs.Prelude.{ℕ, Bool, ℤ, Float}
use Rattle.rules.specs.declared.Limits.{Limits}
use Rattle.rules.specs.declared.Drawing.{Drawing}
use Rattle.rules.specs.declared.PostConfig.{PostConfig}
use Rattle.rules.specs.Sheet.{LentSheet}
use Rattle.rules.specs.Palette.{Palette}

abbrev pub limits_at : ℤ → Float → Limits
limits_at region colour = record { region = region; colour = colour }

-- a call of `remove_orphans`, with at most `passes` passes
pub record OrphansCall : Type 0 where
  pub lent : LentSheet
  pub palette : Palette
  pub limits : Limits
  pub passes : ℕ

-- a call of `fix_jaggies`
pub record JaggiesCall : Type 0 where
  pub lent : LentSheet

-- a call of `add_outline`
pub record OutlineCall : Type 0 where
  pub lent : LentSheet
  pub palette : Palette
  pub how : Drawing

-- a call of `run`: the palette was saturated already, or is fixed; the margin of the outline
pub record RunCall : Type 0 where
  pub lent : LentSheet
  pub palette : Palette
  pub config : PostConfig
  pub saturated : Bool
  pub fixed : Bool
  pub margin : ℤ
