-- Settings as C hands them over. Definitions only. Assumes nothing.
use Rattle.std.specs.Prelude.{ℕ, cond, eqb, ltb, ℤ, Float}
use Rattle.std.specs.Float.{nan}
use Rattle.rules.specs.declared.Outline.{Outline}
use Rattle.rules.specs.declared.Outline.TheVariants.{None, Auto, Rgb}
use Rattle.rules.specs.declared.PostConfig.{PostConfig}
use Rattle.rules.specs.Masks.{is_set}

-- the outline of a kind: 1 is auto with its darkening, 2 the triple, any other none
abbrev pub outline_of : ℕ → Float → ℕ → ℕ → ℕ → Outline
outline_of kind darken r g b = cond (eqb kind 1) (Auto darken) (cond (eqb kind 2) (Rgb r g b) None)

-- a kind above 2 is a setting out of range: it is handed on as a beta that is none
abbrev pub beta_of : ℕ → Float → Float
beta_of kind beta = cond (ltb 2 kind) nan beta

-- the settings of `run`
abbrev pub config_of : Float → ℕ → ℤ → Float → ℕ → Outline → ℕ → PostConfig
config_of beta orphans region delta jaggies outline tileset =
    record {
      saturation_beta = beta;
      remove_orphans = is_set orphans;
      orphan_min_region = region;
      orphan_max_delta = delta;
      fix_jaggies = is_set jaggies;
      outline = outline;
      tileset = is_set tileset;
    }
