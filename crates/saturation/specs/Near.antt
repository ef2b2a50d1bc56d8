-- A palette and a beta so near 0 that no product can be out of range. Definitions only. Assumes nothing.
use Rattle.std.specs.Prelude.{Bool, ◌&&◌, ◌||◌, Float}
use Rattle.base.specs.Doubles.{decimal}
use Rattle.rules.specs.Palette.{Palette}
use Rattle.refusals.specs.Near.{near, all_near}

-- beta is from -1 to 1, or from -4 to 4 and every double in use from -256 to 256
unfoldable pub surely_in_range : Float → Palette → Bool
surely_in_range beta palette = near (decimal 1 0) beta || (near (decimal 4 0) beta && all_near (decimal 256 0) palette)
