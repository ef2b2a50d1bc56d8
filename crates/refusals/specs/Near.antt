-- Doubles near 0. Definitions only. Assumes nothing.
use Rattle.std.specs.Prelude.{◌*◌, Bool, not, ◌&&◌, Float, get_or}
use Rattle.std.specs.Float.{nan}
use Rattle.std.specs.Float.Ieee.{neg, le}
use Rattle.base.specs.Places.{any}
use Rattle.rules.specs.Palette.{Palette}

-- x is from -reach to reach, and no NaN
unfoldable pub near : Float → Float → Bool
near reach x = le (neg reach) x && le x reach

-- every double in use is
unfoldable pub all_near : Float → Palette → Bool
all_near reach palette = not (any (3 * palette.count) (λ i. not (near reach (get_or palette.lab i nan))))
