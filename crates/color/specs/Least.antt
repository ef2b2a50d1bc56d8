-- The least of the values that a scan meets. Definitions only. Assumes nothing.
use Rattle.std.specs.Prelude.{cond, Option, None, Some}
use Rattle.std.specs.Float.Ieee.{lt}
use Rattle.color.specs.declared.least.Least.{Least}

-- what a scan holds after one more value: the new one if it is less
unfoldable pub lowered : Option Least → Least → Least
lowered None next = next
lowered (Some least) next = cond (lt next.value least.value) next least
