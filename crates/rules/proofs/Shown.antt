-- What is shown of one run and of two, for any rule, on the way to the promises. Definitions only. Assumes nothing.
use Prim.Native.Nat.{ℕ}
use mathlib.Core.Path.{◌≡◌}
use mathlib.Core.Bool.{true, false}
use mathlib.Core.List.{List}
use lib.IntN.{ℤ}
use Rattle.rules.specs.Regions.{at, index, Joined}
use Rattle.rules.specs.Pass.{Rule, State, marked, fresh, clean}
use Rattle.rules.specs.Claims.{Apart}

-- the sheet after cleaning with at most k passes
unfoldable pub cleaned : Rule → List ℤ → ℕ → List ℤ
cleaned rule cells k = (clean rule k (fresh rule cells)).state.cells

-- every cell of the region of x is frozen
unfoldable pub Frozen : Rule → State → ℕ → Type 0
Frozen rule s x = (y : ℕ) → Joined rule.adj s.cells x y → marked s.frozen y ≡ true

-- why the small region of x is left: it touches no large one, it was frozen, or its index may not be decided
pub data Left (rule : Rule) (s : State) (x : ℕ) : Type 0 where
  apart : Apart rule s x → Left rule s x
  frozen : Frozen rule s x → Left rule s x
  barred : rule.free (index (at s.cells x)) ≡ false → Left rule s x
