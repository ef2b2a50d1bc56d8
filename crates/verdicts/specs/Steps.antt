-- A grid, and a step on it, as the functions on regions take them. Definitions only. Assumes nothing.
use Rattle.std.specs.Prelude.{ℕ, ◌*◌, ◌/◌, ◌%◌, ◌<◌, ◌≡◌, Bool, false, Option}
use Rattle.rules.specs.Grid.{step_to}
use Rattle.grid.specs.declared.Grid.{Grid}
use Rattle.grid.specs.declared.Move.{Move}
use Rattle.grid.specs.Steps.{neighbours, Single, Inner}

-- how many cells a grid has
abbrev pub area_of : Grid → ℕ
area_of grid = grid.h * grid.w

-- q is a neighbour of p
abbrev pub adjoins : Grid → ℕ → ℕ → Bool
adjoins grid = neighbours grid.near grid.w

-- where a step leads
abbrev pub landing : Grid → Move → Option ℕ
landing grid step = step_to grid.h grid.w (step.p / grid.w) (step.p % grid.w) step.dy step.dx

-- a step of at most one place each way, from a cell of the grid that is on no edge unless `border` says so
pub record OneStep (grid : Grid) (step : Move) : Type 0 where
  pub place : step.p < area_of grid
  pub rows : Single step.dy
  pub cols : Single step.dx
  pub inner : step.border ≡ false → Inner grid.h grid.w step.p
