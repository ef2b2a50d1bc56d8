-- A step of one place at most: as the code hands it on, and where it leads. Assumes nothing.
use Prim.Native.Nat.{ℕ, ◌/◌, ◌%◌, ◌<◌}
use mathlib.Core.Path.{◌≡◌, ap₂}
use mathlib.Core.Bool.{Bool}
use lib.IntN.{ℤ}
use mir.Syntax.{w32}
use mir.Val.{to_z, of_z}
use Rattle.rules.specs.Grid.{on_edge, step_to}
use Rattle.grid.specs.declared.Grid.{Grid}
use Rattle.grid.specs.declared.Move.{Move}
use Rattle.grid.specs.Steps.{steps_of}
use Rattle.grid.proofs.Signs.{single_is}
use Rattle.grid.proofs.Places.{rows_of, cols_of, hop, step_few, offset_single, off_border}
use Rattle.verdicts.specs.Steps.{area_of, landing, OneStep}

-- a number of places as a call hands it on
abbrev handed : ℤ → ℤ
handed d = to_z w32 (of_z w32 d)

-- ---- a walk over the steps from a place

-- the step s from p, as a walk hands it on
abbrev pub step_at : ℕ → ℕ → Bool → Move
step_at p s border = record { p = p; dy = handed (rows_of s); dx = handed (cols_of s); border = border }

-- what holds at the turn s of a walk from p
pub record WalkTurn (grid : Grid) (p s : ℕ) (border : Bool) : Type 0 where
  pub few : s < 8
  pub one : OneStep grid (step_at p s border)
  pub lands : landing grid (step_at p s border) ≡ hop grid.h grid.w p s

pub walk_turn : {grid : Grid} {p s : ℕ} {border : Bool} → p < area_of grid → border ≡ on_edge grid.h grid.w p → s < steps_of grid.near → WalkTurn grid p s border
unfolding hop
walk_turn {grid} {p = p} {s = s} inside edge turn =
    let few = step_few grid.near s turn in
    let o = offset_single s few in
    let rows = single_is o.0 in
    let cols = single_is o.1 in
    record {
      few = few;
      one = record { place = inside; rows = rw rows o.0; cols = rw cols o.1; inner = off_border grid.h grid.w p inside edge };
      lands = ap₂ (step_to grid.h grid.w (p / grid.w) (p % grid.w)) rows cols;
    }
