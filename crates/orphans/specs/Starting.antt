-- The planes before the first pass: a labelled sheet, with its large regions told. Definitions only. Assumes nothing.
use Rattle.std.specs.Prelude.{ℕ, ◌-◌, ◌*◌, ◌≤◌, ◌<◌, ◌≡◌, Bool, not, cond, ◌&&◌, List, eqb, leb, length}
use Rattle.grid.specs.declared.Grid.{Grid}
use Rattle.grid.specs.Planes.{plane, cells_of, end_of, Labelled}
use Rattle.verdicts.specs.declared.Criteria.{Criteria}
use Rattle.verdicts.specs.Steps.{area_of, adjoins}
use Rattle.verdicts.specs.Judging.{Indexed}

-- the work area holds a sheet on the grid, all indices below 256, with its regions
pub record LabelledSheet (grid : Grid) (work : List ℕ) : Type 0 where
  pub rows : grid.h ≤ 514
  pub cols : grid.w ≤ 514
  pub room : 8 * (area_of grid) ≤ length work
  pub paint : (q : ℕ) → q < area_of grid → plane (area_of grid) 0 work q ≤ 256
  pub regions : ℕ
  pub taken : ℕ
  pub labelled : Labelled (adjoins grid) (cells_of (area_of grid) work) (area_of grid) work regions taken

-- the number of cells of the region with the label l
unfoldable pub size_of : ℕ → List ℕ → ℕ → ℕ
size_of n work l = end_of n work l - end_of n work (l - 1)

-- q lies in a region of at least `limit` cells
unfoldable pub in_large : ℕ → ℕ → List ℕ → ℕ → Bool
in_large n limit work q = not (eqb (plane n 1 work q) 0) && leb limit (size_of n work (plane n 1 work q))

-- the planes before the first pass: `count` regions, labelled; those of at least as many places as the region limit are large; no place is frozen and no region has a number
pub record AtStart (grid : Grid) (by : Criteria) (work : List ℕ) (count : ℕ) : Type 0 where
  pub sheet : LabelledSheet grid work
  pub full : count ≡ sheet.regions
  pub known : Indexed (area_of grid) by.k work
  pub flags : (q : ℕ) → q < area_of grid → plane (area_of grid) 5 work q ≡ cond (in_large (area_of grid) by.limit work q) 1 0
  pub thawed : (q : ℕ) → q < area_of grid → plane (area_of grid) 4 work q ≡ 0
  pub blank : (l : ℕ) → l < count → plane (area_of grid) 6 work l ≡ 0
