-- The work area between the passes of a cleaning: a sheet, its places in groups, and which of them are large. Definitions only. Assumes nothing.
-- Planes: 0 paint; 1 label, 2 order, 3 end of region by label, of the regions at the start; 4 frozen; 5 large, 0 for no and otherwise the mark of the last vote;
-- 6 what became of a region by label, 0 nothing, 1 frozen, c + 2 repainted into c; 7 the regions that became large, by label, in that order.
use Rattle.std.specs.Prelude.{ℕ, suc, ◌*◌, ◌≤◌, ◌<◌, ◌≡◌, List, length}
use Rattle.grid.specs.declared.Grid.{Grid}
use Rattle.grid.specs.Planes.{plane, end_of}
use Rattle.verdicts.specs.declared.large.Span.{Span}
use Rattle.verdicts.specs.Steps.{area_of}

-- the work area has its eight planes, for at most as many cells as a padded sheet has
pub record Planes (n : ℕ) (work : List ℕ) : Type 0 where
  pub few : n ≤ 264196
  pub room : 8 * n ≤ length work

-- the places with the label at + 1 stand in the order from end_of at on and before end_of (at + 1)
pub record Group (n : ℕ) (work : List ℕ) (at : ℕ) : Type 0 where
  pub label : at < n
  pub some : end_of n work at < end_of n work (suc at)
  pub end : end_of n work (suc at) ≤ n
  pub places : (i : ℕ) → end_of n work at ≤ i → i < end_of n work (suc at) → (plane n 2 work i < n) × (plane n 1 work (plane n 2 work i) ≡ suc at)
  pub all : (p : ℕ) → p < n → plane n 1 work p ≡ suc at → (i : ℕ) × (end_of n work at ≤ i) × (i < end_of n work (suc at)) × (plane n 2 work i ≡ p)

-- a span of the order: its end comes after its beginning and within the order, and it holds places
pub record Stretch (n : ℕ) (work : List ℕ) (span : Span) : Type 0 where
  pub rises : span.from ≤ span.to
  pub end : span.to ≤ n
  pub places : (i : ℕ) → span.from ≤ i → i < span.to → plane n 2 work i < n

-- the work area holds a sheet on the grid, all indices below 256; its places stand in groups, and large places are opaque
pub record GroupedSheet (grid : Grid) (work : List ℕ) : Type 0 where
  pub rows : grid.h ≤ 514
  pub cols : grid.w ≤ 514
  pub room : 8 * area_of grid ≤ length work
  pub paint : (q : ℕ) → q < area_of grid → plane (area_of grid) 0 work q ≤ 256
  pub shown : (q : ℕ) → q < area_of grid → (plane (area_of grid) 1 work q ≡ 0 → ⊥) → 1 ≤ plane (area_of grid) 0 work q
  pub large : (q : ℕ) → q < area_of grid → (plane (area_of grid) 5 work q ≡ 0 → ⊥) → 1 ≤ plane (area_of grid) 0 work q
  pub groups : (q at : ℕ) → q < area_of grid → plane (area_of grid) 1 work q ≡ suc at → Group (area_of grid) work at

-- of this, what a single cell's vote asks
pub record CanVote (n : ℕ) (work : List ℕ) : Type 0 where
  pub few : n ≤ 264196
  pub room : 8 * n ≤ length work
  pub paint : (q : ℕ) → q < n → plane n 0 work q ≤ 256
  pub large : (q : ℕ) → q < n → (plane n 5 work q ≡ 0 → ⊥) → 1 ≤ plane n 0 work q
