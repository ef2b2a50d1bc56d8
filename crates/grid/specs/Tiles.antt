-- A tile: the h by w cells of a sheet from a place on, row by row; loaded into plane 0 and stored from it. Definitions only. Assumes nothing.
use Rattle.std.specs.Prelude.{ℕ, zero, suc, ◌+◌, ◌-◌, ◌*◌, ◌/◌, ◌%◌, ◌≤◌, ◌<◌, Bool, ◌&&◌, cond, List, leb, ltb, ℤ, pos, length, get_or}
use Rattle.base.specs.Places.{table}
use Rattle.rules.specs.Regions.{at}
use Rattle.grid.specs.declared.tile.Tile.{Tile}
use Rattle.grid.specs.Planes.{plane, paint_of}

-- the tile of a whole sheet of h rows of w cells
abbrev pub whole_sheet : ℕ → ℕ → Tile
whole_sheet h w = record { start = 0; stride = w; h = h; w = w }

-- where the place p of a tile lies in a sheet with rows of `stride` cells, the tile's first place being at `start`
unfoldable pub spot_of : Tile → ℕ → ℕ
spot_of t p = t.start + (p / t.w) * t.stride + p % t.w

-- the sizes: at most 514 rows and columns, and a work area of eight planes; the tile lies in the sheet
pub record Lies (cells : List ℤ) (work : List ℕ) (t : Tile) : Type 0 where
  pub rows : t.h ≤ 514
  pub cols : t.w ≤ 514
  pub planes : 8 * (t.h * t.w) ≤ length work
  pub from : t.start ≤ 264196
  pub narrow : t.w ≤ t.stride
  pub wide : t.stride ≤ 514
  pub in_list : (p : ℕ) → p < t.h * t.w → spot_of t p < length cells

-- ---- loading

-- the paint of the tile's place p
unfoldable pub tile_paint : List ℤ → Tile → ℕ → ℕ
tile_paint cells t p = paint_of (at cells (spot_of t p))

-- the first k numbers are paints of cells of 32 bits
pub record PaintsTo (k : ℕ) (work : List ℕ) : Type 0 where
  pub most : (p : ℕ) → p < k → get_or work p 0 ≤ 2147483648

-- ---- storing

-- a cell that gets a paint: 0 leaves it as it is
unfoldable pub repaint : ℕ → ℤ → ℤ
repaint zero old = old
repaint (suc i) old = pos i

-- whether a place of the sheet lies in the tile
unfoldable pub in_tile : Tile → ℕ → Bool
in_tile t i = leb t.start i && ltb ((i - t.start) / t.stride) t.h && ltb ((i - t.start) % t.stride) t.w

-- and which of the tile's places it is
unfoldable pub place_in : Tile → ℕ → ℕ
place_in t i = ((i - t.start) / t.stride) * t.w + (i - t.start) % t.stride

-- the sheet once the first k places of the tile are stored from plane 0
unfoldable pub stored_to : ℕ → List ℤ → List ℕ → Tile → List ℤ
stored_to k cells work t =
    table (length cells)
    (λ i. cond (in_tile t i && ltb (place_in t i) k) (repaint (plane (t.h * t.w) 0 work (place_in t i)) (at cells i)) (at cells i))

-- the sheet once the whole tile is stored
unfoldable pub stored : List ℤ → List ℕ → Tile → List ℤ
stored cells work t =
    table (length cells)
    (λ i. cond (in_tile t i) (repaint (plane (t.h * t.w) 0 work (place_in t i)) (at cells i)) (at cells i))
