-- What corner trimming reads while it writes over the sheet: the rows that it may still test stand in the work area as they were,
-- three of them at most, the last of which ends before the place `end`; all rows past them are untouched. Definitions only. Assumes nothing.
use Rattle.std.specs.Prelude.{ℕ, ◌+◌, ◌-◌, ◌*◌, ◌≤◌, ◌<◌, ◌≡◌, true, cond, List, eqb, ltb, ℤ, pos, negsuc, length, get_or, Option, Some, None}
use Rattle.std.specs.Int.Signed.{le_z}
use Rattle.base.specs.Outputs.{filled}
use Rattle.rules.specs.Sheet.{Sheet, sheet_of}
use Rattle.rules.specs.Regions.{at}
use Rattle.rules.specs.Corners.{Corner, is_corner, opposite, trimmed}
use Rattle.grid.specs.Planes.{paint_of}
use Rattle.jaggies.specs.declared.Spot.{Spot}

-- the place of a spot, and the end of its row
abbrev pub spot_place : Spot → ℕ
spot_place s = s.y * s.w + s.x

abbrev pub row_end : Spot → ℕ
row_end s = s.y * s.w + s.w

-- row y and column x of a sheet of h rows of w cells
abbrev pub spot_at : ℕ → ℕ → ℕ → ℕ → Spot
spot_at h w y x = record { y = y; x = x; h = h; w = w }

-- the paint that stood at the place q
unfoldable pub old_paint : List ℤ → List ℕ → ℕ → ℕ → ℕ → ℕ
old_paint cells work w end q = cond (ltb q end) (get_or work (q + 3 * w - end) 0) (paint_of (get_or cells q (pos 0)))

-- the most that a paint can be
abbrev pub largest_paint : ℕ
largest_paint = 2147483648

-- the work area holds paints in its rows that end before `end`
pub record RowsHoldPaints (work : List ℕ) (w end : ℕ) : Type 0 where
  pub small : (q : ℕ) → q < end → end ≤ q + 3 * w → get_or work (q + 3 * w - end) 0 ≤ largest_paint

-- the spot lies on its sheet, whose sides are in range; the lists have room for the sheet and three of its rows, which are paints
pub record SpotFits (cells : List ℤ) (work : List ℕ) (s : Spot) : Type 0 where
  pub row : s.y < s.h
  pub col : s.x < s.w
  pub tall : s.h ≤ 512
  pub wide : s.w ≤ 512
  pub sheet : s.h * s.w ≤ length cells
  pub rows : 3 * s.w ≤ length work
  pub paints : RowsHoldPaints work s.w (row_end s)

-- these are the paints of the sheet `old`
pub record OldRows (old : List ℤ) (work : List ℕ) (w end : ℕ) : Type 0 where
  pub paint : (q : ℕ) → q < end → end ≤ q + 3 * w → get_or work (q + 3 * w - end) 0 ≡ paint_of (at old q)

-- all that a test from a spot may read is as in the sheet `old`
pub record Shown (old cells : List ℤ) (work : List ℕ) (s : Spot) : Type 0 where
  pub paint : (q : ℕ) → row_end s ≤ q + 3 * s.w → q < s.h * s.w → old_paint cells work s.w (row_end s) q ≡ paint_of (at old q)

-- r is f of that sheet and the spot's place
abbrev pub Sees : {A : Type 0} → List ℤ → List ℕ → Spot → A → (Sheet → ℕ → A) → Type 0
Sees cells work s r f = (old : List ℤ) → Shown old cells work s → r ≡ f (sheet_of old s.h s.w) (spot_place s)

-- the sheet `old` is trimmed at its first k places
pub record Trimmed (old : List ℤ) (h w k : ℕ) (cells : List ℤ) : Type 0 where
  pub whole : h * w ≤ length old
  pub filled : cells ≡ filled k (trimmed (sheet_of old h w)) old

-- the first i places of each row in the work area have the paints of the row below it; below the last one lies the row that begins at `end`
pub record Moved (cells : List ℤ) (w end : ℕ) (before work : List ℕ) (i : ℕ) : Type 0 where
  pub first : (j : ℕ) → j < i → get_or work j 0 ≡ get_or before (w + j) 0
  pub second : (j : ℕ) → j < i → get_or work (w + j) 0 ≡ get_or before (2 * w + j) 0
  pub third : (j : ℕ) → j < i → get_or work (2 * w + j) 0 ≡ paint_of (get_or cells (end + j) (pos 0))
  pub small : (j : ℕ) → j < i → get_or work (2 * w + j) 0 ≤ largest_paint
  pub rest : (q : ℕ) → ((j : ℕ) → j < i → (q ≡ j → ⊥) × (q ≡ w + j → ⊥) × (q ≡ 2 * w + j → ⊥)) → get_or work q 0 ≡ get_or before q 0

-- ---- corners

-- at most two places either way
pub record Short (d : ℤ) : Type 0 where
  pub low : le_z (negsuc 1) d ≡ true
  pub high : le_z d (pos 2) ≡ true

-- the paint of the cell that a step finds; 0 if there is none
unfoldable pub found_paint : Option ℤ → ℕ
found_paint None = 0
found_paint (Some a) = paint_of a

-- the corner that points so
abbrev pub way : ℤ → ℤ → Corner
way sy sx = record { sy = sy; sx = sx }

-- the paint that the cell a at p takes if it is the corner c
unfoldable pub cut : Sheet → ℕ → Corner → ℤ → Option ℕ
cut s p c a = cond (is_corner s p c a (opposite s p c)) (Some (paint_of (opposite s p c))) None

-- the way from a cell of the paint a to an arm: on, if the next cell that way has the paint too, else back
unfoldable pub toward : ℕ → ℕ → ℤ
toward next a = cond (eqb next a) (pos 1) (negsuc 0)

-- the paint a stands on both of two sides or on neither
pub record OnBoth (x y a : ℕ) : Type 0 where
  pub there : x ≡ a → y ≡ a
  pub back : y ≡ a → x ≡ a
