-- Cleaning a lent sheet: what it asks of its arguments. Definitions only. Assumes nothing.
use Rattle.std.specs.Prelude.{ℕ, ◌*◌, ◌≤◌, ◌≡◌, true, false, List, Float, ℤ, length}
use Rattle.rules.specs.Palette.{palette_of}
use Rattle.rules.specs.Rows.{bad_index}
use Rattle.rules.specs.Sheet.{sheet_of}

-- a sheet of at most 514 rows and columns in a list that is long enough, eight planes for it, and a palette; if regions can be small, every cell names an entry
pub record Fit (cells : List ℤ) (h w : ℕ) (palette : List Float) (k : ℕ) (region : ℤ) (work : ℕ) : Type 0 where
  pub rows : h ≤ 514
  pub cols : w ≤ 514
  pub reads : h * w ≤ length cells
  pub planes : 8 * (h * w) ≤ work
  pub entries : k ≤ 256
  pub doubles : length palette ≡ 768
  pub known : (bad_index true region (palette_of palette k) (sheet_of cells h w)).applies ≡ false
