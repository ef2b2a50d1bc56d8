-- A sheet in a lent list, and the place of a sheet in the padded one. Definitions only. Assumes nothing.
use Rattle.std.specs.Prelude.{ℕ, ◌*◌, ◌≤◌, Bool, not, ◌&&◌, List, leb, ℤ, length}
use Rattle.rules.specs.Rows.{too_large}

-- a sheet of h rows of w cells, padded or not, stands at the front of the list
pub record Present (cells : List ℤ) (h w : ℕ) : Type 0 where
  pub high : h ≤ 514
  pub wide : w ≤ 514
  pub room : h * w ≤ length cells

-- a sheet has sides in range and stands in a list of len cells
unfoldable pub present : ℕ → ℕ → ℕ → Bool
present h w len = not (too_large h w).applies && leb (h * w) len

-- from 1 to len
unfoldable pub from_one : ℕ → ℕ → Bool
from_one len a = leb 1 a && leb a len

-- row y and column x of the padded sheet lie on the sheet itself
unfoldable pub on_sheet : ℕ → ℕ → ℕ → ℕ → Bool
on_sheet h w y x = from_one h y && from_one w x
