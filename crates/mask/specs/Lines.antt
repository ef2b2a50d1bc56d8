-- What the parts of the dilation promise one another: counts of set places. Definitions only. Assumes nothing.
use Rattle.std.specs.Prelude.{ℕ, ◌+◌, ◌*◌, ◌-◌, ◌≤◌, ◌<◌, min, ◌≡◌, Bool, ◌&&◌, cond, List, ltb, get_or}
use Rattle.base.specs.Places.{any, count}
use Rattle.rules.specs.Grid.{close}
use Rattle.rules.specs.Masks.{is_set}

-- 1 for a number that is not 0
unfoldable pub bit_of : ℕ → ℕ
bit_of v = cond (is_set v) 1 0

-- 1 if a is less than b
unfoldable pub less : ℕ → ℕ → ℕ
less a b = cond (ltb a b) 1 0

-- ---- along a row

-- whether place i is set
unfoldable pub set_in : List ℕ → ℕ → Bool
set_in mask i = is_set (get_or mask i 0)

-- how many of the first w places that pass t stand before place i - r
unfoldable pub count_with_margin : ℕ → ℕ → (ℕ → Bool) → ℕ → ℕ
count_with_margin r w t i = count (min (i - r) w) t

-- what stands above at j, and 1 more if what stands in hi is more than what stands in lo
unfoldable pub next_count : List ℕ → List ℕ → List ℕ → ℕ → ℕ
next_count above lo hi j = get_or above j 0 + less (get_or lo j 0) (get_or hi j 0)

-- ---- down the columns

-- whether row y of the mask has a set place within k columns of x
unfoldable pub in_row : List ℕ → ℕ → ℕ → ℕ → ℕ → Bool
in_row mask w k x y = any w (λ i. set_in mask (y * w + i) && close k x i)

-- d + 1 rows of w counts: each counts the rows before its own that have a set place within k columns
pub record Counted (mask : List ℕ) (w k d : ℕ) (work : List ℕ) : Type 0 where
  pub rows : (y x : ℕ) → y ≤ d → x < w → get_or work (y * w + x) 0 ≡ count y (in_row mask w k x)

-- 1 if the counts of column x grow in the window of k rows about y
unfoldable pub grows : List ℕ → ℕ → ℕ → ℕ → ℕ → ℕ → ℕ
grows work h w k y x = less (get_or work ((y - k) * w + x) 0) (get_or work (min (y + k + 1) h * w + x) 0)
