-- Corner trimming. Definitions only. Assumes nothing.
use Rattle.std.specs.Prelude.{ℕ, ◌/◌, ◌%◌, Bool, false, not, ◌&&◌, ◌||◌, cond, List, [], ◌∷◌, eqb, ltb, ℤ, pos, negsuc, neg_ℤ, ◌+ℤ◌, Option, None, Some}
use Rattle.std.specs.Int.Signed.{non_neg}
use Rattle.base.specs.Places.{table}
use Rattle.rules.specs.Sheet.{Sheet, area}
use Rattle.rules.specs.Grid.{step_to}
use Rattle.rules.specs.Regions.{at}

-- two cells are the same number
unfoldable pub same : ℤ → ℤ → Bool
same (pos i) (pos j) = eqb i j
same (negsuc i) (negsuc j) = eqb i j
same (pos i) (negsuc j) = false
same (negsuc i) (pos j) = false

-- the way a corner points: sy and sx, each 1 or -1
pub record Corner : Type 0 where
  pub sy : ℤ
  pub sx : ℤ

-- the four corners; `negsuc 0` is -1
unfoldable pub corners : List Corner
corners =
    record { sy = negsuc 0; sx = negsuc 0 }
    ∷ record { sy = negsuc 0; sx = pos 1 }
    ∷ record { sy = pos 1; sx = negsuc 0 }
    ∷ record { sy = pos 1; sx = pos 1 }
    ∷ []

module _ (s : Sheet) (p : ℕ) where
  -- the cell that a step from p finds; off the grid there is none
  unfoldable pub look : ℤ → ℤ → Option ℤ
  look dy dx = elim (step_to s.height s.width (p / s.width) (p % s.width) dy dx) [ None ↦ None | Some q ↦ Some (at s.cells q) ]

  -- it is a; off the grid matches nothing
  unfoldable pub finds : ℤ → ℤ → ℤ → Bool
  finds dy dx a = elim (look dy dx) [ None ↦ false | Some b ↦ same b a ]

  -- the cell that lies opposite the corner, a candidate for B; off the grid a transparent one stands in
  unfoldable pub opposite : Corner → ℤ
  opposite c = elim (look (neg_ℤ c.sy) (neg_ℤ c.sx)) [ None ↦ negsuc 0 | Some b ↦ b ]

  -- both arms of the corner are a
  unfoldable pub arms : Corner → ℤ → Bool
  arms c a = finds (pos 0) c.sx a && finds c.sy (pos 0) a

  -- the other six neighbours are b
  unfoldable pub around : Corner → ℤ → Bool
  around c b =
      finds (neg_ℤ c.sy) (neg_ℤ c.sx) b && finds (neg_ℤ c.sy) (pos 0) b && finds (neg_ℤ c.sy) c.sx b
      && finds (pos 0) (neg_ℤ c.sx) b && finds c.sy (neg_ℤ c.sx) b && finds c.sy c.sx b

  -- the staircase of a goes on beyond both arms
  unfoldable pub goes_on : Corner → ℤ → Bool
  goes_on c a = finds (neg_ℤ c.sy) (c.sx +ℤ c.sx) a && finds (c.sy +ℤ c.sy) (neg_ℤ c.sx) a

  -- p, of index a, is the corner c of a staircase of a over another index b
  unfoldable pub is_corner : Corner → ℤ → ℤ → Bool
  is_corner c a b = non_neg b && not (same b a) && arms c a && around c b && goes_on c a

  -- what the cell a at p becomes by the first of some corners that it is
  unfoldable pub trimmed_by : List Corner → ℤ → ℤ
  trimmed_by [] a = a
  trimmed_by (c ∷ cs) a = cond (is_corner c a (opposite c)) (opposite c) (trimmed_by cs a)

  -- what the cell at p becomes: a transparent one stays as it is
  unfoldable pub trimmed : ℤ
  trimmed = let a = at s.cells p in cond (non_neg a) (trimmed_by corners a) a

-- corners trimmed: below 4 rows or columns nothing changes, and every test reads the sheet as it was
unfoldable pub trim : Sheet → Sheet
trim s =
    cond (ltb s.height 4 || ltb s.width 4) s
    (record { cells = table (area s) (trimmed s); height = s.height; width = s.width })
