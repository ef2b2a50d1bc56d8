-- Steps from a cell of a grid to its neighbours. Definitions only. Assumes nothing.
use Rattle.std.specs.Prelude.{ℕ, ◌+◌, ◌/◌, ◌%◌, ◌<◌, Bool, ℤ, pos, negsuc}
use Rattle.grid.specs.declared.Neighbourhood.{Neighbourhood}
use Rattle.grid.specs.declared.Neighbourhood.TheVariants.{Four, Eight}
use Rattle.rules.specs.Grid.{four, eight}

-- one place back, none, or one on
pub data Single : ℤ → Type 0 where
  back : Single (negsuc 0)
  stay : Single (pos 0)
  on : Single (pos 1)

-- the place p has cells all around
pub record Inner (h w p : ℕ) : Type 0 where
  pub above : 0 < p / w
  pub below : p / w + 1 < h
  pub before : 0 < p % w
  pub after : p % w + 1 < w

-- how many of the eight steps lead to a neighbour
unfoldable pub steps_of : Neighbourhood → ℕ
steps_of Four = 4
steps_of Eight = 8

-- which places are neighbours in rows of w
unfoldable pub neighbours : Neighbourhood → ℕ → ℕ → ℕ → Bool
neighbours Four = four
neighbours Eight = eight
