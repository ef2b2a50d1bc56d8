-- `grid::tile::Tile::store_row`: the places of the row before x are stored. Assumes nothing.
use Rattle.std.proofs.Common.{◌≡◌, ◌+◌, ◌*◌, List, ℤ}
use Rattle.grid.specs.Tiles.{stored_to}
use Rattle.grid.proofs.tile.Tile.store_row.Given as goal

abbrev pub invariant-loop-x : goal.invariant-loop-x
invariant-loop-x l = (k : List ℤ) → l.fn.cells ≡ stored_to (l.y * l.fn.self.w) k l.work l.fn.self → l.cells ≡ stored_to (l.y * l.fn.self.w + l.x) k l.work l.fn.self
