-- `grid::tile::Tile::store`: the rows before y are stored. Assumes nothing.
use Rattle.std.proofs.Common.{◌≡◌, ◌*◌}
use Rattle.grid.specs.Tiles.{stored_to}
use Rattle.grid.proofs.tile.Tile.store.Given as goal

abbrev pub invariant-loop-y : goal.invariant-loop-y
invariant-loop-y l = l.cells ≡ stored_to (l.y * l.self.w) l.fn.cells l.work l.self
