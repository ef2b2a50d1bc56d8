-- `grid::tile::Tile::load_row`: the places of the row before x are loaded. Assumes nothing.
use Rattle.std.proofs.Common.{◌≡◌, ℕ, ◌+◌, ◌*◌, List}
use Rattle.base.specs.Outputs.{filled}
use Rattle.grid.specs.Tiles.{tile_paint, PaintsTo}
use Rattle.grid.proofs.tile.Tile.load_row.Given as goal

abbrev pub invariant-loop-x : goal.invariant-loop-x
invariant-loop-x l = record {
  loaded : (k : List ℕ) → l.fn.work ≡ filled (l.y * l.fn.self.w) (tile_paint l.cells l.fn.self) k → l.work ≡ filled (l.y * l.fn.self.w + l.x) (tile_paint l.cells l.fn.self) k;
  paints : PaintsTo (l.y * l.fn.self.w) l.fn.work → PaintsTo (l.y * l.fn.self.w + l.x) l.work;
}
