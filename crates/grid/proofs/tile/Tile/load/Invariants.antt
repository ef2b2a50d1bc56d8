-- `grid::tile::Tile::load`: the rows before y are loaded. Assumes nothing.
use Rattle.std.proofs.Common.{◌≡◌, ◌*◌}
use Rattle.base.specs.Outputs.{filled}
use Rattle.grid.specs.Tiles.{tile_paint, PaintsTo}
use Rattle.grid.proofs.tile.Tile.load.Given as goal

abbrev pub invariant-loop-y : goal.invariant-loop-y
invariant-loop-y l = record {
  loaded : l.work ≡ filled (l.y * l.self.w) (tile_paint l.cells l.self) l.fn.work;
  paints : PaintsTo (l.y * l.self.w) l.work;
}
