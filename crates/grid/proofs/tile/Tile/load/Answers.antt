-- `grid::tile::Tile::load`: the tile, row by row. Assumes nothing.
use Rattle.std.proofs.Common.{◌*◌, sym, zero-mul}
use Rattle.base.proofs.Fills.{filled_none}
use Rattle.grid.proofs.Tiles.{filled-to, paints_none, paints_to}
use Rattle.grid.proofs.tile.Tile.load.Goals as goal

pub loop-y-init : goal.loop-y-init
loop-y-init c = let w = c.args.self.w in record {
  loaded = filled-to 0 (0 * w) _ _ _ (sym (zero-mul w)) (filled_none _ _);
  paints = paints_to (sym (zero-mul w)) (paints_none _);
}
