-- `grid::tile::Tile::load_row`: a row of the tile, place by place. Assumes nothing.
use mir.Syntax.{w32}
use mir.Val.{SFits}
use mir.Facts.{to_z-of_z}
use Rattle.std.proofs.Common.{◌≡◌, ◌+◌, ◌*◌, ◌<◌, pos, length, get_or, sym, ap, ◌∙◌, rules, arith}
use Rattle.grid.specs.Planes.{paint_of}
use Rattle.grid.specs.Tiles.{tile_paint}
use Rattle.grid.proofs.Tiles.{bounds, read_spot, load_more, paints_more, paints_to}
use Rattle.grid.proofs.tile.Tile.load_row.Goals as goal

pub bounds-cells-i : goal.bounds-cells-i
bounds-cells-i c = (bounds c.requires.lies c.args.y c.loop-x.x c.requires.y_lt_h c.loop-x-test.true).spot

pub loop-x-preserved : goal.loop-x-preserved
unfolding tile_paint
loop-x-preserved c =
    let a = c.args in
    let x = c.loop-x.x in
    let k = a.y * a.self.w + x in
    let cell = get_or a.cells.now (a.self.start + a.y * a.self.stride + x) (pos 0) in
    let known : SFits w32 cell = search rules in
    let e : c.paint.result ≡ tile_paint a.cells.now a.self k =
    rw (to_z-of_z known) at c.paint.ensures.0 ∙ ap paint_of (sym (read_spot c.requires.lies a.y x c.requires.y_lt_h c.loop-x-test.true)) in
    let room : k < length c.loop-x.work = omega (arith, bounds c.requires.lies a.y x c.requires.y_lt_h c.loop-x-test.true) in
    record {
      loaded = λ l s. load_more k (a.y * a.self.w + (x + 1)) c.paint.result _ l _ (c.loop-x.invariant.loaded l s) (omega arith) room e;
      paints = λ m. paints_to (omega arith) (paints_more (c.loop-x.invariant.paints m) room c.paint.ensures.1);
    }
