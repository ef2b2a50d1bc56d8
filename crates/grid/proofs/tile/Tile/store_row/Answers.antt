-- `grid::tile::Tile::store_row`: a row of the tile, place by place. Assumes nothing.
use mir.Syntax.{w32}
use mir.Val.{SFits}
use mir.Facts.{to_z-of_z}
use Rattle.std.proofs.Common.{◌+◌, ◌*◌, ◌<◌, pos, get_or, refl, ◌∙◌, rules, arith}
use Rattle.grid.proofs.Planes.{plane_read}
use Rattle.grid.proofs.Tiles.{bounds, same_tile, store_next}
use Rattle.grid.proofs.tile.Tile.store_row.Goals as goal

pub slice_copy_out-repainted : goal.slice_copy_out-repainted
slice_copy_out-repainted c = omega (arith, bounds c.requires.lies c.args.y c.loop-x.x c.requires.y_lt_h c.loop-x-test.true)

pub repainted-requires : goal.repainted-requires
repainted-requires c =
    let a = c.args in
    let p = a.y * a.self.w + c.loop-x.x in
    let on : p < a.self.h * a.self.w = (bounds c.requires.lies a.y c.loop-x.x c.requires.y_lt_h c.loop-x-test.true).on in
    omega (arith, plane_read (a.self.h * a.self.w) 0 p p a.work.now (omega arith), c.requires.by_index p on)

pub bounds-cells-i : goal.bounds-cells-i
bounds-cells-i c = omega (arith, bounds c.requires.lies c.args.y c.loop-x.x c.requires.y_lt_h c.loop-x-test.true)

pub loop-x-preserved : goal.loop-x-preserved
loop-x-preserved c =
    let a = c.args in
    let x = c.loop-x.x in
    let k = a.y * a.self.w + x in
    let on : k < a.self.h * a.self.w = (bounds c.requires.lies a.y x c.requires.y_lt_h c.loop-x-test.true).on in
    let known : SFits w32 (get_or c.loop-x.cells (a.self.start + a.y * a.self.stride + x) (pos 0)) = search rules in
    let fits : SFits w32 c.repainted.result = search rules in
    let e = to_z-of_z fits ∙ rw (to_z-of_z known, plane_read (a.self.h * a.self.w) 0 k k a.work.now (omega arith)) at c.repainted.ensures in
    λ l s. store_next l c.loop-x.cells a.work.now a.self a.y x _ (same_tile c.requires.lies c.loop-x.auto.cells refl) c.requires.y_lt_h c.loop-x-test.true (c.loop-x.invariant l s) e
