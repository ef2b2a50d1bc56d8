-- `grid::tile::Tile::store`: the tile, row by row. Assumes nothing.
use Rattle.std.proofs.Common.{◌≡◌, ℕ, ◌*◌, sym, ap, ◌∙◌, zero-mul, arith}
use Rattle.grid.proofs.Tiles.{stored-to, store_none, store_all}
use Rattle.grid.proofs.tile.Tile.store.Goals as goal

pub loop-y-init : goal.loop-y-init
loop-y-init c = let a = c.args in stored-to 0 (0 * a.self.w) _ _ _ _ (sym (zero-mul a.self.w)) (store_none a.cells.now a.work.now a.self)

pub returns : goal.returns
returns c =
    let a = c.args in
    let e : c.loop-y.y ≡ a.self.h = omega arith in
    stored-to (c.loop-y.y * a.self.w) (a.self.h * a.self.w) _ _ _ _ (ap (λ (k : ℕ). k * a.self.w) e) c.loop-y.invariant ∙ store_all a.cells.now a.work.now a.self c.requires.lies.narrow
