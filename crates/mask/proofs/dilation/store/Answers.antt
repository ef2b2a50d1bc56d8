-- `store`: row after row. Assumes nothing.
use Rattle.std.proofs.Common.{◌*◌, ◌∙◌, sym, arith}
use native.Mathlib.Nat.{zero-mul}
use Rattle.base.proofs.Fills.{filled_none}
use Rattle.grid.proofs.Tiles.{filled-to}
use Rattle.mask.proofs.Lines.{row_below, part_size}
use Rattle.mask.proofs.Square.{fill_row}
use Rattle.mask.proofs.dilation.store.Goals as goal

pub loop-y-init : goal.loop-y-init
loop-y-init c = filled-to 0 (0 * c.args.w) _ _ _ (sym (zero-mul c.args.w)) (filled_none _ _)

pub loop-y-preserved : goal.loop-y-preserved
loop-y-preserved c =
    let a = c.args in
    let y = c.loop-y.y in
    let within = row_below y a.h a.w c.loop-y-test.true in
    fill_row a.work.now a.out.now c.loop-y.out c.store_row.new.out a.h a.w a.k y _ _ _ _ _ _ c.loop-y.invariant c.saturating_sub.ensures c.min.ensures c.store_row.ensures
    (part_size c.loop-y.out (y * a.w) _ (omega arith) ∙ omega arith) (omega arith) (omega arith) (omega arith)
