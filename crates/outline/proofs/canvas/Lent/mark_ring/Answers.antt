-- Row after row. Assumes nothing.
use Rattle.std.proofs.Common.{◌≡◌, arith}
use native.Mathlib.Nat.{zero-mul}
use Rattle.outline.proofs.Places.{row_fits}
use Rattle.outline.proofs.Fillings.{span_none, span_filled, rows_more}
use Rattle.outline.proofs.canvas.Lent.mark_ring.Goals as goal

pub loop-y-init : goal.loop-y-init
loop-y-init c = rw zero-mul (span_none _ _ _ _)

pub loop-y-preserved : goal.loop-y-preserved
loop-y-preserved c =
    let on = c.args.self in
    rw c.mark_row.ensures (rows_more _ _ c.loop-y.invariant (omega (arith, row_fits on.h on.w c.loop-y.y c.loop-y-test.true, c.requires)))

pub returns : goal.returns
returns c =
    let e : c.loop-y.y ≡ c.args.self.h = omega arith in
    span_filled _ _ _ _ _ c.requires (rw e at c.loop-y.invariant)
