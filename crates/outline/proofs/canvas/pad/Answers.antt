-- The rows from the last one down. Assumes nothing.
use native.Mathlib.Omega.{arith}
use Rattle.outline.proofs.Padding.{pads-start, pads_step, pads_end}
use Rattle.outline.proofs.canvas.pad.Goals as goal

pub loop-y-init : goal.loop-y-init
loop-y-init c = pads-start _ _ _

pub pad_row-requires : goal.pad_row-requires
pad_row-requires c =
    let r = c.requires in
    let i = c.loop-y.invariant in
    record { h_bound = (r.0, r.1, omega (arith, i.moved.size, r.2)); y_bound = omega (arith, i.low) }

pub loop-y-preserved : goal.loop-y-preserved
loop-y-preserved c = pads_step c.loop-y.invariant c.requires.2 _ (omega arith) _ c.pad_row.ensures

pub returns : goal.returns
returns c = pads_end c.loop-y.invariant (omega arith) c.requires.2
