-- One cell more, and the two ends. Assumes nothing.
use native.Mathlib.Omega.{arith}
use Rattle.outline.proofs.Fillings.{span_none}
use Rattle.outline.proofs.Padding.{pad_more, pad_ends}
use Rattle.outline.proofs.canvas.pad_row.Goals as goal

pub loop-x-init : goal.loop-x-init
loop-x-init c = record { low = omega arith; high = omega arith; row = span_none _ _ _ _ }

pub loop-x-preserved : goal.loop-x-preserved
loop-x-preserved c =
    let s = c.requires in
    let i = c.loop-x.invariant in
    record {
      low = omega arith;
      high = omega arith;
      row = rw c.pad_cell.ensures (pad_more _ _ _ _ i.row s.y_bound s.h_bound.2 i.low (omega arith));
    }

pub returns : goal.returns
returns c =
    let s = c.requires in
    pad_ends _ _ _ _ c.loop-x.invariant.row s.y_bound s.h_bound.2 (omega arith) _ _ c.pad_cell-2.ensures c.pad_cell-3.ensures
