-- A row with no cells; else one cell more, and the two ends. Assumes nothing.
use Rattle.std.proofs.Common.{ℕ, List, set, refl, ap, ◌∙◌, arith, ◌+◌, ◌-◌, ◌*◌}
use mathlib.Core.Bool.{cond}
use Rattle.rules.specs.Outline.{ring}
use Rattle.grid.proofs.Places.{place_in_lem}
use Rattle.outline.specs.Standing.{sheet_on}
use Rattle.outline.proofs.Places.{row_fits}
use Rattle.outline.proofs.Fillings.{span_none, stretch_none, row_more, row_ends}
use Rattle.outline.proofs.canvas.Lent.mark_row.Goals as goal

pub returns-then-self-eq0 : goal.returns-then-self-eq0
returns-then-self-eq0 c = stretch_none _ _ _ _ c.if-self-eq0.true

pub loop-x-init : goal.loop-x-init
loop-x-init c = record { low = omega arith; high = omega arith; row = span_none _ _ _ _ }

pub loop-x-preserved : goal.loop-x-preserved
loop-x-preserved c =
    let on = c.args.self in
    let i = c.loop-x.invariant in
    record {
      low = omega arith;
      high = omega arith;
      row = rw c.mark_cell.ensures (row_more _ _ i.row i.low (omega (arith, place_in_lem on.h on.w c.args.y c.loop-x.x c.requires.0 (omega arith), c.requires.1)) _ refl);
    }

pub returns : goal.returns
returns c =
    let on = c.args.self in
    let last = c.args.y * on.w + (on.w - 1) in
    let i = c.loop-x.invariant in
    c.mark_cell-3.ensures
    ∙ ap (λ (k : List ℕ). set k last (cond (ring (sheet_on on) last) 1 0)) c.mark_cell-2.ensures
    ∙ row_ends _ _ i.row i.low on.w (on.w - 1) (omega arith) (omega arith) (omega arith) (omega (arith, row_fits on.h on.w c.args.y c.requires.0, c.requires.1)) _ _ refl refl
