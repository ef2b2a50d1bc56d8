-- `Grid::reached` is `step_to`, on the border and within. Assumes nothing.
use Rattle.std.proofs.Common.{sym}
use Rattle.grid.proofs.Signs.{single_is}
use Rattle.grid.proofs.Places.{wide, row_in, col_in, single-near, past_is, inner_step}
use Rattle.grid.proofs.Grid.reached.Goals as goal

pub nonzero_div-p : goal.nonzero_div-p
nonzero_div-p c = wide c.args.self.h c.args.self.w c.args.step.p c.requires.p_bound

pub nonzero_rem-p : goal.nonzero_rem-p
nonzero_rem-p c = wide c.args.self.h c.args.self.w c.args.step.p c.requires.p_bound

pub neighbour-requires : goal.neighbour-requires
neighbour-requires c =
    let p = c.requires.p_bound in
    let n = single-near c.requires.single.0 c.requires.single.1 in
    record {
      y_lt_h = (row_in _ _ _ p, col_in _ _ _ p);
      dy_value =
          (rw (single_is c.requires.single.0) n.up, rw (single_is c.requires.single.0) n.down, rw (single_is c.requires.single.1) n.left, rw (single_is c.requires.single.1) n.right);
    }

pub returns-then-step : goal.returns-then-step
returns-then-step c = rw (single_is c.requires.single.0, single_is c.requires.single.1) at c.neighbour.ensures

pub past-rows-requires : goal.past-rows-requires
past-rows-requires c = rw (single_is c.requires.single.0) c.requires.single.0

pub past-cols-requires : goal.past-cols-requires
past-cols-requires c = rw (single_is c.requires.single.1) c.requires.single.1

pub returns : goal.returns
returns c =
    let rows = past_is c.requires.single.0 (rw (single_is c.requires.single.0) at c.past-rows.ensures) in
    let cols = past_is c.requires.single.1 (rw (single_is c.requires.single.1) at c.past-cols.ensures) in
    sym (inner_step (c.requires.single.2 c.if-step.false) rows cols)
