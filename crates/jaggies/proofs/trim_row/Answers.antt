-- `trim_row`: one spot after the other. Assumes nothing.
use Rattle.std.proofs.Common.{◌≡◌, ◌+◌, ◌*◌, arith}
use native.Mathlib.Nat.{add-zero}
use Rattle.jaggies.proofs.Rows.{same_room}
use Rattle.jaggies.proofs.trim_row.Goals as goal

pub loop-x-init : goal.loop-x-init
loop-x-init c old rows t = rw add-zero t

pub trim_cell-requires : goal.trim_cell-requires
trim_cell-requires c = same_room c.loop-x.auto.cells (c.requires c.loop-x.x c.loop-x-test.true)

pub loop-x-preserved : goal.loop-x-preserved
loop-x-preserved c old rows t =
    let next : c.args.y * c.args.w + c.loop-x.x + 1 ≡ c.args.y * c.args.w + (c.loop-x.x + 1) = omega arith in
    rw next at (c.trim_cell.ensures old rows (c.loop-x.invariant old rows t))

pub returns : goal.returns
returns c old rows t =
    let all : c.loop-x.x ≡ c.args.w = omega arith in
    rw all at (c.loop-x.invariant old rows t)
