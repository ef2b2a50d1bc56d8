-- `trim_sheet`: row by row. Assumes nothing.
use Rattle.std.proofs.Common.{◌≡◌, ◌≤◌, arith}
use native.Mathlib.Nat.{mul-le-mul_right}
use borrow.Author.Tests.{lt-ltb}
use lib.Dec.{ltb}
use Rattle.base.proofs.Counting.{or_left, or_right}
use Rattle.grid.proofs.Places.{area}
use Rattle.jaggies.proofs.Rows.{no_rows, row_inside, row_room, rowed_more, all_rows, too_small}
use Rattle.jaggies.proofs.trim_sheet.Goals as goal

pub returns-then-h-lt4 : goal.returns-then-h-lt4
returns-then-h-lt4 c = too_small _ _ _ c.requires.2 (or_left _ (lt-ltb _ _ c.if-h-lt4.true))

pub returns-then-w-lt4 : goal.returns-then-w-lt4
returns-then-w-lt4 c = too_small _ _ _ c.requires.2 (or_right (ltb c.args.h 4) (lt-ltb _ _ c.if-w-lt4.true))

pub loop-y-init : goal.loop-y-init
loop-y-init c = no_rows _ _ _ _ c.requires.2

pub overflow_mul-end : goal.overflow_mul-end
overflow_mul-end c =
    omega (arith, row_inside c.loop-y.invariant c.loop-y-test.true, area c.args.h c.args.w (omega arith) (omega arith))

pub advance-requires : goal.advance-requires
advance-requires c =
    let one : 1 ≤ c.args.h = omega arith in
    omega (arith, row_inside c.loop-y.invariant c.loop-y-test.true, mul-le-mul_right c.args.w one, c.requires)

pub trim_row-requires : goal.trim_row-requires
trim_row-requires c =
    let one : 1 ≤ c.args.h = omega arith in
    row_room c.loop-y.invariant c.loop-y-test.true c.loop-y.auto.cells c.advance.ensures c.requires.0 c.requires.1 (omega (arith, mul-le-mul_right c.args.w one, c.requires.3))

pub loop-y-preserved : goal.loop-y-preserved
loop-y-preserved c = rowed_more c.loop-y.invariant c.loop-y-test.true c.advance.ensures (c.trim_row.ensures _)

pub returns : goal.returns
returns c =
    let all : c.loop-y.y ≡ c.args.h = omega arith in
    all_rows c.if-h-lt4.false c.if-w-lt4.false (rw all at c.loop-y.invariant.trimmed)
