-- `tally`: the sum is the count so far, which is at most the places passed. Assumes nothing.
use Rattle.std.proofs.Common.{get_or, rules, arith}
use Rattle.base.proofs.Counting.{count_le}
use Rattle.mask.specs.Lines.{set_in}
use Rattle.mask.proofs.Lines.{bit_small, tally_zero, tally_sum, set_more, table_is}
use Rattle.mask.proofs.dilation.tally.Goals as goal

pub loop-i-init : goal.loop-i-init
loop-i-init c = (tally_zero _, λ k l. absurd (omega arith))

pub overflow_add-sum : goal.overflow_add-sum
overflow_add-sum c =
    omega (arith, c.loop-i.invariant.0, c.bit-sum.ensures, count_le c.loop-i.i (set_in c.args.row.now), bit_small (get_or c.args.row.now c.loop-i.i 0))

pub loop-i-preserved : goal.loop-i-preserved
loop-i-preserved c = (tally_sum c.args.row.now _ c.loop-i.invariant.0 (search rules), set_more _ _ _ _ c.loop-i.invariant.1 (search rules) c.loop-i.invariant.0)

pub returns-clause-counts_after : goal.returns-clause-counts_after
returns-clause-counts_after c = table_is _ _ 0 _ (search rules) (search rules)
