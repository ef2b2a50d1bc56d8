-- Each turn puts one number more, until all are put or the list is full.
use Rattle.std.proofs.Common.{arith}
use Rattle.replay.proofs.Texts.{one_placed, all_placed, full}
use Rattle.replay.proofs.text.put.Goals as goal

pub loop-n-preserved : goal.loop-n-preserved
loop-n-preserved c =
    let w = c.loop-n.invariant.placed in
    record { can = tt; finite = tt; placed = one_placed c.in-Some.n (rw c.in-Some.ensures.steps at w) (omega (arith, w.within, c.if-count-numbers.false)) }

pub returns-in-None-clause-numbers_after : goal.returns-in-None-clause-numbers_after
returns-in-None-clause-numbers_after c = (all_placed (rw c.in-None.ensures.steps.0 at c.loop-n.invariant.placed)).0

pub returns-then-count-numbers-clause-numbers_after : goal.returns-then-count-numbers-clause-numbers_after
returns-then-count-numbers-clause-numbers_after c = (full c.loop-n.invariant.placed c.if-count-numbers.true).0
