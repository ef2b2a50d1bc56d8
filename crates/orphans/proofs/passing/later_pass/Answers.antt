-- `orphans::passing::later_pass`: judged, then grown. Assumes nothing.
use Rattle.std.proofs.Common.{arith}
use Rattle.orphans.proofs.AllJudged.{frontier_all_judged}
use Rattle.orphans.proofs.Spreading.{decided}
use Rattle.orphans.proofs.OnePass.{made-idle, made-on}
use Rattle.orphans.proofs.passing.later_pass.Goals as goal

pub returns-then-idle : goal.returns-then-idle
returns-then-idle c = made-idle c.requires.planes (frontier_all_judged c.requires c.judge_frontier-mid.ensures) c.if-idle.true

pub grow-requires : goal.grow-requires
grow-requires c = decided c.requires.planes (frontier_all_judged c.requires c.judge_frontier-mid.ensures)

pub returns : goal.returns
returns c =
    let judged = frontier_all_judged c.requires c.judge_frontier-mid.ensures in
    made-on c.requires.planes judged (omega (arith, c.if-idle.false, judged.judged.log.rises)) c.grow.ensures
