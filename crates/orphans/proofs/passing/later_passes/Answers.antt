-- `orphans::passing::later_passes`: pass after pass. Assumes nothing.
use Rattle.std.proofs.Common.{arith}
use Rattle.verdicts.specs.Judging.{rule_of}
use Rattle.orphans.proofs.Continuing.{later_start, later_on, later_stops, later_ends}
use Rattle.orphans.proofs.passing.later_passes.Goals as goal

pub loop-made-init : goal.loop-made-init
loop-made-init c = later_start (rule_of c.args.judge.now.grid c.args.judge.now.by c.args.judge.now.palette.now) c.args.judge.now.grid c.args.judge.now.by.k c.args.left c.args.work.now c.requires

pub loop-made-preserved : goal.loop-made-preserved
loop-made-preserved c =
    let last = c.later_pass-last.ensures in
    later_on (rule_of c.args.judge.now.grid c.args.judge.now.by c.args.judge.now.palette.now) c.args.judge.now.grid c.args.judge.now.by.k c.args.left c.args.work.now c.loop-made.invariant c.loop-made-test.true last (omega (arith, last.rises, c.if-last-end.false))

pub returns-then-last-end : goal.returns-then-last-end
returns-then-last-end c = (
  later_stops (rule_of c.args.judge.now.grid c.args.judge.now.by c.args.judge.now.palette.now) c.args.judge.now.grid c.args.judge.now.by.k c.args.left c.args.work.now c.loop-made.invariant c.loop-made-test.true c.later_pass-last.ensures c.if-last-end.true,
  omega arith,
)

pub returns : goal.returns
returns c = (
  later_ends (rule_of c.args.judge.now.grid c.args.judge.now.by c.args.judge.now.palette.now) c.args.judge.now.grid c.args.judge.now.by.k c.args.left c.args.work.now c.loop-made.invariant c.loop-made-test.false,
  omega arith,
)
