-- `orphans::passing::first_pass`: judged, then grown. Assumes nothing.
use Rattle.std.proofs.Common.{arith}
use Rattle.orphans.proofs.AtStart.{start_between, groups_at-start}
use Rattle.orphans.proofs.AllJudged.{first_all_judged}
use Rattle.orphans.proofs.Spreading.{decided}
use Rattle.orphans.proofs.OnePass.{made-idle, made-on}
use Rattle.orphans.proofs.passing.first_pass.Goals as goal

pub judge_all-mid-requires : goal.judge_all-mid-requires
judge_all-mid-requires c =
    record { stage = (start_between c.args.judge.now.palette.now c.requires).stage; by_index = groups_at-start c.args.judge.now.palette.now c.requires }

pub returns-then-mid-eq0 : goal.returns-then-mid-eq0
returns-then-mid-eq0 c =
    made-idle (start_between c.args.judge.now.palette.now c.requires) (first_all_judged c.args.judge.now.palette.now c.requires c.judge_all-mid.ensures) c.if-mid-eq0.true

pub grow-requires : goal.grow-requires
grow-requires c = decided (start_between c.args.judge.now.palette.now c.requires) (first_all_judged c.args.judge.now.palette.now c.requires c.judge_all-mid.ensures)

pub returns : goal.returns
returns c =
    let judged = first_all_judged c.args.judge.now.palette.now c.requires c.judge_all-mid.ensures in
    made-on (start_between c.args.judge.now.palette.now c.requires) judged (omega (arith, c.if-mid-eq0.false, judged.judged.log.rises)) c.grow.ensures
