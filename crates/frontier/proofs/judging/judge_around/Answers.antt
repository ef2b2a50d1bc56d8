-- `frontier::judging::judge_around`: the places of the group. Assumes nothing.
use Rattle.std.proofs.Common.{◌≡◌, true, arith}
use Rattle.verdicts.specs.Steps.{adjoins}
use Rattle.verdicts.proofs.Spans.{within_more}
use Rattle.frontier.proofs.Turns.{group-within}
use Rattle.frontier.proofs.Progress.{met_none, met_more, met_as, met_turn}
use Rattle.frontier.proofs.judging.judge_around.Goals as goal

pub loop-i-init : goal.loop-i-init
loop-i-init c = record { met = met_none c.requires.stage (λ q l z. omega (arith, z.1, z.2, c.region_span-span.ensures.0)); low = omega (arith, c.region_span-span.ensures.0) }

pub judge_beside-end-requires-clause-p_bound : goal.judge_beside-end-requires-clause-p_bound
judge_beside-end-requires-clause-p_bound c =
    let u = c.loop-i.invariant in
    (met_turn c.requires.stage c.requires.group c.region_span-span.ensures u.met u.low c.loop-i-test.true).place

pub loop-i-preserved : goal.loop-i-preserved
loop-i-preserved c =
    let u = c.loop-i.invariant in
    let turn = met_turn c.requires.stage c.requires.group c.region_span-span.ensures u.met u.low c.loop-i-test.true in
    record { met = met_more c.requires.stage (λ q l z. within_more z) u.met (rw turn.is at c.judge_beside-end.ensures); low = omega arith }

pub returns : goal.returns
returns c =
    let ends = c.region_span-span.ensures in
    met_as (λ q l z. rw ends.0 at (group-within (λ p. adjoins c.args.judge.now.grid p q ≡ true) c.requires.group ends c.loop-i-test.false z)) c.loop-i.invariant.met
