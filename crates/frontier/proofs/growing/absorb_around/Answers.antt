-- `frontier::growing::absorb_around`: the places of the group. Assumes nothing.
use Rattle.std.proofs.Common.{arith}
use Rattle.frontier.proofs.Gains.{gained_start}
use Rattle.frontier.proofs.Around.{around_turn, around_on, around_all}
use Rattle.frontier.proofs.growing.absorb_around.Goals as goal

pub loop-i-init : goal.loop-i-init
loop-i-init c = record { gained = gained_start _ _ _ _ c.requires.0 (λ q l y w. let f = y.1 in let g = y.2 in absurd (omega (arith, c.region_span-span.ensures.0))); low = omega (arith, c.region_span-span.ensures.0) }

pub absorb_beside-end-requires : goal.absorb_beside-end-requires
absorb_beside-end-requires c =
    let u = c.loop-i.invariant in
    (u.gained.growth, (around_turn c.args.at u.gained c.requires.0 c.requires.1 c.region_span-span.ensures u.low c.loop-i-test.true).place)

pub loop-i-preserved : goal.loop-i-preserved
loop-i-preserved c =
    let u = c.loop-i.invariant in
    let turn = around_turn c.args.at u.gained c.requires.0 c.requires.1 c.region_span-span.ensures u.low c.loop-i-test.true in
    record { gained = around_on c.args.at u.gained u.low turn.is turn.place c.absorb_beside-end.ensures; low = omega arith }

pub returns : goal.returns
returns c = around_all c.args.at c.loop-i.invariant.gained c.requires.1 (omega (arith, c.region_span-span.ensures.0, c.region_span-span.ensures.1, c.requires.1.some))
