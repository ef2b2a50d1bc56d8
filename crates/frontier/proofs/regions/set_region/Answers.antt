-- `frontier::regions::set_region`: the places of the group. Assumes nothing.
use Rattle.std.proofs.Common.{arith}
use Rattle.frontier.proofs.Setting.{in_plane, setting_start, setting_turn, setting_on, setting_end}
use Rattle.frontier.proofs.regions.set_region.Goals as goal

pub loop-i-init : goal.loop-i-init
loop-i-init c = rw c.region_span-span.ensures.0 (setting_start _ _ _ _ _ c.requires.group)

pub bounds-work-base : goal.bounds-work-base
bounds-work-base c =
    let b = c.requires.planes in
    let in_use = c.requires.plane in
    let turn = setting_turn _ _ _ _ _ c.requires.group b.few b.room in_use.1 c.region_span-span.ensures c.loop-i.invariant c.loop-i-test.true in
    omega (arith, in_plane c.args.n c.args.j _ in_use.0 turn.place)

pub loop-i-preserved : goal.loop-i-preserved
loop-i-preserved c =
    let b = c.requires.planes in
    let in_use = c.requires.plane in
    let turn = setting_turn _ _ _ _ _ c.requires.group b.few b.room in_use.1 c.region_span-span.ensures c.loop-i.invariant c.loop-i-test.true in
    setting_on c.args.n c.args.at c.args.j c.args.v c.args.work.now c.requires.group c.loop-i.i c.loop-i.work c.loop-i.invariant (omega (arith, c.region_span-span.ensures.1))
    _ _ turn.place turn.is (omega arith) (omega (arith, in_plane c.args.n c.args.j _ in_use.0 turn.place))

pub returns : goal.returns
returns c = setting_end c.args.n c.args.at c.args.j c.args.v c.args.work.now c.requires.group c.loop-i.i c.loop-i.work c.loop-i.invariant (omega (arith, c.region_span-span.ensures.1))
