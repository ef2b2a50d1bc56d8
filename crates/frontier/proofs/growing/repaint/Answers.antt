-- `frontier::growing::repaint`: the places of the group. Assumes nothing.
use Rattle.std.proofs.Common.{◌+◌, ◌*◌, length-set, arith}
use Rattle.grid.proofs.Planes.{plane_read}
use Rattle.frontier.proofs.Setting.{repainting_start, repainting_turn, repainting_on, repainting_end}
use Rattle.frontier.proofs.growing.repaint.Goals as goal

pub overflow_sub-paint : goal.overflow_sub-paint
overflow_sub-paint c =
    let number = plane_read c.args.n 6 c.args.at (6 * c.args.n + c.args.at) c.args.work.now (omega arith) in
    omega (arith, c.requires.group.1)

pub loop-i-init : goal.loop-i-init
loop-i-init c = rw c.region_span-span.ensures.0 (repainting_start _ _ _ _ c.requires.group.0)

pub bounds-work-p : goal.bounds-work-p
bounds-work-p c = let turn = repainting_turn _ _ _ _ c.requires.group.0 c.requires.planes.few c.requires.planes.room c.region_span-span.ensures c.loop-i.invariant c.loop-i-test.true in omega arith

pub bounds-work-n-in-loop-i-2 : goal.bounds-work-n-in-loop-i-2
bounds-work-n-in-loop-i-2 c =
    let turn = repainting_turn _ _ _ _ c.requires.group.0 c.requires.planes.few c.requires.planes.room c.region_span-span.ensures c.loop-i.invariant c.loop-i-test.true in
    simp length-set (omega arith)

pub loop-i-preserved : goal.loop-i-preserved
loop-i-preserved c =
    let turn = repainting_turn _ _ _ _ c.requires.group.0 c.requires.planes.few c.requires.planes.room c.region_span-span.ensures c.loop-i.invariant c.loop-i-test.true in
    repainting_on c.args.n c.args.at _ c.args.work.now c.requires.group.0 c.loop-i.i c.loop-i.work c.loop-i.invariant (omega (arith, c.region_span-span.ensures.1))
    _ _ turn.place turn.is (omega arith) (omega arith)

pub returns : goal.returns
returns c =
    let number = plane_read c.args.n 6 c.args.at (6 * c.args.n + c.args.at) c.args.work.now (omega arith) in
    repainting_end c.args.n c.args.at _ c.args.work.now c.requires.group.0 c.loop-i.i c.loop-i.work c.loop-i.invariant (omega (arith, c.region_span-span.ensures.1)) (omega (arith, c.requires.group.1))
