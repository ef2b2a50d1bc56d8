-- `frontier::growing::absorb_beside`: the steps from a place. Assumes nothing.
use Rattle.std.proofs.Common.{sym, ◌∙◌, arith}
use Rattle.grid.proofs.Places.{steps_most}
use Rattle.grid.proofs.Planes.{plane_read}
use Rattle.verdicts.specs.Steps.{area_of}
use Rattle.verdicts.proofs.Stepping.{walk_turn}
use Rattle.verdicts.proofs.Nearby.{neighbours_in}
use Rattle.frontier.proofs.Gains.{gained_none, beside_start, beside_on, beside_all}
use Rattle.frontier.proofs.growing.absorb_beside.Goals as goal

pub returns-then-not-small_near : goal.returns-then-not-small_near
returns-then-not-small_near c =
    let paint = plane_read (area_of c.args.grid) 0 c.args.p c.args.p c.args.work.now (omega arith) in
    gained_none _ _ _ _ c.requires.0
    (λ q l z y. c.small_near.ensures c.if-not-small_near.true q (neighbours_in c.args.grid c.args.p q l z.0) (z.1 ∙ sym paint))

pub loop-s-init : goal.loop-s-init
loop-s-init c = record { gained = beside_start c.args.grid c.args.work.now c.args.p c.requires.0; made = omega arith }

pub absorb-end-requires : goal.absorb-end-requires
absorb-end-requires c =
    let walk = walk_turn {grid = c.args.grid} {s = c.loop-s.s} c.requires.1 c.on_edge-border.ensures (omega arith) in
    (c.loop-s.invariant.gained.growth, walk.one)

pub loop-s-preserved : goal.loop-s-preserved
loop-s-preserved c =
    let walk = walk_turn {grid = c.args.grid} {s = c.loop-s.s} c.requires.1 c.on_edge-border.ensures (omega arith) in
    record {
      gained = beside_on c.args.grid c.args.work.now c.args.p c.loop-s.s _ (plane_read (area_of c.args.grid) 0 c.args.p c.args.p c.args.work.now (omega arith))
          c.loop-s.invariant.gained (rw walk.lands at c.absorb-end.ensures);
      made = omega arith;
    }

pub returns-then-s-steps : goal.returns-then-s-steps
returns-then-s-steps c = beside_all c.args.grid c.args.work.now c.args.p c.loop-s.s (omega arith) c.loop-s.invariant.gained

pub returns : goal.returns
returns c =
    beside_all c.args.grid c.args.work.now c.args.p c.loop-s.s (omega (arith, steps_most c.args.grid.near)) c.loop-s.invariant.gained
