-- `verdicts::agreeing::ask_beside`: the steps from a place. Assumes nothing.
use Rattle.std.proofs.Common.{◌≡◌, ◌+◌, refl, sym, ap₂, ◌∙◌, arith}
use Rattle.grid.specs.Steps.{steps_of}
use Rattle.grid.proofs.Places.{steps_most}
use Rattle.verdicts.specs.Steps.{area_of}
use Rattle.verdicts.specs.Agreeing.{asked_step, asked_beside}
use Rattle.verdicts.proofs.Stepping.{walk_turn}
use Rattle.verdicts.proofs.Agrees.{beside_more, several-further}
use Rattle.verdicts.proofs.agreeing.ask_beside.Goals as goal

pub loop-s-init : goal.loop-s-init
unfolding asked_beside
loop-s-init c = (refl, omega arith)

pub ask_step-found-requires : goal.ask_step-found-requires
ask_step-found-requires c =
    (c.requires.0, (walk_turn {grid = c.args.grid} {s = c.loop-s.s} c.requires.1 c.on_edge-border.ensures (omega (arith, c.steps-steps.ensures))).one)

pub loop-s-preserved : goal.loop-s-preserved
loop-s-preserved c =
    let turn = walk_turn {grid = c.args.grid} {s = c.loop-s.s} c.requires.1 c.on_edge-border.ensures (omega (arith, c.steps-steps.ensures)) in
    (c.ask_step-found.ensures ∙ ap₂ (asked_step (area_of c.args.grid) c.args.work.now) turn.lands c.loop-s.invariant.0 ∙ beside_more c.args.grid c.args.work.now c.args.p c.loop-s.s c.args.so_far, omega (arith, c.steps-steps.ensures))

pub returns-then-s-steps : goal.returns-then-s-steps
returns-then-s-steps c = let e : c.loop-s.s ≡ steps_of c.args.grid.near = c.if-s-steps.true ∙ c.steps-steps.ensures in rw e at c.loop-s.invariant.0

-- several paints stay several at each further step
pub returns-in-Several : goal.returns-in-Several
returns-in-Several c =
    let turn = walk_turn {grid = c.args.grid} {s = c.loop-s.s} c.requires.1 c.on_edge-border.ensures (omega (arith, c.steps-steps.ensures)) in
    c.in-Several.is
    ∙ several-further c.args.grid c.args.work.now c.args.p (c.loop-s.s + 1) (steps_of c.args.grid.near) c.args.so_far (omega (arith, c.steps-steps.ensures))
    (sym c.in-Several.is ∙ c.ask_step-found.ensures ∙ ap₂ (asked_step (area_of c.args.grid) c.args.work.now) turn.lands c.loop-s.invariant.0 ∙ beside_more c.args.grid c.args.work.now c.args.p c.loop-s.s c.args.so_far)

pub returns : goal.returns
returns c = let e : c.loop-s.s ≡ steps_of c.args.grid.near = omega (arith, steps_most c.args.grid.near) in rw e at c.loop-s.invariant.0
