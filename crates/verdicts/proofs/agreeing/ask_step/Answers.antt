-- `verdicts::agreeing::ask_step`: the cell that a step finds. Assumes nothing.
use Rattle.std.proofs.Common.{◌<◌, sym, ◌∙◌, arith}
use Rattle.grid.proofs.Places.{step_sound}
use Rattle.verdicts.specs.Steps.{area_of}
use Rattle.verdicts.proofs.Keeping.{sheet-few}
use Rattle.verdicts.proofs.Agrees.{asked-none, asked-small, asked-large}
use Rattle.verdicts.proofs.agreeing.ask_step.Goals as goal

pub overflow_add-n : goal.overflow_add-n
overflow_add-n c = let l : c.in-Some.q < area_of c.args.grid = (step_sound _ _ _ _ _ _ _ (sym c.in-Some.ensures)).inside in omega (arith, sheet-few c.requires.0)

pub offset_bounds-work-n : goal.offset_bounds-work-n
offset_bounds-work-n c = let l : c.in-Some.q < area_of c.args.grid = (step_sound _ _ _ _ _ _ _ (sym c.in-Some.ensures)).inside in omega (arith, sheet-few c.requires.0)

pub bounds-work-n : goal.bounds-work-n
bounds-work-n c = let l : c.in-Some.q < area_of c.args.grid = (step_sound _ _ _ _ _ _ _ (sym c.in-Some.ensures)).inside in omega (arith, c.requires.0.room)

pub returns-in-Some : goal.returns-in-Some
returns-in-Some c =
    c.with_paint.ensures ∙ asked-large (area_of c.args.grid) c.in-Some.q c.args.work.now c.args.so_far (sym c.in-Some.ensures) c.if-work-n-ne0.true

pub returns-in_default : goal.returns-in_default
returns-in_default c =
    asked-small (area_of c.args.grid) c.in-Some.q c.args.work.now c.args.so_far (sym c.in-Some.ensures) c.if-work-n-ne0.false

pub returns-in_default-2 : goal.returns-in_default-2
returns-in_default-2 c = asked-none (area_of c.args.grid) c.args.work.now c.args.so_far (sym c.reached.ensures ∙ c.in_default.is)
