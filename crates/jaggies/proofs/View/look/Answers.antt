-- `View::look`: where its step leads, it reads what stood there. Assumes nothing.
use Rattle.std.proofs.Common.{sym, ◌∙◌}
use mir.Facts.{to_z-of_z}
use Rattle.jaggies.proofs.Steps.{in_reach, look-off, look-on}
use Rattle.jaggies.proofs.View.look.Goals as goal

pub was-requires : goal.was-requires
was-requires c =
    let step = rw (to_z-of_z c.ranges.dy, to_z-of_z c.ranges.dx) at c.neighbour.ensures in
    in_reach _ _ _ _ _ c.args.dy c.args.dx c.requires.0 (sym step ∙ c.in-Some.is)

pub returns-in-Some-clause-sees : goal.returns-in-Some-clause-sees
returns-in-Some-clause-sees c old shown =
    let step = rw (to_z-of_z c.ranges.dy, to_z-of_z c.ranges.dx) at c.neighbour.ensures in
    let leads = sym step ∙ c.in-Some.is in
    let reach = in_reach _ _ _ _ _ c.args.dy c.args.dx c.requires.0 leads in
    c.was.ensures.0 ∙ shown.paint _ reach.1 reach.0 ∙ look-on old _ _ _ _ c.args.self.now.room.col _ _ _ reach.0 leads

pub returns-in-None-clause-sees : goal.returns-in-None-clause-sees
returns-in-None-clause-sees c old shown =
    let step = rw (to_z-of_z c.ranges.dy, to_z-of_z c.ranges.dx) at c.neighbour.ensures in
    look-off old _ _ _ _ c.args.self.now.room.col _ _ (sym step ∙ c.in-None.is)
