-- `View::was`: the row in the work area where the place lies before the end, else the cell. Assumes nothing.
use Rattle.std.proofs.Common.{pos, get_or, rules}
use borrow.Author.Tests.{lt-ltb, le-ltb}
use mir.Syntax.{w32}
use mir.Val.{SFits}
use mir.Facts.{to_z-of_z}
use Rattle.jaggies.specs.Rows.{row_end, old_paint}
use Rattle.jaggies.proofs.View.was.Goals as goal

pub returns-then-replaced : goal.returns-then-replaced
unfolding old_paint
returns-then-replaced c =
    let view = c.args.self.now in
    (rw (lt-ltb c.args.q (row_end view.at) c.if-replaced.true), view.room.paints.small c.args.q c.if-replaced.true c.requires.1)

pub returns : goal.returns
unfolding old_paint
returns c =
    let view = c.args.self.now in
    let f : SFits w32 (get_or view.cells.now c.args.q (pos 0)) = search rules in
    (rw (le-ltb c.args.q (row_end view.at) c.if-replaced.false) (rw (to_z-of_z f) at c.paint.ensures.0), c.paint.ensures.1)
