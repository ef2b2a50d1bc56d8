-- The cell that is read, or -1. Assumes nothing.
use Rattle.std.proofs.Common.{sym, ◌∙◌, arith, to_z-of_z}
use Rattle.rules.proofs.Reading.{read_at}
use Rattle.outline.proofs.Padding.{on_there, cell-padded}
use Rattle.outline.proofs.canvas.Lent.padded_cell.Goals as goal

pub returns-then-on_sheet : goal.returns-then-on_sheet
returns-then-on_sheet c =
    let s = c.args.self in
    let on = sym c.on_sheet.ensures ∙ c.if-on_sheet.true in
    let read = read_at s.cells.now _ (on_there s.cells.now _ _ _ _ s.present on).2 ∙ (rw on at (cell-padded s.cells.now s.h s.w c.args.y c.args.x c.requires)) in
    grind (arith, to_z-of_z, read)

pub returns-else-on_sheet : goal.returns-else-on_sheet
returns-else-on_sheet c =
    let s = c.args.self in
    rw (sym c.on_sheet.ensures ∙ c.if-on_sheet.false) at (cell-padded s.cells.now s.h s.w c.args.y c.args.x c.requires)
