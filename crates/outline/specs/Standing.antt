-- The sheet that stands at the front of a lent list. Definitions only. Assumes nothing.
use Rattle.rules.specs.Sheet.{Sheet, sheet_of}
use Rattle.outline.specs.declared.canvas.Lent.{Lent}

-- it has the first h * w cells of the list
abbrev pub sheet_on : Lent → Sheet
sheet_on on = sheet_of on.cells.now on.h on.w
