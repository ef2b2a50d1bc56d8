-- An outline that was drawn. Definitions only. Assumes nothing.
use Rattle.std.specs.Prelude.{List, ◌≡◌, ℤ, Float}
use Rattle.rules.specs.declared.Facts.{Facts}
use Rattle.rules.specs.Sheet.{over}
use Rattle.rules.specs.Outline.{Outlined}
use Rattle.rules.specs.Entries.{facts_of}

-- facts, cells and doubles are those of an outlined sheet that is written over a lent list
pub record Drew (o : Outlined) (lent : List ℤ) (facts : Facts) (out : List ℤ) (lab : List Float) : Type 0 where
  pub told : facts ≡ facts_of o.sheet o.palette o.index o.clipped
  pub cells : out ≡ over o.sheet.cells lent
  pub doubles : lab ≡ o.palette.lab
