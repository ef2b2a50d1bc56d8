-- What is asked of facts so that each fits a 32-bit number. Definitions only. Assumes nothing.
use Rattle.std.specs.Prelude.{◌≤◌}
use Rattle.rules.specs.declared.Facts.{Facts}
use Rattle.rules.specs.Entries.{SizesInRange}
use Rattle.c_answers.specs.Outcomes.{index_fact}

-- sizes in range, and the index of one of 256 entries or none
pub record FactsFit (f : Facts) : Type 0 where
  pub sizes : SizesInRange f
  pub index : index_fact f.outline_index ≤ 256
