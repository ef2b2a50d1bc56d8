-- One of two lists is too short if the shorter one is. Assumes nothing.
use Rattle.std.proofs.Common.{rules}
use Rattle.rules.specs.Sheet.{needed}
use Rattle.refusals.proofs.Rows.{by_shorter}
use Rattle.refusals.proofs.grid_refusal.Goals as goal

pub returns : goal.returns
unfolding needed
returns c = by_shorter _ _ _ _ _ _ _ c.sheet_refusal.ensures (search rules)
