-- `verdicts::large::region_end`. Assumes nothing.
use Rattle.grid.proofs.Planes.{end_none, end_read}
use Rattle.verdicts.proofs.large.region_end.Goals as goal

pub returns-then-label-eq0 : goal.returns-then-label-eq0
returns-then-label-eq0 c = end_none _ _ _ c.if-label-eq0.true

pub returns : goal.returns
returns c = end_read _ _ _ c.if-label-eq0.false
