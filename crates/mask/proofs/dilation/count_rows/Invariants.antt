-- `count_rows`: the rows up to y are counted. Assumes nothing.
use Rattle.mask.specs.Lines.{Counted}
use Rattle.mask.proofs.dilation.count_rows.Given as goal

abbrev pub invariant-loop-y : goal.invariant-loop-y
invariant-loop-y l = Counted l.mask l.w l.k l.y l.rows
