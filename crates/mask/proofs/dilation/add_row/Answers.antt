-- `add_row`: place by place. Assumes nothing.
use Rattle.std.proofs.Common.{rules}
use Rattle.mask.specs.Lines.{less, next_count}
use Rattle.mask.proofs.Lines.{set_more, table_is}
use Rattle.mask.proofs.dilation.add_row.Goals as goal

pub loop-j-preserved : goal.loop-j-preserved
unfolding less next_count
loop-j-preserved c = set_more _ _ _ _ c.loop-j.invariant (search rules) (search rules)

pub returns : goal.returns
returns c = table_is _ _ 0 _ (search rules) (search rules)
