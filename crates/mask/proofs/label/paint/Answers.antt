-- `paint`: place by place. Assumes nothing.
use Rattle.std.proofs.Common.{rules}
use Rattle.mask.proofs.Lines.{set_more, table_is}
use Rattle.mask.proofs.label.paint.Goals as goal

pub loop-p-preserved : goal.loop-p-preserved
loop-p-preserved c = set_more _ _ _ _ c.loop-p.invariant (search rules) (search rules)

pub returns : goal.returns
returns c = table_is _ _ 0 _ (search rules) (search rules)
