-- `dilate`: counted row after row, then stored row after row. Assumes nothing.
use Rattle.std.proofs.Common.{arith}
use Rattle.mask.proofs.Square.{dilation_is}
use Rattle.mask.proofs.dilation.dilate.Goals as goal

pub returns : goal.returns
returns c = dilation_is _ (omega arith) c.count_rows.ensures c.store.ensures
