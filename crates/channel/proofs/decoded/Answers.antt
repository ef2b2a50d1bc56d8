-- `decoded`: an entry of the table. Assumes nothing.
use Rattle.std.proofs.Common.{arith}
use Rattle.roots.proofs.Units.{no_nan_bits}
use Rattle.channel.proofs.decoded.Goals as goal

pub float_from_bits-result : goal.float_from_bits-result
float_from_bits-result c = no_nan_bits _ (c.decode_table.ensures.fits _ (omega arith))

pub returns : goal.returns
returns c = c.decode_table.ensures.entry c.args.k (omega arith)
