-- Each entry by its rule. Assumes nothing.
use mathlib.Core.Path.{refl}
use Rattle.channel.proofs.Tables.{decode_table, decode_pattern}
use Rattle.channel.proofs.Thresholds.{decode_fit, decode_is}
use Rattle.channel.proofs.decode_table.Goals as goal

pub returns : goal.returns
unfolding decode_pattern decode_table
returns c = record { size = refl; fits = decode_fit; entry = decode_is }
