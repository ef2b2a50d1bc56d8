-- Each entry by its rule. Assumes nothing.
use mathlib.Core.Path.{refl}
use Rattle.channel.proofs.Tables.{threshold_table, threshold_pattern}
use Rattle.channel.proofs.Thresholds.{threshold_fit, entry-is}
use Rattle.channel.proofs.threshold_table.Goals as goal

pub returns : goal.returns
unfolding threshold_pattern threshold_table
returns c = record { size = refl; fits = threshold_fit; entry = entry-is }
