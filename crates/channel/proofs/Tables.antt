-- The two tables as lists of bit patterns, and their rules at every entry, by one computed test over each. Assumes nothing.
use mathlib.Core.List.{List}
use Prim.Native.Nat.{ℕ, suc, ◌<◌}
use lib.Dec.{T, ltb}
use lib.ListN.{get_or}
use lib.Ieee.{div, round, to_bits}
use Rattle.roots.specs.Units.{limit, mag, mag_f}
use Rattle.roots.proofs.Nearby.{is_nearest, is_least}
use Rattle.base.specs.Doubles.{decimal}
use Rattle.channel.specs.declared.TheConstants.{DECODE, THRESHOLDS}
use Rattle.channel.specs.Channel.{straight}
use Rattle.channel.proofs.Entries.{at}
use Rattle.channel.proofs.Tests.{decodes, bounds, between}

unfoldable pub decode_table : List ℕ
decode_table = DECODE

unfoldable pub threshold_table : List ℕ
threshold_table = THRESHOLDS

-- the pattern of what the byte k decodes to
unfoldable pub decode_pattern : ℕ → ℕ
decode_pattern k = get_or decode_table k 0

-- the pattern of the threshold of the byte i + 1
unfoldable pub threshold_pattern : ℕ → ℕ
threshold_pattern i = get_or threshold_table i 0

pub decode_test : (k : ℕ) → k < 256 → T (decodes k (decode_pattern k))
unfolding decode_pattern decode_table decodes straight decimal div round to_bits is_nearest mag mag_f
decode_test k h = at decodes decode_table tt k h

pub threshold_test : (i : ℕ) → i < 255 → T (bounds i (threshold_pattern i))
unfolding threshold_pattern threshold_table bounds is_least mag mag_f
threshold_test i h = at bounds threshold_table tt i h

-- each threshold lies below the next
pub rise_test : (i : ℕ) → i < 255 → T (ltb (threshold_pattern i) (get_or threshold_table (suc i) limit))
unfolding threshold_pattern threshold_table
rise_test i h = at (λ k p. ltb p (get_or threshold_table (suc k) limit)) threshold_table tt i h

-- what a byte decodes to lies from its own threshold up and below the next
pub between_test : (k : ℕ) → k < 256 → T (between threshold_table k (decode_pattern k))
unfolding decode_pattern decode_table threshold_table between
between_test k h = at (between threshold_table) decode_table tt k h
