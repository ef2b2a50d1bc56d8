-- The two tables of a channel: what a byte decodes to, and the thresholds by which a channel is given its byte. Definitions only. Assumes nothing.
use Rattle.std.specs.Prelude.{ℕ, ◌+◌, ◌-◌, ◌*◌, ◌^◌, ◌≤◌, ◌<◌, ◌≡◌, cond, leb, List, Float, length, get_or}
use Rattle.std.specs.Float.{binary64}
use Rattle.std.specs.Float.Ieee.{of_bits, le}
use Rattle.base.specs.Places.{count}
use Rattle.roots.specs.Units.{limit}
use Rattle.roots.specs.Root.{NearestRoot, LeastNotBelow}
use Rattle.roots.specs.Computed.{nearest_root, least_not_below}
use Rattle.base.specs.Doubles.{◌⊘◌, decimal}

-- the curve's fractions to the twelfth power: (40 k + 561) / 10761 for the byte k, (40 j + 541) / 10761 for its threshold
abbrev pub decode_num : ℕ → ℕ
decode_num k = (40 * k + 561) ^ 12

abbrev pub threshold_num : ℕ → ℕ
threshold_num j = (40 * j + 541) ^ 12

abbrev pub curve_den : ℕ
curve_den = 10761 ^ 12

-- the line's fraction (2 j - 1) / 6589.2
abbrev pub line_num : ℕ → ℕ
line_num j = 10 * (2 * j - 1)

abbrev pub line_den : ℕ
line_den = 65892

-- k / 255, then / 12.92
unfoldable pub straight : ℕ → Float
straight k = decimal k 0 ⊘ decimal 255 0 ⊘ decimal 1292 2

-- what the byte k decodes to: from 11 on the double nearest to ((40 k + 561) / 10761) ^ (12 / 5), which is a fifth root
unfoldable pub decode_of : ℕ → Float
decode_of k = cond (leb k 10) (straight k) (nearest_root 5 (decode_num k) curve_den)

-- the threshold of the byte j, from 1 on: the least double not below (2 j - 1) / 6589.2, and from 11 on not below ((40 j + 541) / 10761) ^ (12 / 5)
unfoldable pub threshold_of : ℕ → Float
threshold_of j = cond (leb j 10) (least_not_below 1 (line_num j) line_den) (least_not_below 5 (threshold_num j) curve_den)

-- a channel's byte: the number of thresholds not above it
unfoldable pub byte_of : Float → ℕ
byte_of c = count 255 (λ i. le (threshold_of (i + 1)) c)

-- ---- the same rules, said of a double

pub record Decoded (k : ℕ) (y : Float) : Type 0 where
  pub linear : k ≤ 10 → y ≡ straight k
  pub curved : 10 < k → NearestRoot 5 (decode_num k) curve_den y

pub record Threshold (j : ℕ) (y : Float) : Type 0 where
  pub linear : j ≤ 10 → LeastNotBelow 1 (line_num j) line_den y
  pub curved : 10 < j → LeastNotBelow 5 (threshold_num j) curve_den y

-- ---- the tables, as lists of bit patterns

-- what each byte decodes to
pub record DecodeTable (l : List ℕ) : Type 0 where
  pub size : length l ≡ 256
  pub fits : (k : ℕ) → k < 256 → get_or l k 0 < limit
  pub entry : (k : ℕ) → k < 256 → of_bits binary64 (get_or l k 0) ≡ decode_of k

-- the thresholds of the bytes 1 to 255
pub record ThresholdTable (l : List ℕ) : Type 0 where
  pub size : length l ≡ 255
  pub fits : (i : ℕ) → i < 255 → get_or l i 0 < limit
  pub entry : (i : ℕ) → i < 255 → of_bits binary64 (get_or l i 0) ≡ threshold_of (i + 1)
