-- The curve of IEC 61966-2-1 between a channel c and its linear value l, both from 0 to 1, in fractions of whole numbers. Definitions only. Assumes nothing.
use Rattle.std.specs.Prelude.{ℕ, ◌+◌, ◌-◌, ◌*◌, ◌^◌, ◌≤◌, ◌<◌, ◌≡◌, Bool, cond, leb}
use Rattle.channel.specs.Channel.{decode_num, threshold_num, curve_den, line_num, line_den}

-- ---- fractions

infix 75 ◌over◌
infixl 65 ◌plus◌
infixl 70 ◌by◌
-- a fraction of whole numbers; all that are written here have a denominator above 0
pub record Fraction : Type 0 where
  pub num : ℕ
  pub den : ℕ

-- the fraction a / b
abbrev pub ◌over◌ : ℕ → ℕ → Fraction
a over b = record { num = a; den = b }

-- the sum
abbrev pub ◌plus◌ : Fraction → Fraction → Fraction
p plus q = (p.num * q.den + q.num * p.den) over (p.den * q.den)

-- the quotient
abbrev pub ◌by◌ : Fraction → Fraction → Fraction
p by q = (p.num * q.den) over (p.den * q.num)

-- the n-th power
abbrev pub power : Fraction → ℕ → Fraction
power p n = (p.num ^ n) over (p.den ^ n)

-- p is at most q
abbrev pub at_most : Fraction → Fraction → Bool
at_most p q = leb (p.num * q.den) (q.num * p.den)

-- p and q have one value
abbrev pub Same : Fraction → Fraction → Type 0
Same p q = p.num * q.den ≡ q.num * p.den

-- ---- the standard

-- a linear value: a fraction itself, or the fifth root of one
pub data Linear : Type 0 where
  itself : Fraction → Linear
  fifth_root : Fraction → Linear

-- two of them are one value
abbrev pub SameLinear : Linear → Linear → Type 0
SameLinear (itself p) (itself q) = Same p q
SameLinear (fifth_root p) (fifth_root q) = Same p q
SameLinear (itself p) (fifth_root q) = ⊥
SameLinear (fifth_root p) (itself q) = ⊥

-- the line: l = c / 12.92, so that c = 12.92 l
abbrev pub line : Fraction → Linear
line c = itself (c by 1292 over 100)

-- what is raised to the power: (c + 0.055) / 1.055
abbrev pub raised : Fraction → Fraction
raised c = (c plus 55 over 1000) by 1055 over 1000

-- the power: l = ((c + 0.055) / 1.055) ^ 2.4, so that c = 1.055 l ^ (1 / 2.4) - 0.055; 2.4 is 12 / 5
abbrev pub curve : Fraction → Linear
curve c = fifth_root (power (raised c) 12)

-- where decoding goes from the line to the power: c = 0.04045
abbrev pub decode_split : Fraction
decode_split = 4045 over 100000

-- what the standard decodes c to: the line up to the split, the power above it
abbrev pub decoded : Fraction → Linear
decoded c = cond (at_most c decode_split) (line c) (curve c)

-- where encoding goes from the line to the power: l = 0.0031308
abbrev pub encode_split : Fraction
encode_split = 31308 over 10000000

-- l is at most that
abbrev pub low : Linear → Bool
low (itself p) = at_most p encode_split
low (fifth_root p) = at_most p (power encode_split 5)

-- c is what the standard encodes l as
abbrev pub Encodes : Linear → Fraction → Type 0
Encodes l c = SameLinear l (cond (low l) (line c) (curve c))

-- ---- what the tables have of it

-- the byte k stands for k / 255: up to 10 it is decoded by the line, from 11 on by the power, to the fifth root of decode_num k / curve_den
pub record DecodesByte (k : ℕ) : Type 0 where
  pub straight : k ≤ 10 → decoded (k over 255) ≡ line (k over 255)
  pub curved : 10 < k → SameLinear (fifth_root (decode_num k over curve_den)) (decoded (k over 255))

-- half way from the byte before to the byte j: (j - 1 / 2) / 255
abbrev pub half_before : ℕ → Fraction
half_before j = (2 * j - 1) over (2 * 255)

-- the byte j is taken from that on: what is encoded as it is line_num j / line_den up to 10, from 11 on the fifth root of threshold_num j / curve_den
pub record TakesByte (j : ℕ) : Type 0 where
  pub straight : j ≤ 10 → Encodes (itself (line_num j over line_den)) (half_before j)
  pub curved : 10 < j → Encodes (fifth_root (threshold_num j over curve_den)) (half_before j)
