-- The fractions of the two tables are those of the curve of IEC 61966-2-1, at every byte. Assumes nothing.
use Prim.Native.Nat.{ℕ, ◌*◌, ◌^◌, ◌≤◌, ◌<◌}
use mathlib.Core.Path.{◌≡◌, sym, ap, ◌∙◌}
use mathlib.Core.Bool.{true, false}
use native.Mathlib.Nat.{pow-le-pow_left, mul-le-mul_right, lt_of_lt_of_le, not-le_of_lt}
use native.Mathlib.Omega.{arith}
use lib.Dec.{lit<}
use Rattle.base.proofs.Counting.{case, leb_yes, yes_leb}
use Rattle.roots.proofs.Fraction.{mul_pow}
use Rattle.channel.specs.Channel.{threshold_num, curve_den, line_num, line_den}
use Rattle.channel.specs.Curve.{Fraction, ◌over◌, power, at_most, Same, raised, decode_split, encode_split, DecodesByte, half_before, TakesByte}

-- ---- fractions

-- fractions of one value have powers of one value
same_power : (p q : Fraction) (n : ℕ) → Same p q → Same (power p n) (power q n)
same_power p q n e = sym (mul_pow p.num q.den n) ∙ ap (λ (x : ℕ). x ^ n) e ∙ mul_pow q.num p.den n

up_to : (p q : Fraction) → p.num * q.den ≤ q.num * p.den → at_most p q ≡ true
up_to p q h = yes_leb h

above : (p q : Fraction) → q.num * p.den < p.num * q.den → at_most p q ≡ false
above p q h = case (at_most p q) (λ y. absurd (not-le_of_lt h (leb_yes y))) (λ z. z)

-- ---- decoding

pub decodes_byte : (k : ℕ) → DecodesByte k
decodes_byte k =
    record {
      straight = λ h. rw (up_to (k over 255) decode_split (omega arith));
      curved =
          λ h. rw (above (k over 255) decode_split (omega arith))
          (same_power (_ over 10761) (raised (k over 255)) 12 (omega arith));
    }

-- ---- encoding

threshold_rises : (i j : ℕ) → i ≤ j → threshold_num i ≤ threshold_num j
threshold_rises i j h = pow-le-pow_left (omega arith) 12

-- the threshold of the byte 11 is above the split, and so is each after it
threshold_above : (j : ℕ) → 10 < j → at_most (threshold_num j over curve_den) (power encode_split 5) ≡ false
threshold_above j h =
    above (threshold_num j over curve_den) (power encode_split 5)
    (lt_of_lt_of_le (lit< {m = encode_split.num ^ 5 * curve_den} {n = threshold_num 11 * encode_split.den ^ 5} tt)
    (mul-le-mul_right (encode_split.den ^ 5) (threshold_rises 11 j h)))

pub takes_byte : (j : ℕ) → 0 < j → TakesByte j
takes_byte j l =
    record {
      straight = λ h. rw (up_to (line_num j over line_den) encode_split (omega arith)) (omega arith);
      curved =
          λ h. rw (threshold_above j h)
          (same_power (_ over 10761) (raised (half_before j)) 12 (omega arith));
    }
