-- A double whose square is not below x is not below the nearest root of x: so what lies above that double lies above the root. Assumes nothing.
use mathlib.Core.Path.{◌≡◌, sym, ap, ◌∙◌}
use Prim.Native.Nat.{ℕ, ◌*◌, ◌^◌, ◌≤◌, ◌<◌}
use native.Mathlib.Nat.{le_trans, le_of_eq, lt_of_le_of_lt, mul_right_comm, mul_assoc, mul-le-mul_right}
use lib.Dec.{T}
use lib.Ieee.{Float, binary64, to_bits, lt}
use lib.Ieee.Positive.{num, den, value→cross}
use Rattle.roots.specs.Root.{Double, NearestRoot}
use Rattle.roots.specs.Units.{mag}
use Rattle.roots.proofs.Units.{value_of}
use Rattle.roots.proofs.Square.{square}
use Rattle.roots.proofs.Unique.{pattern→lt}
use Rattle.roots.proofs.Computed.{not_past}

pub root_below : (x y r : Float) → Double x → Double y → NearestRoot 2 (num x) (den x) r → (z : ℕ) → z < to_bits binary64 y → mag (to_bits binary64 x) * 2 ^ 1074 ≤ mag z ^ 2 → T (lt r y)
root_below x y r dx dy h z l s =
    pattern→lt r y h.double dy
    (lt_of_le_of_lt (not_past 2 (num x) (den x) r h z (le_trans (le_of_eq whole) (mul-le-mul_right (den x) s))) l)
  where
    whole : num x * (2 ^ 1074) ^ 2 ≡ mag (to_bits binary64 x) * 2 ^ 1074 * den x
    whole =
        ap (λ (z : ℕ). num x * z) (square (2 ^ 1074)) ∙ sym (mul_assoc (num x) (2 ^ 1074) (2 ^ 1074))
        ∙ ap (λ (z : ℕ). z * 2 ^ 1074) (value→cross x (mag (to_bits binary64 x)) (2 ^ 1074) (value_of x dx)) ∙ mul_right_comm (mag (to_bits binary64 x)) (den x) (2 ^ 1074)
