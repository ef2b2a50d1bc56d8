-- What the machine's test of the margin tells. Assumes nothing.
use Prim.Native.Nat.{suc, ◌-◌, ◌<◌}
use mathlib.Core.Path.{◌≡◌, refl}
use native.Mathlib.Omega.{arith}
use lib.Dec.{eqb}
use lib.IntN.{ℤ, pos, negsuc}
use lib.Signed.{mag}
use borrow.Author.Tests.{ne_eqb}
use mir.Syntax.{w32}
use mir.Val.{of_z}
use Rattle.rules.specs.Corners.{same}

pub zero_bits : (z : ℤ) → mag z < 2147483648 → eqb (of_z w32 z) 0 ≡ same z (pos 0)
unfolding same
zero_bits (pos n) h = refl
zero_bits (negsuc n) h =
    let d : 4294967296 - suc n ≡ 0 → ⊥ = (λ e. absurd (omega arith)) in
    ne_eqb (4294967296 - suc n) 0 d
