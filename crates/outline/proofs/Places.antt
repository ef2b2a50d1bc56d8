-- Rows, columns and places of a sheet, and what code reads of it. Assumes nothing.
use Prim.Native.Nat.{ℕ, zero, suc, ◌+◌, ◌-◌, ◌*◌, ◌≤◌, ◌<◌}
use mathlib.Core.Path.{◌≡◌, sym, ap, subst}
use mathlib.Core.List.{List}
use native.Mathlib.Nat.{zero-mul, suc-mul, mul-le-mul, not-suc-le-zero}
use native.Mathlib.Numerals.{add-one}
use native.Mathlib.Omega.{arith}
use lib.IntN.{ℤ, negsuc}
use lib.Signed.{non_neg}
use lib.ListN.{take}
use lib.Seq.{get_or-take}
use Rattle.rules.specs.Regions.{at, opaque}

-- the row before one
pub row_back : (y w : ℕ) → 1 ≤ y → (y - 1) * w + w ≡ y * w
row_back zero w h = absurd (omega arith)
row_back (suc v) w h =
    let e : suc v - 1 ≡ v = omega arith in
    rw e (sym (suc-mul v w))

-- the row after it
pub row_on : (y w : ℕ) → (y + 1) * w ≡ y * w + w
row_on y w = omega (arith, suc-mul y w, ap (λ (i : ℕ). i * w) (add-one y))

pub row_fits : (h w y : ℕ) → y < h → y * w + w ≤ h * w
row_fits h w y l =
    let k : (y + 1) * w ≤ h * w = mul-le-mul (omega arith) (omega arith) in
    omega (arith, row_on y w)

pub some_row : (y w : ℕ) → 0 < y * w → 1 ≤ y
some_row zero w h = absurd (not-suc-le-zero (subst (λ (n : ℕ). 0 < n) (zero-mul w) h))
some_row (suc v) w h = omega arith

-- the sheet at the front of a list holds what the list holds
pub front_at : (n : ℕ) (cells : List ℤ) (p : ℕ) → p < n → at (take n cells) p ≡ at cells p
unfolding at
front_at n cells p h = get_or-take n cells p (negsuc 0) h

pub front : (n : ℕ) (cells : List ℤ) (p : ℕ) → p < n → opaque (take n cells) p ≡ opaque cells p
unfolding opaque
front n cells p h = ap non_neg (front_at n cells p h)
