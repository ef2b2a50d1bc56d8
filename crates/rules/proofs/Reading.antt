-- What code reads of a sheet is what the rules read. Assumes nothing.
use Prim.Native.Nat.{ℕ, ◌<◌}
use mathlib.Core.Path.{◌≡◌, refl, ap, ◌∙◌}
use mathlib.Core.List.{List}
use lib.Dec.{leb-zero}
use lib.IntN.{ℤ, pos, negsuc}
use lib.Signed.{le_z, non_neg}
use lib.ListN.{length, get_or}
use Rattle.base.proofs.Counting.{get_d_within}
use Rattle.rules.specs.Regions.{at, opaque}

-- what code reads is the cell, and its test of a cell is `opaque`
pub read_at : (cells : List ℤ) (p : ℕ) → p < length cells → get_or cells p (pos 0) ≡ at cells p
unfolding at
read_at cells p h = get_d_within cells p (pos 0) (negsuc 0) h

not_below : (z : ℤ) → le_z (pos 0) z ≡ non_neg z
not_below (pos a) = leb-zero a
not_below (negsuc a) = refl

pub read_opaque : (cells : List ℤ) (p : ℕ) → p < length cells → le_z (pos 0) (get_or cells p (pos 0)) ≡ opaque cells p
unfolding opaque
read_opaque cells p h = not_below (get_or cells p (pos 0)) ∙ ap non_neg (read_at cells p h)
