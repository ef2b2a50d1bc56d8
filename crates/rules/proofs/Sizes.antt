-- Sizes: the needed cells and those of a canvas, a list that was written over, and a palette after saturation. Assumes nothing.
use Prim.Native.Nat.{ℕ, ◌*◌, ◌≤◌}
use mathlib.Core.Path.{◌≡◌, refl}
use mathlib.Core.Bool.{Bool, true, false}
use mathlib.Core.List.{List}
use native.Mathlib.Nat.{mul-le-mul, le_refl}
use native.Mathlib.Omega.{arith}
use lib.IntN.{ℤ}
use lib.ListN.{length, take, drop}
use lib.Seq.{take_at}
use Rattle.base.proofs.Fills.{filled-length}
use Rattle.rules.specs.declared.PostConfig.{PostConfig}
use Rattle.rules.specs.Sheet.{Sheet, area, over, needed}
use Rattle.rules.specs.Palette.{Palette, saturate}
use Rattle.rules.specs.Outline.{padded, canvas}
use Rattle.rules.specs.Run.{toned}

-- the needed cells are no fewer than the sheet's
pub needed-least : (h w : ℕ) (b : Bool) → h * w ≤ needed h w b
unfolding needed
needed-least h w true = mul-le-mul (omega arith) (omega arith)
needed-least h w false = le_refl (h * w)

-- the front of a list that was written over
pub front_over : (new lent : List ℤ) (n : ℕ) → length new ≡ n → take n (over new lent) ≡ new
unfolding over
front_over new lent n len = take_at new (drop (length new) lent) n len

-- ---- the canvas has the needed cells, and two rows and columns more if padded

pub canvas-area : (b : Bool) (s : Sheet) → area (canvas b s) ≡ needed s.height s.width b
unfolding canvas padded area needed
canvas-area true s = refl
canvas-area false s = refl

pub canvas_sides : (b : Bool) (s : Sheet) → s.height ≤ 512 → s.width ≤ 512 → ((canvas b s).height ≤ 514) × ((canvas b s).width ≤ 514)
unfolding canvas padded
canvas_sides true s h w = (omega arith, omega arith)
canvas_sides false s h w = (omega arith, omega arith)

-- ---- saturation keeps the palette's size

pub toned-count : (kept : Bool) (config : PostConfig) (palette : Palette) → (toned kept config palette).count ≡ palette.count
unfolding toned saturate
toned-count true config palette = refl
toned-count false config palette = refl

pub toned-length : (kept : Bool) (config : PostConfig) (palette : Palette) → 3 * palette.count ≤ length palette.lab → length (toned kept config palette).lab ≡ length palette.lab
unfolding toned saturate
toned-length true config palette h = refl
toned-length false config palette h = filled-length (3 * palette.count) _ palette.lab h
