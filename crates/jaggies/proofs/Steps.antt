-- What a step from a spot finds, by paint. Assumes nothing.
use Prim.Native.Nat.{ℕ, zero, suc, ◌+◌, ◌*◌, ◌/◌, ◌%◌, ◌≤◌, ◌<◌}
use mathlib.Core.Path.{◌≡◌, refl, sym, ap, ◌∙◌}
use mathlib.Core.Bool.{Bool, true, false}
use mathlib.Core.List.{List}
use Rattle.std.specs.Prelude.{Option, None, Some}
use native.Mathlib.Nat.{mul-le-mul_right, add-mul, div-add-mod'}
use native.Mathlib.Omega.{arith}
use borrow.Author.Tests.{ne_eqb}
use lib.Dec.{eqb}
use lib.IntN.{ℤ, pos, negsuc, neg_ℤ}
use lib.Signed.{le_z}
use lib.Seq.{get_or-take}
use Rattle.base.proofs.Counting.{same_test, eqb_yes, yes_eqb, leb_yes}
use Rattle.rules.specs.Sheet.{Sheet, sheet_of}
use Rattle.rules.specs.Regions.{at}
use Rattle.rules.specs.Grid.{step_to}
use Rattle.rules.specs.Corners.{Corner, same, look, finds, opposite}
use Rattle.grid.specs.Planes.{paint_of, cell_of}
use Rattle.grid.proofs.Places.{row_of, col_of, Shifted, Found, step_sound}
use Rattle.jaggies.specs.Rows.{Short, found_paint}

-- a cell is an opaque one exactly if it has its paint
pub same_paint : (z : ℤ) (a : ℕ) → 0 < a → same z (cell_of a) ≡ eqb (paint_of z) a
unfolding same cell_of paint_of
same_paint z zero l = absurd (omega arith)
same_paint (pos i) (suc a) l =
    same_test (λ e. let q : i ≡ a = eqb_yes e in yes_eqb {m = i + 1} {n = suc a} (omega arith)) (λ e. let q : i + 1 ≡ suc a = eqb_yes e in yes_eqb {m = i} {n = a} (omega arith))
same_paint (negsuc i) (suc a) l = sym (ne_eqb 0 (suc a) (omega arith))

-- a short step leads back by at most two rows
pub in_reach : (h w y x q : ℕ) (dy dx : ℤ) → Short dy → step_to h w y x dy dx ≡ Some q → (q < h * w) × (y * w + w ≤ q + 3 * w)
in_reach h w y x q dy dx s e =
    let f : Found h w y x dy dx q = step_sound h w y x q dy dx e in
    let up : y ≤ q / w + 2 = rows dy s.low f.row in
    (f.inside, omega (arith, mul-le-mul_right w up, add-mul (q / w) 2 w, div-add-mod' q w))
  where
    rows : (d : ℤ) → le_z (negsuc 1) d ≡ true → Shifted d y (q / w) → y ≤ q / w + 2
    rows (pos k) l r = omega arith
    rows (negsuc k) l r = omega (arith, leb_yes {m = k} {n = 1} l)

module _ (old : List ℤ) (h w y x : ℕ) (lx : x < w) (dy dx : ℤ) where
  from_place : step_to h w ((y * w + x) / w) ((y * w + x) % w) dy dx ≡ step_to h w y x dy dx
  from_place = rw (row_of w y x lx, col_of w y x lx)

  pub look-off : step_to h w y x dy dx ≡ None → 0 ≡ found_paint (look (sheet_of old h w) (y * w + x) dy dx)
  unfolding look found_paint sheet_of
  look-off e = rw (from_place ∙ e, look)

  pub look-on : (q : ℕ) → q < h * w → step_to h w y x dy dx ≡ Some q → paint_of (at old q) ≡ found_paint (look (sheet_of old h w) (y * w + x) dy dx)
  unfolding look found_paint sheet_of at
  look-on q l e = rw (from_place ∙ e, look) (ap paint_of (sym (get_or-take (h * w) old q (negsuc 0) l)))

module _ (s : Sheet) (p : ℕ) where
  -- equal steps find the same
  pub found_by : {dy dy' dx dx' : ℤ} (a : ℤ) {r : Bool} → dy ≡ dy' → dx ≡ dx' → r ≡ finds s p dy dx a → r ≡ finds s p dy' dx' a
  found_by a e f g = rw (sym e, sym f) g

  -- a step finds an opaque cell exactly if it finds its paint
  pub finds_paint : (dy dx : ℤ) (a : ℕ) → 0 < a → eqb (found_paint (look s p dy dx)) a ≡ finds s p dy dx (cell_of a)
  unfolding finds found_paint
  finds_paint dy dx a l = go (look s p dy dx)
    where
      go : (o : Option ℤ) → eqb (found_paint o) a ≡ elim o [ None ↦ false | Some b ↦ same b (cell_of a) ]
      go None = ne_eqb 0 a (omega arith)
      go (Some b) = sym (same_paint b a l)

  -- the cell opposite a corner, by paint
  pub opposite_paint : (c : Corner) → found_paint (look s p (neg_ℤ c.sy) (neg_ℤ c.sx)) ≡ paint_of (opposite s p c)
  unfolding opposite found_paint paint_of
  opposite_paint c = go (look s p (neg_ℤ c.sy) (neg_ℤ c.sx))
    where
      go : (o : Option ℤ) → found_paint o ≡ paint_of (elim o [ None ↦ negsuc 0 | Some b ↦ b ])
      go None = refl
      go (Some b) = refl
