-- A mask in plane 0 of the work area is the sheet of its set places. Assumes nothing.
use Prim.Native.Nat.{ℕ, ◌≤◌, ◌<◌}
use mathlib.Core.Path.{◌≡◌, refl, sym, ap, ◌∙◌, subst}
use mathlib.Core.Bool.{Bool, true, false, cond}
use mathlib.Core.List.{List, ◌++◌}
use native.Mathlib.Omega.{arith}
use lib.IntN.{ℤ, pos, negsuc}
use lib.ListN.{length, get_or, take, drop, length-map, get_or-map}
use lib.Seq.{get_or-take, length-take-le}
use Rattle.base.specs.Places.{table}
use Rattle.base.specs.Outputs.{filled}
use Rattle.base.proofs.Counting.{table_same}
use Rattle.base.proofs.Fills.{filled-length}
use Rattle.rules.specs.Regions.{at}
use Rattle.rules.specs.Masks.{is_set, mask_cells}
use Rattle.grid.specs.Planes.{plane, paint_of}
use Rattle.grid.proofs.Planes.{Painted}
use Rattle.grid.proofs.Tiles.{filled-plane}
use Rattle.mask.specs.Lines.{bit_of}
use Rattle.mask.proofs.Lines.{bit_small}

-- the cell of a byte
cell_of : ℕ → ℤ
cell_of b = cond (is_set b) (pos 0) (negsuc 0)

paint_bit : (b : ℕ) → bit_of b ≡ paint_of (cell_of b)
unfolding bit_of cell_of paint_of
paint_bit b = go (is_set b)
  where
    go : (t : Bool) → cond t 1 0 ≡ paint_of (cond t (pos 0) (negsuc 0))
    go true = refl
    go false = refl

mask_at : (mask : List ℕ) (p : ℕ) → at (mask_cells mask) p ≡ cell_of (get_or mask p 0)
unfolding at mask_cells cell_of is_set
mask_at mask p = get_or-map cell_of mask p 0

mask_painted : (mask work : List ℕ) (n : ℕ) → n ≤ length mask → Painted (mask_cells (take n mask)) n (filled n (λ p. bit_of (get_or mask p 0)) work)
unfolding mask_cells
mask_painted mask work n h = record {
  size = length-map (take n mask) _ ∙ length-take-le n mask h;
  paint = λ p l.
      filled-plane n (λ q. bit_of (get_or mask q 0)) work p l ∙ paint_bit (get_or mask p 0)
      ∙ ap (λ (b : ℕ). paint_of (cell_of b)) (sym (get_or-take n mask p 0 l)) ∙ ap paint_of (sym (mask_at (take n mask) p));
}

-- the front of the work area painted by itself, with the first n places of a mask
module _ (mask work front : List ℕ) (n : ℕ) (whole : n ≤ length mask) (e : front ≡ table (length (take n mask)) (λ p. bit_of (get_or (take n mask) p 0))) where
  painted : front ++ drop n work ≡ filled n (λ p. bit_of (get_or mask p 0)) work
  unfolding filled
  painted =
      ap (λ (x : List ℕ). x ++ drop n work) (e ∙ ap (λ (k : ℕ). table k (λ p. bit_of (get_or (take n mask) p 0))) (length-take-le n mask whole)
      ∙ table_same n (λ p. bit_of (get_or (take n mask) p 0)) (λ p. bit_of (get_or mask p 0)) 0 (λ p l. ap bit_of (get_or-take n mask p 0 l)))

  pub front-size : n ≤ length work → length (front ++ drop n work) ≡ length work
  front-size free = ap length painted ∙ filled-length n (λ p. bit_of (get_or mask p 0)) work free

  -- the paints of a mask are small
  pub front_small : (p : ℕ) → p < n → plane n 0 (front ++ drop n work) p ≤ 2147483648
  front_small p l =
      omega (arith, ap (λ (x : List ℕ). plane n 0 x p) painted, filled-plane n (λ q. bit_of (get_or mask q 0)) work p l, bit_small (get_or mask p 0))

  pub front_painted : Painted (mask_cells (take n mask)) n (front ++ drop n work)
  front_painted = subst (Painted (mask_cells (take n mask)) n) (sym painted) (mask_painted mask work n whole)
