-- What a store in one plane of the work area leaves, and what plane 0 says of a sheet. Assumes nothing.
use Prim.Native.Nat.{ℕ, zero, suc, ◌+◌, ◌-◌, ◌*◌, ◌<◌}
use mathlib.Core.Path.{◌≡◌, refl, sym, ap, ap₂, fun_ext, ◌∙◌}
use mathlib.Core.Bool.{Bool, true, ◌&&◌, cond}
use mathlib.Core.List.{List}
use native.Mathlib.Nat.{mul-le-mul_right, suc-mul}
use native.Mathlib.Decide.{dec_lt}
use native.Mathlib.Numerals.{add-one}
use native.Mathlib.Omega.{arith}
use borrow.Author.Tests.{lt-ltb, ne_eqb}
use lib.IntN.{ℤ, pos, negsuc}
use lib.Signed.{non_neg}
use lib.Dec.{eqb, ltb}
use lib.ListN.{length, get_or, set, get_or-eq_default}
use lib.Seq.{get_or-set_same, get_or-set_other, ext_get_or}
use Rattle.base.specs.Places.{table, least, times, count}
use Rattle.base.proofs.Counting.{clash, table_at, table-length, same_test, eqb_yes, yes_eqb}
use Rattle.rules.specs.Regions.{at, opaque, index, alike, link, held, spread, roots, inside, first, label}
use Rattle.rules.specs.Masks.{label_at, regions}
use Rattle.grid.specs.Planes.{plane, paint_of, cell_of, cells_of, end_of}

-- ---- stores

-- planes do not overlap
apart : (n j k p q : ℕ) → (j ≡ k → ⊥) → p < n → q < n → j * n + p ≡ k * n + q → ⊥
apart n j k p q ne lp lq e = elim (dec_lt j k) [ yes l ↦ over j k p q l lp e | no m ↦ over k j q p (omega arith) lq (sym e) ]
  where
    over : (a b x y : ℕ) → a < b → x < n → a * n + x ≡ b * n + y → ⊥
    over a b x y l lx f = omega (arith, mul-le-mul_right n l, suc-mul a n)

pub plane_read : (n j p i : ℕ) (work : List ℕ) → i ≡ j * n + p → get_or work i 0 ≡ plane n j work p
unfolding plane
plane_read n j p i work e = ap (λ (x : ℕ). get_or work x 0) e

-- a store at i, which is the place p of plane j
module _ (n j p i : ℕ) (work : List ℕ) (v : ℕ) (e : i ≡ j * n + p) where
  pub plane-same : i < length work → plane n j (set work i v) p ≡ v
  unfolding plane
  plane-same l = ap (λ (x : ℕ). get_or (set work i v) x 0) (sym e) ∙ get_or-set_same work i v 0 l

  pub plane_else : (q : ℕ) → (q ≡ p → ⊥) → plane n j (set work i v) q ≡ plane n j work q
  unfolding plane
  plane_else q ne = get_or-set_other work i (j * n + q) v 0 (λ z. ne (omega arith))

  pub plane_other : (k q : ℕ) → (j ≡ k → ⊥) → p < n → q < n → plane n k (set work i v) q ≡ plane n k work q
  unfolding plane
  plane_other k q ne lp lq = get_or-set_other work i (k * n + q) v 0 (λ z. apart n j k p q ne lp lq (sym e ∙ sym z))

-- where the regions up to a label end
pub end_none : (n l : ℕ) (a : List ℕ) → l ≡ 0 → 0 ≡ end_of n a l
unfolding end_of
end_none n l a e = rw e

pub end_read : (n l : ℕ) (a : List ℕ) → (l ≡ 0 → ⊥) → get_or a (3 * n + (l - 1)) 0 ≡ end_of n a l
unfolding end_of plane
end_read n zero a z = absurd (z refl)
end_read n (suc k) a z = let e : suc k - 1 ≡ k = omega arith in rw e

-- ---- paint

pub paint_cell : (x : ℕ) → paint_of (cell_of x) ≡ x
unfolding paint_of cell_of
paint_cell zero = refl
paint_cell (suc i) = add-one i

-- the sheet of plane 0
module _ (n : ℕ) (work : List ℕ) where
  pub cells-size : length (cells_of n work) ≡ n
  unfolding cells_of
  cells-size = table-length n (λ p. cell_of (plane n 0 work p))

  pub cells_at : (p : ℕ) → p < n → at (cells_of n work) p ≡ cell_of (plane n 0 work p)
  unfolding cells_of at
  cells_at p l = table_at n (λ q. cell_of (plane n 0 work q)) (negsuc 0) p l

  pub cells_paint : (p : ℕ) → p < n → paint_of (at (cells_of n work) p) ≡ plane n 0 work p
  cells_paint p l = ap paint_of (cells_at p l) ∙ paint_cell (plane n 0 work p)

-- what a paint says of an opaque cell
paint_index : (v : ℕ) → non_neg (cell_of v) ≡ true → v ≡ index (cell_of v) + 1
unfolding cell_of index
paint_index zero o = clash o refl
paint_index (suc i) o = omega arith

pub index_is : (n : ℕ) (a : List ℕ) (q : ℕ) → q < n → opaque (cells_of n a) q ≡ true → plane n 0 a q ≡ index (at (cells_of n a) q) + 1
unfolding opaque
index_is n a q l o = let e = cells_at n a q l in paint_index (plane n 0 a q) (rw e at o) ∙ ap (λ (z : ℤ). index z + 1) (sym e)

-- while plane 0 is kept, so is its sheet
pub cells_kept : (n : ℕ) (a b : List ℕ) → ((p : ℕ) → p < n → plane n 0 a p ≡ plane n 0 b p) → cells_of n a ≡ cells_of n b
unfolding at
cells_kept n a b f =
    ext_get_or (negsuc 0) (cells_of n a) (cells_of n b) (cells-size n a ∙ sym (cells-size n b))
    (λ p l. let k : p < n = omega (arith, cells-size n a) in cells_at n a p k ∙ ap cell_of (f p k) ∙ sym (cells_at n b p k))

nonneg_paint : (z : ℤ) → non_neg z ≡ ltb 0 (paint_of z)
unfolding paint_of
nonneg_paint (pos i) = sym (lt-ltb 0 (i + 1) (omega arith))
nonneg_paint (negsuc i) = refl

alike_paint : (y z : ℤ) → alike y z ≡ (ltb 0 (paint_of y) && eqb (paint_of y) (paint_of z))
unfolding paint_of alike
alike_paint (pos i) (pos j) =
    rw (lt-ltb 0 (i + 1) (omega arith))
    (same_test (λ e. let q : i ≡ j = eqb_yes e in yes_eqb {m = i + 1} {n = j + 1} (omega arith)) (λ e. let q : i + 1 ≡ j + 1 = eqb_yes e in yes_eqb {m = i} {n = j} (omega arith)))
alike_paint (pos i) (negsuc j) = rw (ne_eqb (i + 1) 0 (omega arith), lt-ltb 0 (i + 1) (omega arith))
alike_paint (negsuc i) z = refl

-- a place is opaque where the paint is not 0
pub opaque_paint : (n : ℕ) (work : List ℕ) (p : ℕ) → p < n → opaque (cells_of n work) p ≡ ltb 0 (plane n 0 work p)
unfolding opaque
opaque_paint n work p l = nonneg_paint (at (cells_of n work) p) ∙ ap (ltb 0) (cells_paint n work p l)

-- sheets that are painted alike have the same regions
module _ (a b : List ℤ) (same : (p : ℕ) → paint_of (at a p) ≡ paint_of (at b p)) where
  pub same-opaque : opaque a ≡ opaque b
  unfolding opaque
  same-opaque = fun_ext (λ p. nonneg_paint (at a p) ∙ ap (ltb 0) (same p) ∙ sym (nonneg_paint (at b p)))

  same-link : (adj : ℕ → ℕ → Bool) → link adj a ≡ link adj b
  unfolding link
  same-link adj =
      fun_ext (λ p. fun_ext (λ q. ap (λ (t : Bool). adj p q && t)
      (alike_paint (at a p) (at a q) ∙ ap₂ (λ (x y : ℕ). ltb 0 x && eqb x y) (same p) (same q) ∙ sym (alike_paint (at b p) (at b q)))))

  pub same-roots : (n : ℕ) (adj : ℕ → ℕ → Bool) → roots n adj a ≡ roots n adj b
  unfolding roots spread
  same-roots n adj =
      ap (λ (l : ℕ → ℕ → Bool). times n (λ r. table n (λ p. least n (l p) (held r) (held r p))) (table n (λ p. p))) (same-link adj)

  pub same_labels : (n : ℕ) (adj : ℕ → ℕ → Bool) (p : ℕ) → label_at n adj a p ≡ label_at n adj b p
  unfolding label_at label first inside
  same_labels n adj p =
      ap₂ (λ (o : ℕ → Bool) (r : List ℕ). cond (o p) (count (suc (held r p)) (λ q. o q && eqb (held r q) q)) 0) same-opaque (same-roots n adj)

  pub same-regions : (n : ℕ) (adj : ℕ → ℕ → Bool) → regions n adj a ≡ regions n adj b
  unfolding regions first inside
  same-regions n adj = ap₂ (λ (o : ℕ → Bool) (r : List ℕ). count n (λ q. o q && eqb (held r q) q)) same-opaque (same-roots n adj)

-- plane 0 holds the sheet
pub record Painted (cells : List ℤ) (n : ℕ) (work : List ℕ) : Type 0 where
  pub size : length cells ≡ n
  pub paint : (p : ℕ) → p < n → plane n 0 work p ≡ paint_of (at cells p)

-- a painted sheet and the sheet of plane 0 are painted alike
module _ {cells : List ℤ} {n : ℕ} {work : List ℕ} (s : Painted cells n work) where
  pub painted-alike : (p : ℕ) → paint_of (at (cells_of n work) p) ≡ paint_of (at cells p)
  unfolding at
  painted-alike p =
      elim (dec_lt p n) [
        | yes l ↦ cells_paint n work p l ∙ s.paint p l
        | no m ↦ ap paint_of (get_or-eq_default (cells_of n work) (negsuc 0) (omega (arith, cells-size n work)) ∙ sym (get_or-eq_default cells (negsuc 0) (omega (arith, s.size))))
      ]
