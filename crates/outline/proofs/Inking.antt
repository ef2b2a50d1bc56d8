-- Marks of the ring, and the cells that take an index by them. Assumes nothing.
use Prim.Native.Nat.{ℕ, ◌+◌, ◌*◌, ◌≤◌, ◌<◌}
use mathlib.Core.Path.{◌≡◌, refl, ap, ◌∙◌}
use mathlib.Core.Bool.{cond}
use mathlib.Core.List.{List, ◌++◌}
use native.Mathlib.Omega.{arith}
use lib.Dec.{eqb}
use lib.IntN.{ℤ, pos, negsuc}
use lib.ListN.{length, get_or, set, take, drop, length-set}
use lib.Seq.{length-take-le}
use Rattle.base.specs.Places.{table}
use Rattle.base.specs.Outputs.{filled}
use Rattle.base.proofs.Counting.{case, table_same}
use Rattle.base.proofs.Fills.{filled_at, filled_past, filled_none, filled_more}
use Rattle.rules.specs.Sheet.{area, sheet_of, over}
use Rattle.rules.specs.Regions.{at}
use Rattle.rules.specs.Outline.{ring, inked}
use Rattle.outline.proofs.Fillings.{filled_all, over_table}

-- a marked cell takes the index i
unfoldable pub painted : List ℤ → List ℕ → ℕ → ℕ → ℤ
painted cells marks i p = cond (eqb (get_or marks p 0) 0) (at cells p) (pos i)

-- the cells below p are painted
pub record Inks (l : List ℤ) (marks : List ℕ) (i p : ℕ) (m : List ℤ) : Type 0 where
  pub cells : m ≡ filled p (painted l marks i) l
  pub size : length m ≡ length l

pub inks_start : (l : List ℤ) (marks : List ℕ) (i : ℕ) → Inks l marks i 0 l
inks_start l marks i = record { cells = filled_none _ l; size = refl }

pub inks_step : {l : List ℤ} {marks : List ℕ} {i p : ℕ} {m : List ℤ} → Inks l marks i p m → p < length l
    → (x : ℤ) → x ≡ cond (eqb (get_or marks p 0) 0) (at m p) (pos i) → Inks l marks i (p + 1) (set m p x)
unfolding painted at
inks_step {l} {marks} {i} {p} {m} k h x e =
    let kept : get_or m p (negsuc 0) ≡ get_or l p (negsuc 0) = ap (λ (c : List ℤ). get_or c p (negsuc 0)) k.cells ∙ filled_past p (painted l marks i) l (negsuc 0) p (omega arith) in
    record {
      cells = ap (λ (c : List ℤ). set c p x) k.cells ∙ filled_more p (painted l marks i) l x h (e ∙ ap (λ (c : ℤ). cond (eqb (get_or marks p 0) 0) c (pos i)) kept);
      size = simp length-set k.size;
    }

-- all of them are
pub inks_end : {l : List ℤ} {marks : List ℕ} {i p : ℕ} {m : List ℤ} → Inks l marks i p m → p ≡ length l → m ≡ table (length l) (painted l marks i)
unfolding filled
inks_end {l} {marks} {i} k e = k.cells ∙ rw e (filled_all _ l)

-- marked by the ring, the painted cells are the inked sheet
module _ (l : List ℤ) (h w i : ℕ) (marks : List ℕ) (room : h * w ≤ length l) where
  same : (p : ℕ) → p < h * w → painted (take (h * w) l) (filled (h * w) (λ q. cond (ring (sheet_of l h w) q) 1 0) marks) i p ≡ cond (ring (sheet_of l h w) p) (pos i) (at (sheet_of l h w).cells p)
  unfolding painted sheet_of
  same p lp = rw (filled_at (h * w) (λ q. cond (ring (sheet_of l h w) q) 1 0) marks 0 p lp) (case (ring (sheet_of l h w) p) (λ y. rw y) (λ z. rw z))

  pub inked-is : table (length (take (h * w) l)) (painted (take (h * w) l) (filled (h * w) (λ q. cond (ring (sheet_of l h w) q) 1 0) marks) i) ++ drop (h * w) l ≡ over (inked (sheet_of l h w) i).cells l
  unfolding inked area sheet_of
  inked-is =
      let n = h * w in
      rw (length-take-le n l room) (ap (λ (c : List ℤ). c ++ drop n l) (table_same n _ _ (pos 0) same)) ∙ over_table n _ l
