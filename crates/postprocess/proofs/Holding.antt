-- What the lent lists hold between two steps of `run`. Assumes nothing.
use Prim.Native.Nat.{ℕ, ◌*◌, ◌≤◌}
use mathlib.Core.Path.{◌≡◌, sym, ap, ◌∙◌}
use mathlib.Core.List.{List}
use native.Mathlib.Nat.{le_of_eq}
use native.Mathlib.Omega.{arith}
use lib.IntN.{ℤ}
use lib.Ieee.{Float}
use lib.ListN.{length}
use Rattle.rules.specs.Sheet.{Sheet, area, sheet_of, over}
use Rattle.rules.specs.Palette.{Palette, palette_of}
use Rattle.rules.proofs.Opacity.{Alike}
use Rattle.postprocess.proofs.Fronts.{Stands, stands_size, stands_sheet, stands_next}

pub area_same : {s t : Sheet} → Alike s t → area t ≡ area s
unfolding area
area_same k = rw (k.height, k.width)

-- a sheet written over the cells at entry, of h rows of w cells, and a palette of k entries
pub record Holds (old : List ℤ) (s : Sheet) (p : Palette) (cells : List ℤ) (h w : ℕ) (lab : List Float) (k : ℕ) : Type 0 where
  pub stands : Stands old s cells
  pub sheet : sheet_of cells h w ≡ s
  pub palette : palette_of lab k ≡ p

module _ {old : List ℤ} {s : Sheet} {p : Palette} {cells : List ℤ} {h w : ℕ} {lab : List Float} {k : ℕ} (a : Holds old s p cells h w lab k) where
  -- what is read from the lists is read from the sheet and the palette
  pub reads : {A : Type 0} (f : Sheet → Palette → A) → f (sheet_of cells h w) (palette_of lab k) ≡ f s p
  reads f = ap (λ (t : Sheet). f t (palette_of lab k)) a.sheet ∙ ap (f s) a.palette

  -- a step that keeps the sheet's size
  pub keeps : (f : Sheet → Palette → Sheet) {new : List ℤ} → Alike s (f s p) → new ≡ over (f (sheet_of cells h w) (palette_of lab k)).cells cells
      → Holds old (f s p) p new h w lab k
  unfolding sheet_of
  keeps f {new} l e =
      let e' = e ∙ reads (λ t q. over (f t q).cells cells) in
      let n = stands_next a.stands e' l.full (le_of_eq (sym (area_same l))) (omega (arith, a.stands.fits, area_same l)) in
      record {
        stands = n;
        sheet = stands_sheet h w n (l.height ∙ sym (ap (λ (t : Sheet). t.height) a.sheet)) (l.width ∙ sym (ap (λ (t : Sheet). t.width) a.sheet));
        palette = a.palette;
      }

  -- the sheet lies within the list
  pub sized : h * w ≤ length cells
  unfolding sheet_of area
  sized = let e : h * w ≡ area s = ap area a.sheet in omega (arith, a.stands.fits, stands_size a.stands)
