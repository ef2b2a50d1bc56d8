-- A sheet at the front of a lent list, and sheets written over it one after the other. Assumes nothing.
use Prim.Native.Nat.{ℕ, zero, suc, ◌*◌, ◌≤◌}
use mathlib.Core.Path.{◌≡◌, refl, sym, ap, ◌∙◌}
use mathlib.Core.List.{List, [], ◌∷◌, ◌++◌}
use native.Mathlib.Omega.{arith}
use lib.IntN.{ℤ}
use lib.ListN.{length, take, drop, length-append, length-drop}
use lib.Seq.{length-take-le, take_at}
use Rattle.std.proofs.lemmas.Slice.{drop-append-drop}
use Rattle.rules.specs.Sheet.{Sheet, area, sheet_of, over}

-- the front of a list, written over the list, leaves it
pub over_same : (n : ℕ) (l : List ℤ) → l ≡ over (take n l) l
unfolding over
over_same zero l = refl
over_same (suc n) [] = refl
over_same (suc n) (z ∷ l) = ap (λ (t : List ℤ). z ∷ t) (over_same n l)

-- the list at entry, with a sheet written over its front
pub record Stands (old : List ℤ) (s : Sheet) (new : List ℤ) : Type 0 where
  pub full : length s.cells ≡ area s
  pub fits : area s ≤ length old
  pub is : new ≡ over s.cells old

pub stands_start : (old : List ℤ) (h w : ℕ) → h * w ≤ length old → Stands old (sheet_of old h w) old
unfolding sheet_of area
stands_start old h w fits = record { full = length-take-le (h * w) old fits; fits = fits; is = over_same (h * w) old }

over-length : (a l : List ℤ) → length a ≤ length l → length (over a l) ≡ length l
unfolding over
over-length a l h = length-append a (drop (length a) l) ∙ omega (arith, length-drop (length a) l)

pub stands_size : {old : List ℤ} {s : Sheet} {new : List ℤ} → Stands old s new → length new ≡ length old
stands_size {old} {s} a = ap length a.is ∙ over-length s.cells old (omega (arith, a.full, a.fits))

-- the sheet is what the list holds
pub stands_sheet : {old : List ℤ} {s : Sheet} {new : List ℤ} (h w : ℕ) → Stands old s new → s.height ≡ h → s.width ≡ w → sheet_of new h w ≡ s
unfolding sheet_of over area
stands_sheet {old} {s} {new} h w a e f =
    let g : length s.cells ≡ h * w = a.full ∙ ap (λ (x : ℕ). x * s.width) e ∙ ap (λ (x : ℕ). h * x) f in
    let c : take (h * w) new ≡ s.cells = ap (take (h * w)) a.is ∙ take_at s.cells (drop (length s.cells) old) (h * w) g in
    (λ i. record { cells = c i; height = sym e i; width = sym f i })

-- a list that is no shorter, written over what was written
over_again : (a b l : List ℤ) → length a ≤ length b → over b (over a l) ≡ over b l
unfolding over
over_again a b l h = ap (λ (x : List ℤ). b ++ x) (drop-append-drop (length a) l a (length b) h refl)

-- another sheet, of no fewer cells, written over it
pub stands_next : {old : List ℤ} {s t : Sheet} {now new : List ℤ} → Stands old s now → new ≡ over t.cells now
    → length t.cells ≡ area t → area s ≤ area t → area t ≤ length old → Stands old t new
stands_next {old} {s} {t} a e full more fits =
    record {
      full = full;
      fits = fits;
      is = e ∙ ap (over t.cells) a.is ∙ over_again s.cells t.cells old (omega (arith, a.full, full, more));
    }
