-- The steps of `run` keep every cell's index among the palette's entries. Assumes nothing.
use Prim.Native.Nat.{ℕ, ◌+◌, ◌-◌, ◌*◌, ◌/◌, ◌%◌, ◌≤◌, ◌<◌}
use mathlib.Core.Path.{◌≡◌, refl, ap, ◌∙◌}
use mathlib.Core.Bool.{Bool, true, false, ◌&&◌, ◌||◌, cond}
use mathlib.Core.List.{List, [], ◌∷◌}
use Rattle.std.specs.Prelude.{Option, None, Some}
use native.Mathlib.Decide.{dec_lt}
use native.Mathlib.Omega.{arith}
use lib.Dec.{leb, ltb}
use lib.IntN.{ℤ, pos, negsuc, neg_ℤ}
use lib.Signed.{non_neg, le_z}
use lib.ListN.{length, get_or, get_or-eq_default}
use borrow.Author.Tests.{lt-leb}
use Rattle.base.specs.Places.{table, any}
use Rattle.base.proofs.Counting.{case, clash, left, right, no_leb, any_no, any_yes, table_at, table-length}
use Rattle.rules.specs.declared.Limits.{Limits}
use Rattle.rules.specs.Sheet.{Sheet, area}
use Rattle.rules.specs.Palette.{Palette}
use Rattle.rules.specs.Regions.{Symmetric, at}
use Rattle.rules.specs.Pass.{Rule, State, fresh, clean}
use Rattle.rules.specs.Claims.{repaintings}
use Rattle.rules.specs.Grid.{step_to}
use Rattle.rules.specs.Corners.{Corner, corners, look, opposite, is_corner, trimmed_by, trimmed, trim}
use Rattle.rules.specs.Outline.{padded_at, padded, canvas, ring, inked}
use Rattle.rules.specs.Run.{rule_on, rule_for, clean_sheet, clean_sheet_if}
use Rattle.rules.specs.Rows.{bad_index}
use Rattle.rules.proofs.Grids.{eight_symmetric}
use Rattle.rules.proofs.Runs.{run_kept, run_source}

-- every cell names an entry below k, or is transparent
pub record Named (k : ℕ) (cells : List ℤ) : Type 0 where
  pub below : (p : ℕ) → le_z (pos k) (at cells p) ≡ false

-- ---- row 7

module _ (on : Bool) (limit : ℤ) (palette : Palette) (s : Sheet) where
  pub named : length s.cells ≡ area s → on ≡ true → le_z (pos 2) limit ≡ true → (bad_index on limit palette s).applies ≡ false → Named palette.count s.cells
  unfolding bad_index at
  named len y l z = record { below = λ p. go p (dec_lt p (area s)) }
    where
      none_past : any (area s) (λ p. le_z (pos palette.count) (get_or s.cells p (negsuc 0))) ≡ false
      none_past = rw (y, l) at z

      go : (p : ℕ) → Dec (p < area s) → le_z (pos palette.count) (get_or s.cells p (negsuc 0)) ≡ false
      go p (yes h) = any_no (area s) _ none_past p h
      go p (no h) = let m : length s.cells ≤ p = omega (arith, len) in ap (le_z (pos palette.count)) (get_or-eq_default s.cells (negsuc 0) m)

  pub row_clear : (on ≡ true → le_z (pos 2) limit ≡ true → Named palette.count s.cells) → (bad_index on limit palette s).applies ≡ false
  unfolding bad_index
  row_clear f =
      case (on && le_z (pos 2) limit && any (area s) (λ p. le_z (pos palette.count) (at s.cells p)))
      (λ y. let a = left (on && le_z (pos 2) limit) _ y in
      let w = any_yes (area s) _ (right (on && le_z (pos 2) limit) _ y) in
      clash w.2 ((f (left on _ a) (right on _ a)).below w.0))
      (λ z. z)

pub named_more : {k n : ℕ} {cells : List ℤ} → k ≤ n → Named k cells → Named n cells
named_more {k} {n} {cells} h a = record { below = λ p. more (at cells p) (a.below p) }
  where
    more : (z : ℤ) → le_z (pos k) z ≡ false → le_z (pos n) z ≡ false
    more (pos i) e = lt-leb n i (omega (arith, no_leb {m = k} {n = i} e))
    more (negsuc i) e = refl

-- ---- cleaning: a cell after it is as one of the cells before

-- a cell after it was repainted, and has an index that was there before, or was kept
clean_source : (rule : Rule) → Symmetric rule.adj → (k : ℕ) (s : State) → length s.cells ≡ rule.places → (x : ℕ)
    → (y : ℕ) × (at (clean rule k s).state.cells x ≡ at s.cells y)
clean_source rule symm k s len x = elim (dec_lt 0 (repaintings rule k s x)) [
  | yes h ↦ (let w = (run_source rule symm k s len x h).1 in (w.0, w.2))
  | no h ↦ (x, run_kept rule symm k s len x (omega arith))
]

pub cleaned_named : (on : Bool) (k : ℕ) (palette : Palette) (limits : Limits) (s : Sheet) {n : ℕ} → length s.cells ≡ area s → Named n s.cells → Named n (clean_sheet_if on k palette limits s).sheet.cells
unfolding clean_sheet_if clean_sheet rule_for rule_on fresh
cleaned_named true k palette limits s {n} len a =
    let rule = rule_on (area s) s.width palette limits in
    record { below = λ p. let w = clean_source rule (eight_symmetric s.width) k (fresh rule s.cells) len p in ap (le_z (pos n)) w.1 ∙ a.below w.0 }
cleaned_named false k palette limits s len a = a

-- ---- cells made by a table

table_named : (k n : ℕ) (f : ℕ → ℤ) → ((p : ℕ) → le_z (pos k) (f p) ≡ false) → Named k (table n f)
unfolding at
table_named k n f e = record { below = λ p. go p (dec_lt p n) }
  where
    go : (p : ℕ) → Dec (p < n) → le_z (pos k) (get_or (table n f) p (negsuc 0)) ≡ false
    go p (yes h) = ap (le_z (pos k)) (table_at n f (negsuc 0) p h) ∙ e p
    go p (no h) = let m : length (table n f) ≤ p = omega (arith, table-length n f) in ap (le_z (pos k)) (get_or-eq_default (table n f) (negsuc 0) m)

-- one of two cells
either_named : (k : ℕ) (b : Bool) (x y : ℤ) → le_z (pos k) x ≡ false → le_z (pos k) y ≡ false → le_z (pos k) (cond b x y) ≡ false
either_named k true x y e f = e
either_named k false x y e f = f

-- ---- corners

module _ (s : Sheet) {k : ℕ} (a : Named k s.cells) where
  opposite_named : (p : ℕ) (c : Corner) → le_z (pos k) (opposite s p c) ≡ false
  unfolding opposite look
  opposite_named p c = go (step_to s.height s.width (p / s.width) (p % s.width) (neg_ℤ c.sy) (neg_ℤ c.sx))
    where
      go : (o : Option ℕ) → le_z (pos k) (elim (elim o as (λ x. Option ℤ) [ None ↦ None | Some q ↦ Some (at s.cells q) ]) [ None ↦ negsuc 0 | Some b ↦ b ]) ≡ false
      go None = refl
      go (Some q) = a.below q

  trimmed_by_named : (p : ℕ) (cs : List Corner) (z : ℤ) → le_z (pos k) z ≡ false → le_z (pos k) (trimmed_by s p cs z) ≡ false
  unfolding trimmed_by
  trimmed_by_named p [] z e = e
  trimmed_by_named p (c ∷ cs) z e =
      either_named k (is_corner s p c z (opposite s p c)) (opposite s p c) (trimmed_by s p cs z) (opposite_named p c) (trimmed_by_named p cs z e)

  trim_named : Named k (trim s).cells
  unfolding trim trimmed
  trim_named =
      case (ltb s.height 4 || ltb s.width 4)
      (λ y. rw y a)
      (λ z. rw z (table_named k (area s) (trimmed s)
      (λ p. either_named k (non_neg (at s.cells p)) (trimmed_by s p corners (at s.cells p)) (at s.cells p) (trimmed_by_named p corners (at s.cells p) (a.below p)) (a.below p))))

  pub cut_named : (on : Bool) → Named k (cond on (trim s) s).cells
  cut_named true = trim_named
  cut_named false = a

  -- ---- the outline

  padded_named : (p : ℕ) → le_z (pos k) (padded_at s p) ≡ false
  unfolding padded_at
  padded_named p =
      let y = p / (s.width + 2) in
      let x = p % (s.width + 2) in
      either_named k (leb 1 y && leb y s.height && leb 1 x && leb x s.width) (at s.cells ((y - 1) * s.width + (x - 1))) (negsuc 0)
      (a.below ((y - 1) * s.width + (x - 1))) refl

  pub canvas_named : (b : Bool) → Named k (canvas b s).cells
  unfolding canvas padded
  canvas_named true = table_named k ((s.height + 2) * (s.width + 2)) (padded_at s) padded_named
  canvas_named false = a

  pub inked_named : (i : ℕ) → i < k → Named k (inked s i).cells
  unfolding inked
  inked_named i h = table_named k (area s) _ (λ p. either_named k (ring s p) (pos i) (at s.cells p) (lt-leb k i h) (a.below p))
