-- A lent sheet loaded, cleaned on the planes and stored is the sheet cleaned by the rules. Assumes nothing.
use Prim.Native.Nat.{ℕ, zero, suc, ◌*◌, ◌≤◌, ◌<◌, zero-le}
use mathlib.Core.Path.{◌≡◌, refl, sym, ap, ap₂, ◌∙◌, subst}
use mathlib.Core.Bool.{true, false}
use mathlib.Core.List.{List, ◌++◌}
use native.Mathlib.Numerals.{add-one}
use native.Mathlib.Omega.{arith}
use lib.Dec.{T}
use lib.Ieee.{Float}
use lib.IntN.{ℤ, pos, negsuc}
use lib.Signed.{non_neg, lt_z, le_z}
use lib.ListN.{length, take, drop, take-append-drop}
use lib.Seq.{ext_get_or, get_or-take, length-take-le}
use Rattle.base.specs.Places.{table}
use Rattle.base.specs.Outputs.{filled}
use Rattle.base.proofs.Counting.{case, clash, yes_leb, no_leb, table_at, table-length, any_no, table_same}
use Rattle.rules.specs.Regions.{at, opaque, Symmetric}
use Rattle.rules.specs.Pass.{Rule, State, pass, repaints, moves, fates, fresh, Cleaned, clean}
use Rattle.rules.specs.Palette.{palette_of, colour}
use Rattle.rules.specs.Sheet.{area, sheet_of, over}
use Rattle.rules.specs.Rows.{bad_index}
use Rattle.rules.specs.Calls.{limits_at}
use Rattle.rules.specs.Run.{rule_on, rule_for, CleanedSheet, clean_sheet}
use Rattle.rules.proofs.Passes.{pass-length, repainted, unpainted_kept}
use Rattle.rules.proofs.Runs.{clean_go, clean_stop, run_length}
use Rattle.rules.proofs.More.{pass-opaque, clean-opaque, limit_one}
use Rattle.rules.proofs.Grids.{eight_symmetric}
use Rattle.grid.specs.declared.Neighbourhood.TheVariants.{Eight}
use Rattle.grid.specs.declared.Grid.{Grid}
use Rattle.grid.specs.Steps.{neighbours}
use Rattle.grid.specs.Planes.{plane, paint_of, cells_of}
use Rattle.grid.specs.Tiles.{repaint}
use Rattle.grid.proofs.Planes.{Painted, cells_paint, painted-alike}
use Rattle.verdicts.specs.declared.Criteria.{Criteria}
use Rattle.verdicts.specs.Targets.{entry_distance}
use Rattle.verdicts.specs.Judging.{rule_of, state_of, Indexed}
use Rattle.orphans.specs.Passing.{CleanedTo}
use Rattle.orphans.specs.Entry.{Fit}
use Rattle.orphans.proofs.Alike.{Same, clean-alike}

-- ---- transparent cells

-- a transparent cell is never written
module _ (rule : Rule) (symm : Symmetric rule.adj) where
  pass_clear : (s : State) → length s.cells ≡ rule.places → (x : ℕ) → opaque s.cells x ≡ false → at (pass rule s).cells x ≡ at s.cells x
  pass_clear s len x z =
      case (repaints rule s x) (λ y. clash (repainted rule symm s len x y).was z) (λ y. unpainted_kept rule symm s len x y)

  clean_clear : (k : ℕ) (s : State) → length s.cells ≡ rule.places → (x : ℕ) → opaque s.cells x ≡ false → at (clean rule k s).state.cells x ≡ at s.cells x
  unfolding clean
  clean_clear zero s len x z = refl
  clean_clear (suc k) s len x z =
      case (moves rule (fates rule s))
      (λ y. rw (clean_go rule k s y) (clean_clear k (pass rule s) (pass-length rule symm s len) x (pass-opaque rule symm s len x ∙ z) ∙ pass_clear s len x z))
      (λ y. rw (clean_stop rule k s y) (pass_clear s len x z))

-- a paint gives back its cell, where that is opaque, or was there before
repaint-opaque : (z old : ℤ) → non_neg z ≡ true → repaint (paint_of z) old ≡ z
unfolding repaint paint_of
repaint-opaque (pos i) old o = rw (add-one i)
repaint-opaque (negsuc i) old o = clash o refl

repaint_clear : (z : ℤ) → non_neg z ≡ false → repaint (paint_of z) z ≡ z
unfolding repaint paint_of
repaint_clear (pos i) o = clash refl o
repaint_clear (negsuc i) o = refl

-- ---- stored

over-filled : (n : ℕ) (f : ℕ → ℤ) (new old : List ℤ) → length new ≡ n → ((i : ℕ) → i < n → at new i ≡ f i) → filled n f old ≡ over new old
unfolding filled over at
over-filled n f new old len e =
    ap₂ (λ (l : List ℤ) (m : ℕ). l ++ drop m old)
    (ext_get_or (negsuc 0) (table n f) new (table-length n f ∙ sym len) (λ i h. let l : i < n = omega (arith, table-length n f) in table_at n f (negsuc 0) i l ∙ sym (e i l))) (sym len)

module _ (rule : Rule) (symm : Symmetric rule.adj) (n k passes : ℕ) (e : rule.places ≡ n) (cells : List ℤ) (a b : List ℕ) (count : ℕ)
    (painted : Painted cells n a) (cleaned : CleanedTo (clean rule passes (fresh rule (cells_of n a))) n k a b count) where
  abbrev result : Cleaned
  result = clean rule passes (fresh rule cells)

  full : length (fresh rule cells).cells ≡ rule.places
  unfolding fresh
  full = painted.size ∙ sym e

  alike : Same (clean rule passes (fresh rule (cells_of n a))) result
  unfolding fresh
  alike = clean-alike rule passes (cells_of n a) cells (table rule.places (λ p. false)) (painted-alike painted)

  paint_is : (i : ℕ) → i < n → plane n 0 b i ≡ paint_of (at result.state.cells i)
  unfolding state_of
  paint_is i l = sym (cells_paint n b i l) ∙ ap (λ (s : State). paint_of (at s.cells i)) cleaned.state ∙ alike.paint i

  cell-is : (i : ℕ) → i < n → at result.state.cells i ≡ repaint (plane n 0 b i) (at cells i)
  unfolding opaque fresh
  cell-is i l =
      rw (paint_is i l)
      (case (opaque cells i)
      (λ y. sym (repaint-opaque (at result.state.cells i) (at cells i) (clean-opaque rule symm passes (fresh rule cells) full i ∙ y)))
      (λ z. let t = clean_clear rule symm passes (fresh rule cells) full i z in
      let u : non_neg (at result.state.cells i) ≡ false = clean-opaque rule symm passes (fresh rule cells) full i ∙ z in
      sym (ap (repaint (paint_of (at result.state.cells i))) (sym t) ∙ repaint_clear (at result.state.cells i) u)))

  pub stored-count : count ≡ result.count
  stored-count = cleaned.count ∙ alike.count

  pub stored-cells : (old : List ℤ) → filled n (λ i. repaint (plane n 0 b i) (at cells i)) old ≡ over result.state.cells old
  stored-cells old = over-filled n _ result.state.cells old (run_length rule symm passes (fresh rule cells) full ∙ e) cell-is

-- ---- as the code has it

-- the grid of a sheet, with steps to all eight neighbours
abbrev grid_of : (h w : ℕ) → (h ≤ 514) × (w ≤ 514) → Grid
grid_of h w range = record { h = h; w = w; near = Eight; range = range }

-- what its cleaning goes by
abbrev criteria : ℕ → ℕ → Float → Criteria
criteria k limit reach = record { k = k; limit = limit; max_delta = reach }

-- the rule of the planes is the rule on a sheet
rule-is : (h w limit : ℕ) (range : (h ≤ 514) × (w ≤ 514)) (palette : List Float) (k : ℕ) (region : ℤ) (reach : Float) → pos limit ≡ region → rule_of (grid_of h w range) (criteria k limit reach) palette ≡ rule_on (h * w) w (palette_of palette k) (limits_at region reach)
unfolding rule_of rule_on entry_distance colour neighbours
rule-is h w limit range palette k region reach e = rw e

below_two : (z : ℤ) → le_z (pos 2) z ≡ false → lt_z z (pos 2) ≡ true
below_two (pos i) e = let l = no_leb {m = 2} {n = i} e in yes_leb {m = suc i} {n = 2} (omega arith)
below_two (negsuc i) e = refl

pub not_negative_lem : (z : ℤ) → le_z (pos 2) z ≡ true → T (non_neg z)
not_negative_lem (pos i) e = tt
not_negative_lem (negsuc i) e = clash e refl

paint_below : (k : ℕ) (z : ℤ) → le_z (pos k) z ≡ false → paint_of z ≤ k
unfolding paint_of
paint_below k (pos i) e = let l = no_leb {m = k} {n = i} e in omega arith
paint_below k (negsuc i) e = zero-le

-- the sheet at the front of a list
front : (cells : List ℤ) (h w : ℕ) → h * w ≤ length cells → length (take (h * w) cells) ≡ h * w
front cells h w l = length-take-le (h * w) cells l

module _ {cells : List ℤ} {h w : ℕ} {palette : List Float} {k : ℕ} {region : ℤ} {work : ℕ} (fit : Fit cells h w palette k region work) where
  -- once regions can be small, the planes that the sheet is loaded to have indices below k
  pub loaded_known : le_z (pos 2) region ≡ true → (a : List ℕ) → Painted (take (h * w) cells) (h * w) a → Indexed (h * w) k a
  unfolding bad_index sheet_of area
  loaded_known small a painted = record {
    few = fit.entries;
    below = λ p l. rw (painted.paint p l) (paint_below k (at (take (h * w) cells) p)
        (any_no (h * w) (λ q. le_z (pos k) (at (take (h * w) cells) q)) (rw small at fit.known) p l));
  }

  module _ (passes : ℕ) (reach : Float) where
    abbrev rule : Rule
    rule = rule_on (h * w) w (palette_of palette k) (limits_at region reach)

    abbrev cleaned_to : CleanedSheet
    cleaned_to = clean_sheet passes (palette_of palette k) (limits_at region reach) (sheet_of cells h w)

    -- no region can be small
    pub none_cleaned : le_z (pos 2) region ≡ false → (0 ≡ cleaned_to.passes) × (cells ≡ over cleaned_to.sheet.cells cells)
    unfolding clean_sheet rule_for rule_on sheet_of area over fresh
    none_cleaned none =
        let t = limit_one rule (eight_symmetric w) (below_two region none) (take (h * w) cells) (front cells h w fit.reads) passes in (
          ap (λ (c : Cleaned). c.count) (sym t),
          whole ∙ ap (λ (c : Cleaned). over c.state.cells cells) (sym t),
        )
      where
        whole : cells ≡ take (h * w) cells ++ drop (length (take (h * w) cells)) cells
        whole = sym (ap (λ (m : ℕ). take (h * w) cells ++ drop m cells) (front cells h w fit.reads) ∙ take-append-drop (h * w) cells)

    -- the sheet was loaded to the planes a, cleaned to b and stored
    pub all_cleaned : (range : (h ≤ 514) × (w ≤ 514)) (limit : ℕ) → pos limit ≡ region → (a b : List ℕ) (count : ℕ) → Painted (take (h * w) cells) (h * w) a →
        CleanedTo (clean (rule_of (grid_of h w range) (criteria k limit reach) palette) passes (fresh (rule_of (grid_of h w range) (criteria k limit reach) palette) (cells_of (h * w) a))) (h * w) k a b count →
        (count ≡ cleaned_to.passes) × (filled (h * w) (λ i. repaint (plane (h * w) 0 b i) (at cells i)) cells ≡ over cleaned_to.sheet.cells cells)
    unfolding clean_sheet rule_for rule_on sheet_of area filled at
    all_cleaned range limit e a b count painted u =
        let v : CleanedTo (clean rule passes (fresh rule (cells_of (h * w) a))) (h * w) k a b count =
        subst (λ (r : Rule). CleanedTo (clean r passes (fresh r (cells_of (h * w) a))) (h * w) k a b count) (rule-is h w limit range palette k region reach e) u in (
          stored-count rule (eight_symmetric w) (h * w) k passes refl (take (h * w) cells) a b count painted v,
          ap (λ (l : List ℤ). l ++ drop (h * w) cells)
              (table_same (h * w) _ _ (negsuc 0) (λ i l. ap (repaint (plane (h * w) 0 b i)) (sym (get_or-take (h * w) cells i (negsuc 0) l))))
              ∙ stored-cells rule (eight_symmetric w) (h * w) k passes refl (take (h * w) cells) a b count painted v cells,
        )
