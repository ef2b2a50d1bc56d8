-- From labels to the first pass. Assumes nothing.
use Prim.Native.Nat.{ℕ, suc, ◌+◌, ◌-◌, ◌*◌, ◌≤◌, ◌<◌}
use mathlib.Core.Path.{◌≡◌, refl, sym, ap, ◌∙◌}
use mathlib.Core.Logic.{inl, inr, ⊎_elim}
use mathlib.Core.Bool.{Bool, true, false, not, cond}
use mathlib.Core.List.{List}
use native.Mathlib.Nat.{mul-le-mul_right, suc-mul}
use native.Mathlib.Omega.{arith}
use borrow.Author.Tests.{ne_eqb}
use lib.Dec.{eqb, ltb}
use lib.Ieee.{Float}
use lib.IntN.{ℤ}
use lib.ListN.{length, get_or}
use Rattle.base.specs.Places.{any}
use Rattle.base.proofs.Counting.{case, clash, both, left, right, not_true, not_false, yes_eqb, leb_yes, yes_leb, no_leb, any_no, count_le, table-length}
use Rattle.rules.specs.Regions.{opaque, roots, label, Symmetric}
use Rattle.rules.specs.Masks as masks
use Rattle.rules.specs.Pass.{Rule, marked, small, large, fresh}
use Rattle.rules.proofs.Roots.{opaque-below}
use Rattle.rules.proofs.Passes.{small-opaque, not_both}
use Rattle.rules.proofs.Frontier.{still_moves, still_pass}
use Rattle.rules.proofs.Groups.{grouped_start}
use Rattle.grid.specs.declared.Grid.{Grid}
use Rattle.grid.specs.Planes.{plane, cells_of, end_of, Labelled}
use Rattle.grid.proofs.Planes.{index_is, cells-size, cells_kept}
use Rattle.labels.specs.Filling as Filling
use Rattle.labels.specs.Filling.{Sized}
use Rattle.labels.specs.declared.Tally.{Tally}
use Rattle.verdicts.specs.declared.Criteria.{Criteria}
use Rattle.verdicts.specs.Steps.{area_of, adjoins}
use Rattle.verdicts.specs.Groups.{Group, GroupedSheet}
use Rattle.verdicts.specs.Judging.{rule_of, state_of, Indexed, large_of, Sound}
use Rattle.frontier.specs.Judging.{Numbered, idle, OnGrid, Stage}
use Rattle.frontier.specs.Growing.{Enlarged}
use Rattle.frontier.proofs.Stages.{frozen_is}
use Rattle.orphans.specs.Starting.{LabelledSheet, size_of, in_large, AtStart}
use Rattle.orphans.specs.Passing.{Wiped, PassDone, BetweenPasses}
use Rattle.orphans.proofs.Cleaning.{Unfrozen, wiped_unfrozen, unfrozen_known}
use Rattle.orphans.proofs.LabelledSheets.{Kept, symmetric, sheet-few, label-below, label_some, label-shown, sheet-group, sheet-large, sheet_kept, regions_kept, large_kept}

-- ---- the planes before the first pass are a stage

flag_some : (b : Bool) → not (eqb (cond b 1 0) 0) ≡ b
flag_some true = refl
flag_some false = refl

flag_le : (b : Bool) → cond b 1 0 ≤ 1
flag_le true = omega arith
flag_le false = omega arith

module _ {grid : Grid} {by : Criteria} (palette : List Float) {a : List ℕ} {count : ℕ} (u : AtStart grid by a count) where
  abbrev n : ℕ
  n = area_of grid

  abbrev adj : ℕ → ℕ → Bool
  adj = adjoins grid

  abbrev cells : List ℤ
  cells = cells_of n a

  abbrev rule : Rule
  rule = rule_of grid by palette

  abbrev d : LabelledSheet grid a
  d = u.sheet

  rule-on : OnGrid rule grid
  unfolding rule_of
  rule-on = record { size = refl; ways = λ p q. refl; symm = symmetric d }

  rule-size : length cells ≡ rule.places
  unfolding rule_of
  rule-size = cells-size n a

  -- a label in use is that of a region
  in_use : (x t : ℕ) → x < n → plane n 1 a x ≡ suc t → t < count
  in_use x t l e = omega (arith, label-below d x l, u.full)

  -- each of the regions is a group: what `judge_all` asks
  pub groups_at-start : (t : ℕ) → t < count → Group n a t
  groups_at-start t l = sheet-group d t (omega (arith, u.full))

  label_is : (x : ℕ) → x < n → plane n 1 a x ≡ label cells (roots n adj cells) x
  unfolding masks.label_at
  label_is x l = d.labelled.labels x l

  flags_are : (x : ℕ) → x < n → large_of n a x ≡ large rule cells x
  unfolding large_of
  flags_are x l = ap (λ (v : ℕ). not (eqb v 0)) (u.flags x l) ∙ flag_some (in_large n by.limit a x) ∙ sheet-large d by palette x l

  none_frozen : (x : ℕ) → x < n → marked (state_of n a).frozen x ≡ false
  none_frozen x l = frozen_is n a x l ∙ rw (u.thawed x l)

  grouped : GroupedSheet grid a
  unfolding in_large
  grouped = record {
    rows = d.rows;
    cols = d.cols;
    room = d.room;
    paint = d.paint;
    shown = λ q l z. let e = index_is n a q l (label-shown d q l (omega arith)) in omega arith;
    large = λ q l z. let e = index_is n a q l (label-shown d q l (labelled-large q l z)) in omega arith;
    groups = λ q t l e. groups_at-start t (in_use q t l e);
  }
    where
      labelled-large : (q : ℕ) → q < n → (plane n 5 a q ≡ 0 → ⊥) → 0 < plane n 1 a q
      labelled-large q l z =
          case (in_large n by.limit a q)
          (λ y. let o : plane n 1 a q ≡ 0 → ⊥ = (λ i. clash (yes_eqb {m = plane n 1 a q} {n = 0} i) (not_true (left (not (eqb (plane n 1 a q) 0)) _ y))) in omega arith)
          (λ y. absurd (z (u.flags q l ∙ rw y)))

  sound : Sound rule n a
  unfolding rule_of fresh
  sound = record {
    region = λ x y s l. let lx = opaque-below n adj cells (cells-size n a) x (small-opaque rule rule-on.symm cells rule-size x s) in
        let g = (grouped_start rule rule-on.symm cells rule-size).region x y s l in (
          (λ j. label_is x lx ∙ g.0 j ∙ sym (label_is y l)),
          (λ e. g.1 (sym (label_is x lx) ∙ e ∙ label_is y l)),
        );
    shown = λ x l. (label_some d x, label-shown d x l);
    frozen = λ x y lx ly z e. none_frozen x lx ∙ sym (none_frozen y ly);
    flags = flags_are;
    thawed = λ x t l e z y. clash y (none_frozen x l);
    clear = λ x l e. none_frozen x l;
  }

  pub start_stage : Stage rule grid by.k 0 a
  start_stage = record {
    ruled = rule-on;
    sheet = grouped;
    known = u.known;
    sound = sound;
    unmarked = λ t lt z q l e. let m = flag_le (in_large n by.limit a q) in let f = u.flags q l in omega arith;
    room = omega (arith, count_le n (idle n a));
  }

  -- no region has a number
  pub start-told : Numbered rule (state_of n a) (plane n 1 a) (plane n 6 a)
  unfolding rule_of
  start-told = record {
    thawed = λ x l z e. none_frozen x l;
    done = λ x l z e. absurd (e (u.blank (plane n 1 a x - 1) (in_use x (plane n 1 a x - 1) l (omega arith))));
  }

  pub start_between : BetweenPasses rule grid by.k 0 a
  start_between = record {
    stage = start_stage;
    told = start-told;
    taken = λ x t l e two. absurd (let z = u.blank t (in_use x t l e) in omega arith);
  }

-- ---- from labels to those planes

low : (n j q : ℕ) → j < 5 → q < n → j * n + q < 5 * n
low n j q l h = omega (arith, mul-le-mul_right n l, suc-mul j n)

-- the planes were a, and are c with no place frozen and `regions` regions labelled
pub record Labelling (grid : Grid) (by : Criteria) (a c : List ℕ) (regions : ℕ) : Type 0 where
  pub sheet : LabelledSheet grid c
  pub full : sheet.regions ≡ regions
  pub known : Indexed (area_of grid) by.k a
  pub unfrozen : Unfrozen (area_of grid) a c

-- so they are once plane 4 is wiped, which leaves b, and the regions are labelled
pub labelling : {grid : Grid} {by : Criteria} {a b c : List ℕ} → Sized grid.h grid.w a → Indexed (area_of grid) by.k a → (t : Tally) → Wiped (4 * (area_of grid)) (area_of grid) a b →
    Labelled (adjoins grid) (cells_of (area_of grid) b) (area_of grid) c t.regions t.taken → Filling.PlanesKept (area_of grid) b c → Labelling grid by a c t.regions
labelling {grid} {b = b} {c = c} sized known t wiped lab kept =
    let w = wiped_unfrozen wiped in
    let paint : (q : ℕ) → q < area_of grid → _ = (λ q l. kept.others 0 q (inl refl) l ∙ w.paint q l) in
    record {
      sheet = record {
        rows = sized.rows;
        cols = sized.cols;
        room = rw (kept.size, w.len) sized.planes;
        paint = λ q l. let z = paint q l in omega (arith, known.below q l, known.few);
        regions = t.regions;
        taken = t.taken;
        labelled = rw (cells_kept (area_of grid) c b (λ q l. kept.others 0 q (inl refl) l)) lab;
      };
      full = refl;
      known = known;
      unfrozen = record { len = kept.size ∙ w.len; paint = paint; thawed = λ q l. kept.others 4 q (inr (omega arith)) l ∙ w.thawed q l };
    }

module _ {grid : Grid} {by : Criteria} {a c : List ℕ} {regions : ℕ} (u : Labelling grid by a c regions) where
  abbrev k : ℕ
  k = by.k

  abbrev limit : ℕ
  limit = by.limit

  -- each of the regions is a group: what `any_small` asks
  pub labelled_groups : (l : ℕ) → l < regions → Group (area_of grid) c l
  labelled_groups l z = sheet-group u.sheet l (omega (arith, u.full))

  pub labelled-few : regions ≤ area_of grid
  labelled-few = omega (arith, sheet-few u.sheet, u.full)

  -- ---- no region is small: a pass changes nothing

  module _ (palette : List Float) (none : any regions (λ l. ltb (size_of (area_of grid) c (suc l)) limit) ≡ false) where
    abbrev ruled : Rule
    ruled = rule_of grid by palette

    symm : Symmetric ruled.adj
    unfolding rule_of
    symm = symmetric u.sheet

    all_large : (q : ℕ) → q < area_of grid → opaque (cells_of (area_of grid) c) q ≡ true → large ruled (cells_of (area_of grid) c) q ≡ true
    unfolding in_large
    all_large q l o =
        let z = label_some u.sheet q o in
        let i : ℕ = plane (area_of grid) 1 c q - 1 in
        let e : plane (area_of grid) 1 c q ≡ suc i = omega arith in
        let m = no_leb {m = suc (size_of (area_of grid) c (suc i))} {n = limit} (any_no regions (λ l. ltb (size_of (area_of grid) c (suc l)) limit) none i (omega (arith, label-below u.sheet q l, u.full))) in
        let m' : limit ≤ size_of (area_of grid) c (plane (area_of grid) 1 c q) = rw e (omega arith) in
        sym (sheet-large u.sheet by palette q l)
        ∙ both (not_false (ne_eqb (plane (area_of grid) 1 c q) 0 (λ y. omega arith))) (yes_leb m')

    none_small : (q : ℕ) → small ruled (cells_of (area_of grid) c) q ≡ false
    unfolding rule_of
    none_small q =
        case (small ruled (cells_of (area_of grid) c) q)
        (λ y. let o = small-opaque ruled symm (cells_of (area_of grid) c) (cells-size (area_of grid) c) q y in
        not_both ruled symm (cells_of (area_of grid) c) (cells-size (area_of grid) c) q y (all_large q (opaque-below (area_of grid) (adjoins grid) (cells_of (area_of grid) c) (cells-size (area_of grid) c) q o) o))
        (λ z. z)

    pub passed_still : PassDone ruled (area_of grid) k c c false
    unfolding rule_of state_of
    passed_still = record {
      len = refl;
      state = sym (still_pass ruled symm (state_of (area_of grid) c) (cells-size (area_of grid) c) none_small (table-length (area_of grid) _));
      moves = sym (still_moves ruled symm (state_of (area_of grid) c) (cells-size (area_of grid) c) none_small);
      known = unfrozen_known u.unfrozen u.known;
    }

  -- ---- else: e with plane 5 and the numbers of the regions wiped

  module _ {e : List ℕ} (wiped : Wiped (5 * (area_of grid)) (area_of grid + regions) c e) where
    since_c : Kept (area_of grid) c e
    unfolding plane
    since_c = record { len = wiped.len; same = λ j q l z. wiped.others (j * (area_of grid) + q) (inl (low (area_of grid) j q l z)) }

    sheet-e : LabelledSheet grid e
    sheet-e = sheet_kept u.sheet since_c

    full_e : sheet-e.regions ≡ regions
    unfolding sheet-e
    full_e = regions_kept u.sheet since_c ∙ u.full

    -- each of the regions is a group: what `mark_large` asks
    pub start_groups : (l : ℕ) → l < regions → Group (area_of grid) e l
    start_groups l z = sheet-group sheet-e l (omega (arith, full_e))

    none_e : (q : ℕ) → q < area_of grid → plane (area_of grid) 5 e q ≡ 0
    unfolding plane
    none_e q l = wiped.zeros q (omega arith)

    -- f with the large regions told
    module _ {f : List ℕ} (started : Enlarged (area_of grid) (λ l. (l < regions) × (limit ≤ end_of (area_of grid) e (suc l) - end_of (area_of grid) e l)) e f) where
      since_e : Kept (area_of grid) e f
      since_e = record { len = started.kept.len; same = λ j q l z. started.kept.same j q (λ y. absurd (omega arith)) z }

      pub start_unfrozen : Unfrozen (area_of grid) a f
      start_unfrozen = record {
        len = started.kept.len ∙ wiped.len ∙ u.unfrozen.len;
        paint = λ q l. since_e.same 0 q (omega arith) l ∙ since_c.same 0 q (omega arith) l ∙ u.unfrozen.paint q l;
        thawed = λ q l. since_e.same 4 q (omega arith) l ∙ since_c.same 4 q (omega arith) l ∙ u.unfrozen.thawed q l;
      }

      flags_f : (q : ℕ) → q < area_of grid → plane (area_of grid) 5 f q ≡ cond (in_large (area_of grid) limit e q) 1 0
      unfolding in_large size_of
      flags_f q l =
          case (in_large (area_of grid) limit e q)
          (λ y. let z = left (not (eqb (plane (area_of grid) 1 e q) 0)) _ y in
          let o : plane (area_of grid) 1 e q ≡ 0 → ⊥ = (λ i. clash (yes_eqb {m = plane (area_of grid) 1 e q} {n = 0} i) (not_true z)) in
          let at : ℕ = plane (area_of grid) 1 e q - 1 in
          let i : plane (area_of grid) 1 e q ≡ suc at = omega arith in
          let j = ap (end_of (area_of grid) e) i in
          let s : limit ≤ end_of (area_of grid) e (plane (area_of grid) 1 e q) - end_of (area_of grid) e at = leb_yes (right (not (eqb (plane (area_of grid) 1 e q) 0)) _ y) in
          rw y (started.new q at l i (omega (arith, label-below sheet-e q l, full_e), omega arith)))
          (λ y. rw y (⊎_elim (λ i. i ∙ none_e q l)
          (λ i. clash (both (not_false (ne_eqb (plane (area_of grid) 1 e q) 0 (λ o. let z : suc i.0 ≡ 0 = sym i.1 ∙ o in omega arith)))
          (yes_leb {m = limit} {n = end_of (area_of grid) e (plane (area_of grid) 1 e q) - end_of (area_of grid) e (plane (area_of grid) 1 e q - 1)} (let j : plane (area_of grid) 1 e q - 1 ≡ i.0 = omega (arith, i.1) in rw (j, i.1) i.2.1))) y)
          (started.each q l)))

      pub at-start : AtStart grid by f regions
      unfolding plane
      at-start = record {
        sheet = sheet_kept sheet-e since_e;
        full = sym (regions_kept sheet-e since_e ∙ full_e);
        known = unfrozen_known start_unfrozen u.known;
        flags = λ q l. flags_f q l ∙ ap (λ (y : Bool). cond y 1 0) (sym (large_kept sheet-e since_e limit q l));
        thawed = start_unfrozen.thawed;
        blank = λ l z. started.kept.same 6 l (λ y. absurd (omega arith)) (start_groups l z).label ∙ ap (λ (i : ℕ). get_or e i 0) (omega arith) ∙ wiped.zeros (1 * (area_of grid) + l) (omega arith);
      }
