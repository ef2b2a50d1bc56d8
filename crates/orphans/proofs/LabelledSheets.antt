-- A labelled sheet: its regions are groups, and what the planes 0 to 4 tell stays while only the others are written. Assumes nothing.
use Prim.Native.Nat.{ℕ, zero, suc, ◌≤◌, ◌<◌}
use mathlib.Core.Path.{◌≡◌, refl, sym, ap, ◌∙◌}
use mathlib.Core.Bool.{Bool, true}
use mathlib.Core.List.{List}
use native.Mathlib.Omega.{arith}
use lib.Ieee.{Float}
use lib.IntN.{ℤ}
use lib.ListN.{length}
use Rattle.rules.specs.Regions.{opaque, root, Symmetric}
use Rattle.rules.specs.Pass.{few, is_large, large}
use Rattle.grid.specs.declared.Grid.{Grid}
use Rattle.grid.specs.Planes.{plane, cells_of, group_at, end_of, Labelled}
use Rattle.grid.proofs.Places.{neighbours_symmetric}
use Rattle.grid.proofs.Planes.{cells-size, cells_kept}
use Rattle.verdicts.specs.declared.Criteria.{Criteria}
use Rattle.verdicts.specs.Steps.{area_of, adjoins}
use Rattle.verdicts.specs.Groups.{Group}
use Rattle.verdicts.specs.Judging.{rule_of}
use Rattle.orphans.specs.Starting.{LabelledSheet, in_large}
use Rattle.orphans.proofs.Regions.{regions_le, labelled, shown, label_in, run_in, placed_at, not_empty, in_large-is}

-- the planes 0 to 4 are left as they were
pub record Kept (n : ℕ) (a b : List ℕ) : Type 0 where
  pub len : length b ≡ length a
  pub same : (j q : ℕ) → j < 5 → q < n → plane n j b q ≡ plane n j a q

-- ---- the regions

module _ (adj : ℕ → ℕ → Bool) (cells : List ℤ) (n : ℕ) (a : List ℕ) (regions taken : ℕ) (len : length cells ≡ n) (symm : Symmetric adj) (lab : Labelled adj cells n a regions taken) (b : List ℕ) (u : Kept n a b) where
  order_kept : (i : ℕ) → i < taken → plane n 2 b i ≡ plane n 2 a i
  order_kept i l = u.same 2 i (omega arith) (omega (arith, lab.room))

  group_kept : (i : ℕ) → i < taken → group_at n b i ≡ group_at n a i
  unfolding group_at
  group_kept i l = ap (plane n 1 b) (order_kept i l) ∙ u.same 1 (plane n 2 a i) (omega arith) (lab.placed i l).0

  end_kept : (k : ℕ) → k ≤ regions → end_of n b k ≡ end_of n a k
  unfolding end_of
  end_kept zero l = refl
  end_kept (suc k) l = u.same 3 k (omega arith) (omega (arith, regions_le n adj cells a regions taken len symm lab))

  lead_kept : (k : ℕ) → k < regions → plane n 2 b (end_of n b k) ≡ plane n 2 a (end_of n a k)
  lead_kept k l =
      let h = not_empty n adj cells a regions taken len symm lab k l in
      ap (plane n 2 b) (end_kept k (omega arith)) ∙ order_kept (end_of n a k) (omega (arith, lab.limits (suc k) l))

  labelled_kept : Labelled adj cells n b regions taken
  labelled_kept = record {
    labels = λ p h. u.same 1 p (omega arith) h ∙ lab.labels p h;
    count = lab.count;
    room = lab.room;
    placed = λ i l. (rw (order_kept i l) (lab.placed i l).0, rw (group_kept i l) (lab.placed i l).1);
    sorted = λ i j l h. rw (group_kept i (omega arith), group_kept j h) (lab.sorted i j l h);
    distinct = λ i j l h e. lab.distinct i j l h (sym (order_kept i (omega arith)) ∙ e ∙ order_kept j h);
    listed = λ p h z. let w = lab.listed p h (λ y. z (u.same 1 p (omega arith) h ∙ y)) in (w.0, w.1, order_kept w.0 w.1 ∙ w.2);
    limits = λ k l. rw (end_kept k l) (lab.limits k l);
    ends = λ k l i h. rw (group_kept i h, end_kept k l) (lab.ends k l i h);
    foremost = λ k l. rw (lead_kept k l) (lab.foremost k l);
  }

  in_large_kept : (limit q : ℕ) → q < n → in_large n limit b q ≡ in_large n limit a q
  in_large_kept limit q h =
      in_large-is n adj cells b regions taken len symm labelled_kept limit q h ∙ sym (in_large-is n adj cells a regions taken len symm lab limit q h)

-- ---- a labelled sheet

module _ {grid : Grid} {a : List ℕ} (sheet : LabelledSheet grid a) where
  abbrev n : ℕ
  n = area_of grid

  abbrev adj : ℕ → ℕ → Bool
  adj = adjoins grid

  abbrev cells : List ℤ
  cells = cells_of n a

  pub symmetric : Symmetric adj
  symmetric = neighbours_symmetric grid.near grid.w

  pub sheet-few : sheet.regions ≤ n
  sheet-few = regions_le n adj cells a sheet.regions sheet.taken (cells-size n a) symmetric sheet.labelled

  pub label-below : (q : ℕ) → q < n → plane n 1 a q ≤ sheet.regions
  label-below = label_in n adj cells a sheet.regions sheet.taken (cells-size n a) symmetric sheet.labelled

  pub label_some : (q : ℕ) → opaque cells q ≡ true → 1 ≤ plane n 1 a q
  label_some = labelled n adj cells a sheet.regions sheet.taken (cells-size n a) symmetric sheet.labelled

  pub label-shown : (q : ℕ) → q < n → 0 < plane n 1 a q → opaque cells q ≡ true
  label-shown q l z = shown n adj cells a sheet.regions sheet.taken (cells-size n a) symmetric sheet.labelled q l (λ e. omega arith)

  -- a region's places stand together
  pub sheet-group : (t : ℕ) → t < sheet.regions → Group n a t
  unfolding group_at
  sheet-group t l =
      let lab = sheet.labelled in
      record {
        label = omega (arith, sheet-few);
        some = not_empty n adj cells a sheet.regions sheet.taken (cells-size n a) symmetric lab t l;
        end = omega (arith, lab.limits (suc t) l, lab.room);
        places = λ i lo hi. let r = run_in n adj cells a sheet.regions sheet.taken (cells-size n a) symmetric lab t l i lo hi in ((lab.placed i r.0).0, r.1);
        all = placed_at n adj cells a sheet.regions sheet.taken (cells-size n a) symmetric lab t l;
      }

  -- a place lies in a large region exactly if its label's region has enough places
  pub sheet-large : (by : Criteria) (palette : List Float) (q : ℕ) → q < n → in_large n by.limit a q ≡ large (rule_of grid by palette) cells q
  unfolding rule_of large is_large few root
  sheet-large by palette = in_large-is n adj cells a sheet.regions sheet.taken (cells-size n a) symmetric sheet.labelled by.limit

  module _ {b : List ℕ} (u : Kept n a b) where
    pub sheet_kept : LabelledSheet grid b
    sheet_kept = record {
      rows = sheet.rows;
      cols = sheet.cols;
      room = rw u.len sheet.room;
      paint = λ q l. rw (u.same 0 q (omega arith) l) (sheet.paint q l);
      regions = sheet.regions;
      taken = sheet.taken;
      labelled = rw (cells_kept n b a (λ p l. u.same 0 p (omega arith) l)) (labelled_kept adj cells n a sheet.regions sheet.taken (cells-size n a) symmetric sheet.labelled b u);
    }

    pub regions_kept : sheet_kept.regions ≡ sheet.regions
    unfolding sheet_kept
    regions_kept = refl

    pub large_kept : (limit q : ℕ) → q < n → in_large n limit b q ≡ in_large n limit a q
    large_kept = in_large_kept adj cells n a sheet.regions sheet.taken (cells-size n a) symmetric sheet.labelled b u
