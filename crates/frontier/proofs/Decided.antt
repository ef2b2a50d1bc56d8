-- Repainting the logged groups leaves the planes as absorbing needs them. Assumes nothing.
use Prim.Native.Nat.{ℕ, suc, ◌≤◌, ◌<◌}
use mathlib.Core.Path.{◌≡◌, sym, ◌∙◌}
use mathlib.Core.Logic.{inl, inr, ⊎_elim}
use mathlib.Core.Bool.{true}
use mathlib.Core.List.{List}
use native.Mathlib.Omega.{arith}
use Rattle.base.proofs.Counting.{count_mono}
use Rattle.grid.specs.declared.Grid.{Grid}
use Rattle.grid.specs.Planes.{plane}
use Rattle.verdicts.specs.Steps.{area_of}
use Rattle.verdicts.specs.Groups.{Group, GroupedSheet}
use Rattle.verdicts.specs.Judging.{large_of}
use Rattle.frontier.specs.Judging.{idle}
use Rattle.frontier.specs.Growing.{Listed, Repainted, Growth, Decided}
use Rattle.verdicts.proofs.Keeping.{group-alike, sheet_alike}
use Rattle.frontier.proofs.Repaints.{repainted_alike}
use Rattle.frontier.proofs.Idle.{idle_was}
use Rattle.frontier.proofs.Gains.{big_same, big_one}

module _ {grid : Grid} {from mid : ℕ} {a b : List ℕ} (d : Decided grid from mid a) (r : Repainted (area_of grid) (Listed (area_of grid) a from mid) a b) where
  abbrev n : ℕ
  n = area_of grid

  label : (x : ℕ) → x < n → plane n 1 b x ≡ plane n 1 a x
  label x l = (repainted_alike r).label x l

  -- a repainted place is large
  pub repainted_big : (x l : ℕ) → x < n → plane n 1 a x ≡ suc l → Listed n a from mid l → large_of n b x ≡ true
  repainted_big x l m e z = big_one n b x (r.large x l m e z)

  pub old_big : (x : ℕ) → x < n → large_of n a x ≡ true → large_of n b x ≡ true
  old_big x l y = ⊎_elim (λ z. big_same n a b x z.1 ∙ y) (λ z. repainted_big x z.0 l z.1 z.2) (r.each x l)

  pub whole_still : (x y : ℕ) → x < n → y < n → 0 < plane n 1 a x → plane n 1 a x ≡ plane n 1 a y → large_of n b x ≡ large_of n b y
  whole_still x y l m z e =
      ⊎_elim
      (λ i. ⊎_elim (λ j. big_same n a b x i.1 ∙ d.whole x y l m z e ∙ sym (big_same n a b y j.1))
      (λ j. repainted_big x j.0 l (e ∙ j.1) j.2 ∙ sym (repainted_big y j.0 m j.1 j.2)) (r.each y m))
      (λ i. repainted_big x i.0 l i.1 i.2 ∙ sym (repainted_big y i.0 m (sym e ∙ i.1) i.2))
      (r.each x l)

  -- the number of a group in use
  number : (x t : ℕ) → x < n → plane n 1 a x ≡ suc t → plane n 6 b t ≡ plane n 6 a t
  number x t l e = r.same 6 t (λ z. absurd (omega arith)) (λ z. absurd (omega arith)) (d.sheet.groups x t l e).label

  -- the log is as it was
  pub log_still : (i : ℕ) → i < mid → plane n 7 b i ≡ plane n 7 a i
  log_still i l = r.same 7 i (λ z. absurd (omega arith)) (λ z. absurd (omega arith)) (omega (arith, d.room))

  -- a repainted place's paint
  paint_new : (x l : ℕ) → x < n → plane n 1 a x ≡ suc l → Listed n a from mid l → (1 ≤ plane n 0 b x) × (plane n 0 b x ≤ 256)
  paint_new x l m e z =
      let p = r.paint x l m e z in
      let q : (2 ≤ plane n 6 a l) × (plane n 6 a l ≤ 257) = rw z.3 at (d.numbers z.0 z.1 z.2) in
      (omega (arith, q.0), omega (arith, q.1))

  sheet_still : GroupedSheet grid b
  sheet_still = sheet_alike d.sheet r.len (repainted_alike r) (λ x l. ⊎_elim (λ y. inl (y.0, (λ z e. z (y.1 ∙ e)))) (λ y. inr (paint_new x y.0 l y.1 y.2)) (r.each x l))

  -- absorbing may begin
  pub decided_growth : Growth grid mid b
  decided_growth = record {
    sheet = sheet_still;
    whole = λ x y l m z e. whole_still x y l m (rw (label x l) at z) (sym (label x l) ∙ e ∙ label y m);
    done = λ x t l e z. let e' : plane n 1 a x ≡ suc t = sym (label x l) ∙ e in
        ⊎_elim (old_big x l) (repainted_big x t l e') (d.done x t l e' (rw (number x t l e') at z));
    room = let q = count_mono n (idle n b) (idle n a) (λ x l. idle_was n a b x (label x l) (old_big x l) (λ t e z. rw (number x t l e) at z)) in omega (arith, d.room);
  }

  pub decided_groups : (i : ℕ) → from ≤ i → i < mid → Group n b (plane n 7 b i)
  decided_groups i l m = rw (log_still i m) (group-alike (repainted_alike r) (plane n 7 a i) (d.groups i l m))
