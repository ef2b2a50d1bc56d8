-- After a pass the next may begin. Assumes nothing.
use Prim.Native.Nat.{ℕ, ◌-◌, ◌≤◌, ◌<◌}
use mathlib.Core.Path.{◌≡◌, refl, sym, ap, ◌∙◌}
use mathlib.Core.Logic.{◌⊎◌, inl, inr, ⊎_elim}
use mathlib.Core.Bool.{Bool, true, false, not, ◌&&◌, ◌||◌}
use mathlib.Core.List.{List}
use native.Mathlib.Decide.{ℕ_discrete}
use native.Mathlib.Omega.{arith}
use lib.Dec.{eqb, ltb}
use lib.IntN.{ℤ}
use Rattle.base.proofs.Counting.{clash, left, right, not_true, or_left, or_right}
use Rattle.rules.specs.Regions.{opaque, Symmetric}
use Rattle.rules.specs.Pass.{Rule, State, marked, small, large, Verdict, stay, merge, freeze, merges, freezes, fates, fate, pass, repaints}
use Rattle.rules.proofs.Roots.{opaque-below}
use Rattle.rules.proofs.Passes.{large-opaque, small-opaque, large_stays, repainted_large, fate-at, frozen_at}
use Rattle.rules.proofs.Groups.{Ready, ready_next}
use Rattle.grid.specs.declared.Grid.{Grid}
use Rattle.grid.specs.Planes.{plane, cells_of}
use Rattle.verdicts.specs.Steps.{area_of}
use Rattle.verdicts.specs.Judging.{state_of, fate_number, Indexed, large_of, Sound}
use Rattle.grid.proofs.Planes.{index_is}
use Rattle.frontier.specs.Judging.{Numbered, Stage}
use Rattle.verdicts.specs.Groups.{GroupedSheet}
use Rattle.verdicts.proofs.Keeping.{Alike, group-alike}
use Rattle.frontier.proofs.Stages.{frozen_is, big_some}
use Rattle.frontier.proofs.Starts.{in_rule, of_rule, stage_ready}
use Rattle.orphans.specs.Passing.{BetweenPasses, AtFrontier}
use Rattle.orphans.proofs.Parts.{AllJudged, TargetsTaken, GrownTo}
use Rattle.orphans.proofs.Applying.{passed_cells, passed_frozen, passed_state, passed_known}

-- a verdict with a number is one or the other
number_some : (f : Verdict) → (fate_number f ≡ 0 → ⊥) → (merges f ≡ true) ⊎ (freezes f ≡ true)
unfolding fate_number merges freezes
number_some stay z = absurd (z refl)
number_some (merge c d) z = inl refl
number_some (freeze c d) z = inr refl

number_none : (f : Verdict) → fate_number f ≡ 0 → freezes f ≡ false
unfolding fate_number freezes
number_none stay e = refl
number_none (merge c d) e = refl
number_none (freeze c d) e = absurd (omega arith)

module _ {rule : Rule} {grid : Grid} {k end mid last : ℕ} {a b d : List ℕ} (rest : BetweenPasses rule grid k end a)
    (u : AllJudged rule grid k end mid a b) (v : TargetsTaken (area_of grid) end mid b d) (g : GrownTo rule (area_of grid) end last a b d) where
  abbrev n : ℕ
  n = area_of grid

  abbrev symm : Symmetric rule.adj
  symm = rest.stage.ruled.symm

  abbrev told : Numbered rule (state_of n a) (plane n 1 a) (plane n 6 a)
  told = rest.told

  abbrev s : State
  s = state_of n a

  abbrev s' : State
  s' = pass rule s

  abbrev f : ℕ → Verdict
  f x = fate (fates rule s) x

  abbrev num : List ℕ → ℕ → ℕ
  num work x = plane n 6 work (plane n 1 a x - 1)

  ready : Ready rule s (plane n 1 a) (large_of n a) (large rule (cells_of n a))
  ready = stage_ready rest.stage

  -- what the next pass goes by
  abbrev grew : ℕ → Bool
  grew x = large_of n d x && not (large_of n a x) && ltb x rule.places

  ready' : Ready rule s' (plane n 1 a) (large_of n d) grew
  ready' = ready_next rule symm s (plane n 1 a) ready.grouped (large_of n a) (large rule (cells_of n a)) (large_of n d) ready g.grown

  cells_are : cells_of n d ≡ s'.cells
  cells_are = passed_cells rest.stage u v

  state_is : state_of n d ≡ s'
  state_is = passed_state rest.stage u v

  frozen_still : (x : ℕ) → marked (state_of n d).frozen x ≡ marked s'.frozen x
  frozen_still x = ap (λ (l : List Bool). marked l x) (passed_frozen rest.stage u v)

  label-d : (x : ℕ) → x < n → plane n 1 d x ≡ plane n 1 a x
  label-d x l = g.same 1 x (omega arith) (omega arith) l ∙ u.judged.same 1 x (omega arith) l

  -- a label names a group
  in_use : (x : ℕ) → x < n → 0 < plane n 1 a x → plane n 1 a x - 1 < n
  in_use x l z = (u.judged.stage.sheet.groups x (plane n 1 a x - 1) l (u.judged.same 1 x (omega arith) l ∙ omega arith)).label

  -- ---- numbers

  told_thawed : (x : ℕ) → x < n → 0 < plane n 1 a x → num b x ≡ 0 → marked s'.frozen x ≡ false
  told_thawed x l z e =
      let was : num a x ≡ 0 = ⊎_elim (λ i. sym i ∙ e) (λ i. i.0) (u.judged.judging.each x (in_rule rest.stage x l) z) in
      let c : fate_number (f x) ≡ 0 = u.fates x l z ∙ rw (was, e) in
      frozen_at rule symm s ready.grouped.size x (in_rule rest.stage x l)
      ∙ ap (λ (y : Verdict). freezes y || marked s.frozen x) (sym (fate-at rule symm s ready.grouped.size x (in_rule rest.stage x l)))
      ∙ rw (number_none (f x) c) (told.thawed x (in_rule rest.stage x l) z was)

  froze : (x : ℕ) → x < n → (freezes (f x) ≡ true) ⊎ (marked s.frozen x ≡ true) → marked s'.frozen x ≡ true
  froze x l y =
      frozen_at rule symm s ready.grouped.size x (in_rule rest.stage x l)
      ∙ ap (λ (y : Verdict). freezes y || marked s.frozen x) (sym (fate-at rule symm s ready.grouped.size x (in_rule rest.stage x l)))
      ∙ ⊎_elim (or_left (marked s.frozen x)) (or_right (freezes (f x))) y

  told-done : (x : ℕ) → x < n → 0 < plane n 1 a x → (num b x ≡ 0 → ⊥) → (marked s'.frozen x ≡ true) ⊎ (large rule s'.cells x ≡ true)
  unfolding repaints
  told-done x l z e =
      elim (ℕ_discrete (num a x) 0) [
        | yes was ↦ (let c : fate_number (f x) ≡ num b x = u.fates x l z ∙ rw was in
            ⊎_elim (λ y. inr (repainted_large rule symm s ready.grouped.size x y)) (λ y. inl (froze x l (inl y))) (number_some (f x) (λ o. e (sym c ∙ o))))
        | no was ↦ ⊎_elim (λ y. inl (froze x l (inr y))) (λ y. inr (large_stays rule symm s ready.grouped.size x y)) (told.done x (in_rule rest.stage x l) z was)
      ]

  num-d : (x : ℕ) → x < n → 0 < plane n 1 a x → plane n 6 d (plane n 1 d x - 1) ≡ num b x
  num-d x l z = ap (λ (y : ℕ). plane n 6 d (y - 1)) (label-d x l) ∙ g.numbers (plane n 1 a x - 1) (in_use x l z)

  told' : Numbered rule (state_of n d) (plane n 1 d) (plane n 6 d)
  told' = record {
    thawed = λ x b z e. let l = of_rule rest.stage x b in let z' : 0 < plane n 1 a x = rw (← (label-d x l)) z in frozen_still x ∙ told_thawed x l z' (sym (num-d x l z') ∙ e);
    done = λ x b z e. let l = of_rule rest.stage x b in
        let z' : 0 < plane n 1 a x = rw (← (label-d x l)) z in
        ⊎_elim (λ y. inl (frozen_still x ∙ y)) (λ y. inr (ap (λ (c : State). large rule c.cells x) state_is ∙ y)) (told-done x l z' (λ o. e (num-d x l z' ∙ o)));
  }

  -- ---- the planes

  alike : Alike n b d
  alike = record { label = λ q l. g.same 1 q (omega arith) (omega arith) l; order = λ q l. g.same 2 q (omega arith) (omega arith) l; ends = λ q l. g.same 3 q (omega arith) (omega arith) l }

  known' : Indexed n k d
  known' = passed_known rest.stage u v

  shown' : (x : ℕ) → x < n → opaque s'.cells x ≡ true → 1 ≤ plane n 0 d x
  shown' x l o = let e = index_is n d x l (ap (λ (c : List ℤ). opaque c x) cells_are ∙ o) in omega arith

  sheet' : GroupedSheet grid d
  sheet' =
      let old = u.judged.stage.sheet in
      record {
        rows = old.rows;
        cols = old.cols;
        room = rw v.len old.room;
        paint = λ q l. omega (arith, known'.below q l, known'.few);
        shown = λ q l z. shown' q l ((ready'.grouped.shown q (in_rule rest.stage q l)).1 (let e = label-d q l in omega arith));
        large = λ q l z. shown' q l (large-opaque rule symm s'.cells ready'.grouped.size q (sym (ready'.flags q (in_rule rest.stage q l)) ∙ big_some n d q z));
        groups = λ q t l e. group-alike alike t (old.groups q t l (sym (g.same 1 q (omega arith) (omega arith) l) ∙ e));
      }

  small_in : (x : ℕ) → small rule s'.cells x ≡ true → x < n
  small_in x y = of_rule rest.stage x (opaque-below rule.places rule.adj s'.cells ready'.grouped.size x (small-opaque rule symm s'.cells ready'.grouped.size x y))

  sound' : Sound rule n d
  sound' = record {
    region = λ x y z l. let z' : small rule s'.cells x ≡ true = rw cells_are at z in
        let lx = small_in x z' in
        let q = ready'.grouped.region x y z' (in_rule rest.stage y l) in (
          (λ j. label-d x lx ∙ q.0 (rw cells_are at j) ∙ sym (label-d y l)),
          (λ e. rw cells_are (q.1 (sym (label-d x lx) ∙ e ∙ label-d y l))),
        );
    shown = λ x l. let q = ready'.grouped.shown x (in_rule rest.stage x l) in ((λ o. rw (label-d x l) (q.0 (rw cells_are at o))), (λ m. rw cells_are (q.1 (rw (label-d x l) at m))));
    frozen = λ x y lx ly z e. frozen_still x ∙ ready'.grouped.frozen x y (in_rule rest.stage x lx) (in_rule rest.stage y ly) (rw (label-d x lx) at z) (sym (label-d x lx) ∙ e ∙ label-d y ly) ∙ sym (frozen_still y);
    flags = λ x l. ready'.flags x (in_rule rest.stage x l) ∙ ap (λ (c : List ℤ). large rule c x) (sym cells_are);
    thawed = λ x t l e z y. let lt = (sheet'.groups x t l e).label in
        let i : plane n 1 a x - 1 ≡ t = omega (arith, label-d x l) in
        clash y (frozen_still x ∙ told_thawed x l (omega (arith, label-d x l)) (ap (plane n 6 b) i ∙ sym (g.numbers t lt) ∙ z));
    clear = λ x l e. frozen_is n d x l ∙ ap (λ (y : ℕ). not (eqb y 0)) (v.frozen x l) ∙ sym (frozen_is n b x l)
        ∙ u.judged.stage.sound.clear x l (sym (g.same 1 x (omega arith) (omega arith) l) ∙ e);
  }

  stage' : Stage rule grid k last d
  stage' = record {
    ruled = rest.stage.ruled;
    sheet = sheet';
    known = known';
    sound = sound';
    unmarked = g.unmarked;
    room = g.room;
  }

  -- the next pass goes by what grew
  pub at_frontier : AtFrontier rule grid k end last d
  at_frontier = record {
    planes = record { stage = stage'; told = told'; taken = g.taken };
    front = grew;
    fronted = rw state_is ready'.fronted;
    listed = λ q l e. let y = left (large_of n d q && not (large_of n a q)) (ltb q rule.places) e in
        let i = g.logged.all q l (left (large_of n d q) (not (large_of n a q)) y) (not_true (right (large_of n d q) (not (large_of n a q)) y)) in
        (i.0, i.1, i.2, label-d q l ∙ i.3);
    groups = λ i lo hi. let x = g.logged.named i lo hi in sheet'.groups x.0 (plane n 7 d i) x.1 (label-d x.0 x.1 ∙ x.2);
  }
