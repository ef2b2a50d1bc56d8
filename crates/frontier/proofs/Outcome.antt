-- The second half of a pass on the planes: once every fate is told, repainting and absorbing make large exactly what the pass makes large, and log it. Assumes nothing.
use Prim.Native.Nat.{ℕ, suc, ◌+◌, ◌-◌, ◌≤◌, ◌<◌}
use mathlib.Core.Path.{◌≡◌, refl, sym, ap, ◌∙◌}
use mathlib.Core.Logic.{inl, inr, ⊎_elim}
use mathlib.Core.Bool.{true, cond}
use mathlib.Core.List.{List}
use native.Mathlib.Decide.{ℕ_discrete}
use native.Mathlib.Omega.{arith}
use borrow.Author.Tests.{ne_eqb}
use lib.Dec.{eqb, leb}
use lib.IntN.{ℤ}
use lib.ListN.{length}
use Rattle.base.proofs.Counting.{case, clash, leb_yes, yes_leb}
use Rattle.rules.specs.Regions.{at, here, Symmetric}
use Rattle.rules.specs.Pass.{Rule, State, Verdict, stay, merge, freeze, large, painted, merges, fates, fate, pass, repaints}
use Rattle.rules.proofs.Roots.{opaque-below}
use Rattle.rules.proofs.Passes.{large-opaque, not_both, fate-at, cell-at, repainted, repaints-below, repainted_small, unpainted_kept}
use Rattle.rules.proofs.Groups.{takes, Grown}
use Rattle.grid.specs.declared.Grid.{Grid}
use Rattle.grid.specs.Planes.{plane, paint_of, cell_of, cells_of}
use Rattle.grid.proofs.Planes.{cells_at, cells_paint}
use Rattle.verdicts.specs.Steps.{area_of}
use Rattle.verdicts.specs.Judging.{state_of, fate_number, large_of}
use Rattle.frontier.specs.Judging.{Chosen, Stage, Met}
use Rattle.frontier.proofs.Growth.{merges-number, Growing, growing_start, absorbed_grows, growing_end}
use Rattle.frontier.specs.Growing.{Logged, Listed, LargeAsWhole, MatchesLogged, Repainted, Gained, Decided, Grew}
use Rattle.frontier.proofs.Starts.{in_rule, of_rule, stage_ready}
use Rattle.frontier.proofs.Repaints.{repainted_alike}
use Rattle.frontier.proofs.Gains.{big_same, logged_trans, gained_old, gained_alike}
use Rattle.frontier.proofs.Decided.{repainted_big, old_big, whole_still, log_still}

-- the paint of a cell that is repainted, by the number of its fate
painted-number : (v : Verdict) (z : ℤ) → merges v ≡ true → (painted v z ≡ cell_of (fate_number v - 1)) × (paint_of (painted v z) + 1 ≡ fate_number v)
unfolding painted merges fate_number paint_of cell_of
painted-number stay z e = clash e refl
painted-number (merge c d) z e = (let i : c + 2 - 1 ≡ suc c = omega arith in rw i, omega arith)
painted-number (freeze c d) z e = clash e refl

module _ {rule : Rule} {grid : Grid} {k : ℕ} {met : ℕ → Type 0} {a b : List ℕ} {from mid : ℕ} (st : Stage rule grid k from a) (u : Met rule grid k met a b from mid)
    (ends : (x : ℕ) → x < rule.places → 0 < plane (area_of grid) 1 a x → fate_number (fate (fates rule (state_of (area_of grid) a)) x) ≡ cond (eqb (plane (area_of grid) 6 a (plane (area_of grid) 1 a x - 1)) 0) (plane (area_of grid) 6 b (plane (area_of grid) 1 a x - 1)) 0) where
  abbrev n : ℕ
  n = area_of grid

  abbrev symm : Symmetric rule.adj
  symm = st.ruled.symm

  abbrev s : State
  s = state_of n a

  abbrev len : length s.cells ≡ rule.places
  len = (stage_ready st).grouped.size

  label_b : (x : ℕ) → x < n → plane n 1 b x ≡ plane n 1 a x
  label_b x l = u.same 1 x (omega arith) l

  repaints-is : (x : ℕ) → x < n → 0 < plane n 1 a x → repaints rule s x ≡ leb 2 (cond (eqb (plane n 6 a (plane n 1 a x - 1)) 0) (plane n 6 b (plane n 1 a x - 1)) 0)
  unfolding repaints
  repaints-is x l z = merges-number (fate (fates rule s) x) ∙ ap (leb 2) (ends x (in_rule st x l) z)

  -- a chosen group is repainted
  pub chosen_repaints : (x l : ℕ) → x < n → plane n 1 a x ≡ suc l → Chosen n a b l → repaints rule s x ≡ true
  chosen_repaints x l b' e c =
      let k1 : plane n 1 a x - 1 ≡ l = omega arith in
      repaints-is x b' (omega arith) ∙ ap (λ (t : ℕ). leb 2 (cond (eqb (plane n 6 a t) 0) (plane n 6 b t) 0)) k1 ∙ rw c.free (yes_leb {m = 2} {n = plane n 6 b l} c.number)

  -- and no other is
  pub repaints_chosen : (x : ℕ) → repaints rule s x ≡ true → (x < n) × (l : ℕ) × (plane n 1 a x ≡ suc l) × Chosen n a b l
  repaints_chosen x e =
      let b' = of_rule st x (repaints-below rule symm s len x e) in
      let z : 0 < plane n 1 a x = ((stage_ready st).grouped.shown x (in_rule st x b')).0 (repainted rule symm s len x e).was in
      let l = plane n 1 a x - 1 in
      let lab : plane n 1 a x ≡ suc l = omega arith in
      let t : leb 2 (cond (eqb (plane n 6 a l) 0) (plane n 6 b l) 0) ≡ true = sym (repaints-is x b' z) ∙ e in
      elim (ℕ_discrete (plane n 6 a l) 0) [
        | yes f ↦ (b', l, lab, record { place = x; bound = b'; label = lab; free = f; number = leb_yes {m = 2} {n = plane n 6 b l} (rw f at t) })
        | no d ↦ clash (rw (ne_eqb (plane n 6 a l) 0 d) at t) refl
      ]

  listed_chosen : (l : ℕ) → Listed n b from mid l → Chosen n a b l
  listed_chosen l z = rw z.3 at (u.log.named z.0 z.1 z.2)

  -- a repainted place's new paint is one less than its group's number
  paint_told : (x l : ℕ) → x < n → plane n 1 a x ≡ suc l → Chosen n a b l → (at (pass rule s).cells x ≡ cell_of (plane n 6 b l - 1)) × (paint_of (at (pass rule s).cells x) + 1 ≡ plane n 6 b l)
  unfolding repaints
  paint_told x l m e c =
      let lx = in_rule st x m in
      let k1 : plane n 1 a x - 1 ≡ l = omega arith in
      let v = fate (fates rule s) x in
      let t = painted-number v (at s.cells x) (chosen_repaints x l m e c) in
      let cell : at (pass rule s).cells x ≡ painted v (at s.cells x) = cell-at rule symm s len x lx ∙ ap (λ (y : Verdict). painted y (at s.cells x)) (sym (fate-at rule symm s len x lx)) in
      let num : fate_number v ≡ plane n 6 b l = ends x lx (omega arith) ∙ ap (λ (y : ℕ). cond (eqb (plane n 6 a y) 0) (plane n 6 b y) 0) k1 ∙ rw c.free refl in
      (cell ∙ t.0 ∙ ap (λ (y : ℕ). cell_of (y - 1)) num, ap (λ (y : ℤ). paint_of y + 1) cell ∙ t.1 ∙ num)

  -- it is another place's paint
  number_known : (x l : ℕ) → x < n → plane n 1 a x ≡ suc l → Chosen n a b l → plane n 6 b l ≤ k + 1
  unfolding state_of
  number_known x l m e c =
      let w = repainted rule symm s len x (chosen_repaints x l m e c) in
      let ly = of_rule st w.from (opaque-below rule.places rule.adj s.cells len w.from (large-opaque rule symm s.cells len w.from w.big)) in
      let is : paint_of (at (pass rule s).cells x) ≡ plane n 0 b w.from = ap paint_of (w.takes x (here w.was)) ∙ cells_paint n a w.from ly ∙ sym (u.same 0 w.from (omega arith) ly) in
      omega (arith, (paint_told x l m e c).1, u.stage.known.below w.from ly)

  whole_b : LargeAsWhole n b
  whole_b x y l m z e =
      (growing_start rule symm (state_of n b) (plane n 1 b) (large_of n b) (large rule (cells_of n b)) (stage_ready u.stage)).whole x y (in_rule st x l) (in_rule st y m) z e

  -- what grow asks, if what was repainted before this pass is large
  pub met_decided : ((x t : ℕ) → x < n → plane n 1 a x ≡ suc t → 2 ≤ plane n 6 a t → large_of n a x ≡ true) → Decided grid from mid b
  met_decided old = record {
    sheet = u.stage.sheet;
    whole = whole_b;
    groups = λ i l m. let c = u.log.named i l m in u.stage.sheet.groups c.place (plane n 7 b i) c.bound (label_b c.place c.bound ∙ c.label);
    numbers = λ i l m. let c = u.log.named i l m in (c.number, omega (arith, number_known c.place (plane n 7 b i) c.bound c.label c, u.stage.known.few));
    done = λ x t l e z. let ea : plane n 1 a x ≡ suc t = sym (label_b x l) ∙ e in
        let k1 : plane n 1 a x - 1 ≡ t = omega arith in
        elim (ℕ_discrete (plane n 6 a t) 0) [
          | yes f ↦ inr (u.log.all t (record { place = x; bound = l; label = ea; free = f; number = z }))
          | no d ↦ (let same : plane n 6 b t ≡ plane n 6 a t = ⊎_elim (λ i. sym (ap (plane n 6 b) k1) ∙ i ∙ ap (plane n 6 a) k1) (λ i. absurd (d (sym (ap (plane n 6 a) k1) ∙ i.0))) (u.judging.each x (in_rule st x l) (omega arith)) in
              inl (u.large x l ∙ old x t l ea (rw same at z)))
        ];
    room = u.stage.room;
  }

  -- ---- the chosen groups are repainted, and the small groups of their paint beside them become large

  module _ (dec : Decided grid from mid b) {d : List ℕ} {end : ℕ} (grew : Grew grid from mid b d end) where
    abbrev c : List ℕ
    c = grew.middle

    abbrev r : Repainted n (Listed n b from mid) b c
    r = grew.repainted

    abbrev v : Gained grid (MatchesLogged grid c from mid) c d mid end
    v = grew.gained

    label-c : (x : ℕ) → x < n → plane n 1 c x ≡ plane n 1 a x
    label-c x l = (repainted_alike r).label x l ∙ label_b x l

    taken_big : (x l : ℕ) → x < n → plane n 1 b x ≡ suc l → Listed n b from mid l → large_of n c x ≡ true
    taken_big x l m e z = repainted_big dec r x l m e z

    was_big : (x : ℕ) → x < n → large_of n a x ≡ true → large_of n c x ≡ true
    was_big x l y = old_big dec r x l (u.large x l ∙ y)

    log_c : (i : ℕ) → i < mid → plane n 7 c i ≡ plane n 7 b i
    log_c i l = log_still dec r i l

    -- plane 0 holds the sheet of the pass
    pub painted-cells : (x : ℕ) → x < n → at (pass rule s).cells x ≡ at (cells_of n c) x
    unfolding state_of
    painted-cells x l =
        case (repaints rule s x)
        (λ y. let z = repaints_chosen x y in
        let p = r.paint x z.1 l (label_b x l ∙ z.2) (u.log.all z.1 z.3) in
        let i : plane n 6 b z.1 - 1 ≡ plane n 0 c x = omega arith in
        (paint_told x z.1 l z.2 z.3).0 ∙ ap cell_of i ∙ sym (cells_at n c x l))
        (λ y. let same : plane n 0 c x ≡ plane n 0 a x = ⊎_elim (λ i. i.0 ∙ u.same 0 x (omega arith) l) (λ i. clash (chosen_repaints x i.0 l (sym (label_b x l) ∙ i.1) (listed_chosen i.0 i.2)) y) (r.each x l) in
        unpainted_kept rule symm s len x y ∙ cells_at n a x l ∙ ap cell_of (sym same) ∙ sym (cells_at n c x l))

    growing_c : Growing rule s (plane n 1 a) (large_of n a) (large_of n c)
    growing_c = record {
      old = λ x l y. was_big x (of_rule st x l) y;
      only = λ x l y. let m = of_rule st x l in ⊎_elim
          (λ z. inl (sym (big_same n b c x z.1 ∙ u.large x m) ∙ y))
          (λ z. inr (takes (chosen_repaints x z.0 m (sym (label_b x m) ∙ z.1) (listed_chosen z.0 z.2))))
          (r.each x m);
      whole = λ x y l m z e. let lx = of_rule st x l in let ly = of_rule st y m in whole_still dec r x y lx ly (rw (label_b x lx) z) (label_b x lx ∙ e ∙ sym (label_b y ly));
    }

    done-c : (x : ℕ) → repaints rule s x ≡ true → large_of n c x ≡ true
    done-c x e =
        let z = repaints_chosen x e in
        taken_big x z.1 z.0 (label_b x z.0 ∙ z.2) (u.log.all z.1 z.3)

    logged_c : Logged n (plane n 1 a) (large_of n a) (large_of n c) (plane n 7 c) from mid
    logged_c = record {
      named = λ i l m. let z = u.log.named i l m in (z.place, z.bound, z.label ∙ ap suc (sym (log_c i m)));
      new = λ i x l m b' e. let e' : plane n 1 a x ≡ suc (plane n 7 b i) = e ∙ ap suc (log_c i m) in
          let rp = chosen_repaints x (plane n 7 b i) b' e' (u.log.named i l m) in (
            taken_big x (plane n 7 b i) b' (label_b x b' ∙ e') (i, l, m, refl),
            case (large_of n a x) (λ y. not_both rule symm s.cells len x (repainted_small rule symm s len x rp) (sym ((stage_ready st).flags x (in_rule st x b')) ∙ y)) (λ y. y),
          );
      all = λ x b' y z. ⊎_elim
          (λ i. clash y (big_same n b c x i.1 ∙ u.large x b' ∙ z))
          (λ i. let j = i.2 in (j.0, j.1, j.2, sym (label_b x b') ∙ i.1 ∙ ap suc (sym j.3 ∙ sym (log_c j.0 j.2))))
          (r.each x b');
    }

    label-d : (x : ℕ) → x < n → plane n 1 d x ≡ plane n 1 a x
    label-d x l = (gained_alike v).label x l ∙ label-c x l

    same-cell : (x y : ℕ) → x < n → y < n → plane n 0 c x ≡ plane n 0 c y → at (pass rule s).cells x ≡ at (pass rule s).cells y
    same-cell x y l m e = painted-cells x l ∙ cells_at n c x l ∙ ap cell_of e ∙ sym (cells_at n c y m) ∙ sym (painted-cells y m)

    same_paint : (x y : ℕ) → x < n → y < n → at (pass rule s).cells x ≡ at (pass rule s).cells y → plane n 0 c x ≡ plane n 0 c y
    same_paint x y l m e = sym (cells_paint n c x l) ∙ ap paint_of (sym (painted-cells x l) ∙ e ∙ painted-cells y m) ∙ cells_paint n c y m

    growing_d : Growing rule s (plane n 1 a) (large_of n a) (large_of n d)
    growing_d = record {
      old = λ x l y. gained_old v x (of_rule st x l) (was_big x (of_rule st x l) y);
      only = λ x l y. let m = of_rule st x l in ⊎_elim
          (λ z. growing_c.only x l (sym (big_same n c d x z) ∙ y))
          (λ z. let f = z.1 in
          let t = f.named in
          let p = t.3.0 in
          let lab : plane n 1 a p ≡ suc (plane n 7 b t.0) = sym (label-c p t.3.1) ∙ t.3.2 ∙ ap suc (log_c t.0 t.2) in
          let by-label = label-c f.by f.bound in
          inr (absorbed_grows rule symm s (plane n 1 a) (large_of n a) (large rule (cells_of n a)) (stage_ready st) (large_of n c) growing_c (λ q b' e. done-c q e) p f.by (in_rule st f.by f.bound) (rw by-label at f.label) f.little
          (st.ruled.ways p f.by ∙ t.3.3.0) (chosen_repaints p (plane n 7 b t.0) t.3.1 lab (u.log.named t.0 t.1 t.2)) (same-cell p f.by t.3.1 f.bound (sym t.3.3.1))
          x l (sym (label-c x m) ∙ f.group ∙ by-label)))
          (v.flags x m);
      whole = λ x y l m z e. let lx = of_rule st x l in let ly = of_rule st y m in v.growth.whole x y lx ly (rw (label-d x lx) z) (label-d x lx ∙ e ∙ sym (label-d y ly));
    }

    -- the flags have grown as the pass asks
    pub grown_flags : Grown rule s (plane n 1 a) (large_of n a) (large_of n d)
    grown_flags =
        growing_end rule symm s (plane n 1 a) (large_of n a) (large rule (cells_of n a)) (stage_ready st) (large_of n d) growing_d
        (λ x l e. gained_old v x (of_rule st x l) (done-c x e))
        (λ z q l g e rp i. let m = of_rule st q l in
        let ch = repaints_chosen z rp in
        let j = u.log.all ch.1 ch.3 in
        v.told q m (j.0, j.1, j.2, (z, ch.0, label-c z ch.0 ∙ ch.2 ∙ ap suc (sym (log_c j.0 j.2 ∙ j.3)), (sym (st.ruled.ways z q) ∙ e, same_paint q z m ch.0 (sym i)))) (rw (label-c q m) g))

    -- the log's new stretch names exactly the groups that grew
    pub grown_log : Logged n (plane n 1 a) (large_of n a) (large_of n d) (plane n 7 d) from end
    grown_log =
        logged_trans n (plane n 1 a) (plane n 1 c) (large_of n a) (large_of n c) (large_of n d) (plane n 7 c) (plane n 7 d) from mid end u.log.rises v.rises label-c was_big (gained_old v) v.kept logged_c v.logged

    -- ---- what else the next pass needs; its sheet and the log's room are those of v.growth

    -- planes 1 to 4 and 6 are as judging left them
    pub kept_planes : (j q : ℕ) → (0 ≡ j → ⊥) → (5 ≡ j → ⊥) → (7 ≡ j → ⊥) → q < n → plane n j d q ≡ plane n j b q
    kept_planes j q z y x l = v.same j q y x l ∙ r.same j q z y l

    -- no place has the mark of a group without a number
    pub grown_unmarked : (t : ℕ) → t < n → plane n 6 d t ≡ 0 → (q : ℕ) → q < n → plane n 5 d q ≡ t + 2 → ⊥
    grown_unmarked t l z q m e =
        ⊎_elim
        (λ i. ⊎_elim
        (λ j. u.stage.unmarked t l (sym (kept_planes 6 t (λ x. absurd (omega arith)) (λ x. absurd (omega arith)) (λ x. absurd (omega arith)) l) ∙ z) q m (sym (i ∙ j.1) ∙ e))
        (λ j. let o : 1 ≡ t + 2 = sym (i ∙ r.large q j.0 m j.1 j.2) ∙ e in omega arith)
        (r.each q m))
        (λ i. let o : 1 ≡ t + 2 = sym i.0 ∙ e in omega arith)
        (v.flags q m)
