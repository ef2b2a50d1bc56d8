-- What was judged and painted is the rules' pass. Assumes nothing.
use Prim.Native.Nat.{ℕ, suc, ◌+◌, ◌-◌, ◌≤◌, ◌<◌}
use mathlib.Core.Path.{◌≡◌, refl, sym, ap, ◌∙◌}
use mathlib.Core.Bool.{Bool, true, false, not, ◌&&◌, ◌||◌, cond}
use mathlib.Core.List.{List}
use native.Mathlib.Decide.{ℕ_discrete}
use native.Mathlib.Omega.{arith}
use borrow.Author.Tests.{ne_eqb}
use lib.Dec.{eqb, ltb}
use lib.IntN.{ℤ, negsuc}
use lib.ListN.{length}
use lib.Seq.{ext_get_or}
use Rattle.base.proofs.Counting.{case, same_test, leb_yes, yes_leb, any_yes, yes_any, table-length}
use Rattle.rules.specs.Regions.{at, opaque, here, Symmetric}
use Rattle.rules.specs.Pass.{Rule, State, marked, Verdict, stay, merge, freeze, painted, merges, freezes, fates, fate, applied, pass, repaints, moves}
use Rattle.rules.proofs.Roots.{opaque-below}
use Rattle.rules.proofs.Passes.{large-opaque, fate-at, cell-at, pass-length, frozen_at, frozen_length, repainted, unpainted_kept}
use Rattle.rules.proofs.Groups.{Grouped, clear_fate}
use Rattle.grid.specs.declared.Grid.{Grid}
use Rattle.grid.specs.Planes.{plane, paint_of, cell_of, cells_of}
use Rattle.grid.proofs.Planes.{cells-size, cells_at, cells_paint}
use Rattle.verdicts.specs.Steps.{area_of}
use Rattle.verdicts.specs.Judging.{state_of, fate_number, Indexed}
use Rattle.frontier.proofs.Growth.{merges-number}
use Rattle.frontier.specs.Judging.{frozen_of, Stage}
use Rattle.frontier.proofs.Stages.{frozen_is}
use Rattle.frontier.proofs.Starts.{in_rule, of_rule, stage_ready}
use Rattle.orphans.specs.Passing.{PassDone}
use Rattle.orphans.proofs.Parts.{AllJudged, TargetsTaken}

-- ---- numbers and verdicts

-- the paint that a verdict leaves
paint_by : (f : Verdict) (z v : ℕ) → (2 ≤ fate_number f → v ≡ fate_number f - 1) → (fate_number f < 2 → v ≡ z) → cell_of v ≡ painted f (cell_of z)
unfolding fate_number painted cell_of
paint_by stay z v t s = ap cell_of (s (omega arith))
paint_by (merge c d) z v t s = let e : v ≡ suc c = (let i = t (omega arith) in omega arith) in rw e
paint_by (freeze c d) z v t s = ap cell_of (s (omega arith))

freezes-number : (f : Verdict) → freezes f ≡ eqb (fate_number f) 1
unfolding fate_number freezes
freezes-number stay = refl
freezes-number (merge c d) = sym (ne_eqb (c + 2) 1 (λ e. omega arith))
freezes-number (freeze c d) = refl

-- by the number before and after
froze_by : (x y : ℕ) → (eqb x 0 && eqb y 1) ≡ eqb (cond (eqb x 0) y 0) 1
froze_by x y = elim (ℕ_discrete x 0) [ yes e ↦ rw e | no z ↦ rw (ne_eqb x 0 z) ]

or_swap : (a b : Bool) → (a || b) ≡ (b || a)
or_swap true true = refl
or_swap true false = refl
or_swap false true = refl
or_swap false false = refl

-- ---- the pass

module _ {rule : Rule} {grid : Grid} {k end mid : ℕ} {a b d : List ℕ} (st : Stage rule grid k end a) (u : AllJudged rule grid k end mid a b) (v : TargetsTaken (area_of grid) end mid b d) where
  abbrev n : ℕ
  n = area_of grid

  abbrev symm : Symmetric rule.adj
  symm = st.ruled.symm

  abbrev s : State
  s = state_of n a

  abbrev f : ℕ → Verdict
  f x = fate (fates rule s) x

  abbrev num : List ℕ → ℕ → ℕ
  num work x = plane n 6 work (plane n 1 a x - 1)

  grouped : Grouped rule s (plane n 1 a)
  grouped = (stage_ready st).grouped

  -- a place without a group has no fate
  bare : (x : ℕ) → x < n → plane n 1 a x ≡ 0 → f x ≡ stay
  bare x l e =
      clear_fate rule symm s (plane n 1 a) grouped x (in_rule st x l)
      (case (opaque s.cells x) (λ y. let z = (grouped.shown x (in_rule st x l)).0 y in absurd (omega arith)) (λ y. y))

  -- a place is to be repainted exactly if its group was chosen
  chosen : (x : ℕ) → x < n → 2 ≤ fate_number (f x) → (0 < plane n 1 a x) × (num a x ≡ 0) × (num b x ≡ fate_number (f x))
  unfolding fate_number
  chosen x l two =
      elim (ℕ_discrete (plane n 1 a x) 0) [
        | yes e ↦ (let z : fate_number (f x) ≡ 0 = rw (bare x l e) in absurd (omega arith))
        | no z ↦ (let y = u.fates x l (omega arith) in
            elim (ℕ_discrete (num a x) 0) [
              | yes e ↦ (omega arith, e, (let y' : fate_number (f x) ≡ num b x = rw e at y in sym y'))
              | no o ↦ (let y' : fate_number (f x) ≡ 0 = y ∙ rw (ne_eqb (num a x) 0 o) in absurd (omega arith))
            ])
      ]

  pub logged : (x : ℕ) → x < n → 2 ≤ fate_number (f x) → (i : ℕ) × (end ≤ i) × (i < mid) × (plane n 1 a x ≡ suc (plane n 7 b i))
  logged x l two =
      let c = chosen x l two in
      let t = plane n 1 a x - 1 in
      let e : plane n 1 a x ≡ suc t = omega (arith, c.0) in
      let i = u.judged.log.all t (record { place = x; bound = l; label = e; free = c.1; number = omega (arith, c.2) }) in
      (i.0, i.1, i.2, e ∙ ap suc (sym i.3))

  -- what the log names is repainted
  named_number : (i x : ℕ) → end ≤ i → i < mid → x < n → plane n 1 a x ≡ suc (plane n 7 b i) → fate_number (f x) ≡ plane n 6 b (plane n 7 b i)
  named_number i x lo hi l e =
      let c = u.judged.log.named i lo hi in
      let t : plane n 1 a x - 1 ≡ plane n 7 b i = omega arith in
      let z : num a x ≡ 0 = ap (plane n 6 a) t ∙ c.free in
      let y = u.fates x l (omega arith) in
      let y' : fate_number (f x) ≡ num b x = rw z at y in
      y' ∙ ap (plane n 6 b) t

  pub named_two : (i x : ℕ) → end ≤ i → i < mid → x < n → plane n 1 a x ≡ suc (plane n 7 b i) → 2 ≤ fate_number (f x)
  named_two i x lo hi l e = rw (named_number i x lo hi l e) (u.judged.log.named i lo hi).number

  label_b : (x : ℕ) → x < n → plane n 1 b x ≡ plane n 1 a x
  label_b x l = u.judged.same 1 x (omega arith) l

  paint_at_lem : (x : ℕ) → x < n → cell_of (plane n 0 d x) ≡ painted (f x) (cell_of (plane n 0 a x))
  paint_at_lem x l =
      paint_by (f x) (plane n 0 a x) (plane n 0 d x)
      (λ two. let i = logged x l two in
      v.takes i.0 x i.1 i.2 l (label_b x l ∙ i.3) ∙ ap (λ (c : ℕ). c - 1) (sym (named_number i.0 x i.1 i.2 l i.3)))
      (λ less. v.stays x l (λ i lo hi e. let two = named_two i x lo hi l (sym (label_b x l) ∙ e) in omega arith) ∙ u.judged.same 0 x (omega arith) l)

  pub passed_cells : cells_of n d ≡ (pass rule s).cells
  unfolding at state_of
  passed_cells =
      let len = grouped.size in
      ext_get_or (negsuc 0) (cells_of n d) (pass rule s).cells (cells-size n d ∙ sym (pass-length rule symm s len ∙ st.ruled.size))
      (λ x z. let l : x < n = omega (arith, cells-size n d) in
      cells_at n d x l ∙ paint_at_lem x l ∙ ap (painted (f x)) (sym (cells_at n a x l))
      ∙ ap (λ (y : Verdict). painted y (at (cells_of n a) x)) (fate-at rule symm s len x (in_rule st x l))
      ∙ sym (cell-at rule symm s len x (in_rule st x l)))

  frozen_is_b : (x : ℕ) → x < n → frozen_of n b x ≡ (freezes (f x) || marked s.frozen x)
  unfolding frozen_of freezes
  frozen_is_b x l =
      elim (ℕ_discrete (plane n 1 a x) 0) [
        | yes e ↦ (sym (frozen_is n b x l) ∙ u.judged.stage.sound.clear x l (label_b x l ∙ e) ∙ sym (rw (bare x l e) (st.sound.clear x l e)))
        | no z ↦ (let some : 0 < plane n 1 a x = omega arith in
            u.judged.judging.frozen x (in_rule st x l) some
            ∙ or_swap (marked s.frozen x) (eqb (num a x) 0 && eqb (num b x) 1)
            ∙ ap (λ (y : Bool). y || marked s.frozen x) (froze_by (num a x) (num b x) ∙ ap (λ (y : ℕ). eqb y 1) (sym (u.fates x l some)) ∙ sym (freezes-number (f x))))
      ]

  frozen_size : length (state_of n d).frozen ≡ n
  unfolding state_of
  frozen_size = table-length n _

  pub passed_frozen : (state_of n d).frozen ≡ (pass rule s).frozen
  unfolding marked frozen_of
  passed_frozen =
      let len = grouped.size in
      ext_get_or false (state_of n d).frozen (pass rule s).frozen (frozen_size ∙ sym (frozen_length rule symm s len ∙ st.ruled.size))
      (λ x z. let l : x < n = omega (arith, frozen_size) in
      frozen_is n d x l ∙ ap (λ (y : ℕ). not (eqb y 0)) (v.frozen x l) ∙ frozen_is_b x l
      ∙ ap (λ (y : Verdict). freezes y || marked s.frozen x) (fate-at rule symm s len x (in_rule st x l))
      ∙ sym (frozen_at rule symm s len x (in_rule st x l)))

  pub passed_state : state_of n d ≡ pass rule s
  unfolding state_of pass applied
  passed_state = λ i. record { cells = passed_cells i; frozen = passed_frozen i }

  -- the log has grown exactly if a cell is repainted
  pub passed_moves : ltb end mid ≡ moves rule (fates rule s)
  unfolding moves
  passed_moves =
      same_test
      (λ y. let l : end < mid = leb_yes {m = suc end} {n = mid} y in
      let c = u.judged.log.named end (omega arith) l in
      yes_any rule.places (λ p. merges (f p)) c.place (in_rule st c.place c.bound)
      (merges-number (f c.place) ∙ yes_leb {m = 2} {n = fate_number (f c.place)} (named_two end c.place (omega arith) l c.bound c.label)))
      (λ y. let p = any_yes rule.places (λ p. merges (f p)) y in
      let i = logged p.0 (of_rule st p.0 p.1) (leb_yes {m = 2} {n = fate_number (f p.0)} (sym (merges-number (f p.0)) ∙ p.2)) in
      yes_leb {m = suc end} {n = mid} (omega (arith, i.1, i.2)))

  -- a target is an index of the sheet
  pub passed_known : Indexed n k d
  unfolding state_of
  passed_known = record { few = st.known.few; below = below }
    where
      len : length (cells_of n a) ≡ rule.places
      len = cells-size n a ∙ sym st.ruled.size

      -- a paint by the cell that it stands for
      as_cell_lem : (x y : ℕ) → x < n → y < n → at (cells_of n d) x ≡ at (cells_of n a) y → plane n 0 d x ≡ plane n 0 a y
      as_cell_lem x y l m e = sym (cells_paint n d x l) ∙ ap paint_of e ∙ cells_paint n a y m

      below : (x : ℕ) → x < n → plane n 0 d x ≤ k
      below x l =
          case (repaints rule s x)
          (λ y. let r = repainted rule symm s len x y in
          let m : r.from < n = of_rule st r.from (opaque-below rule.places rule.adj (cells_of n a) len r.from (large-opaque rule symm (cells_of n a) len r.from r.big)) in
          rw (as_cell_lem x r.from l m (ap (λ (c : List ℤ). at c x) passed_cells ∙ r.takes x (here r.was))) (st.known.below r.from m))
          (λ z. rw (as_cell_lem x x l l (ap (λ (c : List ℤ). at c x) passed_cells ∙ unpainted_kept rule symm s len x z)) (st.known.below x l))

  pub passed : PassDone rule n k a d (ltb end mid)
  passed = record { len = v.len ∙ u.judged.len; state = passed_state; moves = passed_moves; known = passed_known }
