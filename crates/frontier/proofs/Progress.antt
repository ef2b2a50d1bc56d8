-- Judging one group after the other, seen from the start of the pass. Assumes nothing.
use Prim.Native.Nat.{ℕ, suc, ◌-◌, ◌≤◌, ◌<◌}
use mathlib.Core.Path.{◌≡◌, refl, sym, ap, ◌∙◌}
use mathlib.Core.Logic.{◌⊎◌, inl, inr, ⊎_elim}
use mathlib.Core.Bool.{Bool, true, false, not, ◌&&◌, ◌||◌}
use mathlib.Core.List.{List}
use native.Mathlib.Decide.{ℕ_discrete}
use native.Mathlib.Omega.{arith}
use borrow.Author.Tests.{ne_eqb}
use lib.Dec.{eqb}
use Rattle.std.specs.Prelude.{Option, Some}
use Rattle.base.proofs.Counting.{case}
use Rattle.rules.specs.Regions.{opaque, Symmetric}
use Rattle.rules.specs.Pass.{Rule, State, marked, large, small, fates, fate}
use Rattle.rules.proofs.Roots.{join_right, opaque-below}
use Rattle.rules.proofs.Passes.{small_or_large}
use Rattle.rules.proofs.Frontier.{with_frozen, fate_local, fate-large}
use Rattle.grid.specs.declared.Grid.{Grid}
use Rattle.grid.specs.Planes.{plane, end_of}
use Rattle.grid.proofs.Planes.{cells_kept}
use Rattle.verdicts.specs.declared.large.Span.{Span}
use Rattle.verdicts.specs.Steps.{area_of}
use Rattle.verdicts.specs.Judging.{state_of, fate_number}
use Rattle.frontier.specs.Judging.{Judging, frozen_of, Noted, Stage, Met, Small}
use Rattle.verdicts.specs.Groups.{Group}
use Rattle.verdicts.proofs.Keeping.{sheet-few, group-alike}
use Rattle.verdicts.proofs.Spans.{SpanTurn, span_turn, group-stretch}
use Rattle.frontier.proofs.Stages.{frozen_is, stage_noted}
use Rattle.frontier.proofs.Starts.{in_rule, of_rule, stage_ready}
use Rattle.frontier.proofs.Turns.{LogTurn, log_turn}
use Rattle.frontier.proofs.Filing.{filed_start, filed_trans, filed_noted}

unfrozen : (b c : Bool) → (b || (c && false)) ≡ b
unfrozen true c = refl
unfrozen false true = refl
unfrozen false false = refl

none_more : (b c : Bool) → c ≡ false → b ≡ (b || c)
none_more true c e = refl
none_more false c e = sym e

join_none : (m x : Bool) → ((m || false) || x) ≡ (m || x)
join_none true x = refl
join_none false x = refl

not_both : (v : ℕ) → (eqb v 0 && eqb v 1) ≡ false
not_both v = elim (ℕ_discrete v 0) [ yes y ↦ rw y | no z ↦ rw (ne_eqb v 0 z) ]

-- ---- group after group

-- fewer groups are named
pub met_fewer : {rule : Rule} {grid : Grid} {k : ℕ} {met less : ℕ → Type 0} {a b : List ℕ} {from end : ℕ} → ((l : ℕ) → less l → met l) → Met rule grid k met a b from end → Met rule grid k less a b from end
met_fewer f u = record {
  len = u.len;
  stage = u.stage;
  same = u.same;
  large = u.large;
  judging = u.judging;
  numbered = λ x at l y z. u.numbered x at l y (f at z);
  log = u.log;
}

-- a small group that another place names
pub renamed : {n l : ℕ} {a : List ℕ} {near far : ℕ → Type 0} (z : Small n a near l) → far z.place → Small n a far l
renamed z y = record { place = z.place; named = y; bound = z.bound; little = z.little; label = z.label }

-- the small groups by another name of their places
pub met_as : {rule : Rule} {grid : Grid} {k : ℕ} {near far : ℕ → Type 0} {a b : List ℕ} {from end : ℕ} → ((q : ℕ) → q < area_of grid → far q → near q) → Met rule grid k (Small (area_of grid) a near) a b from end → Met rule grid k (Small (area_of grid) a far) a b from end
met_as f = met_fewer (λ l z. renamed z (f z.place z.bound z.named))

-- a group is where it was
pub met_group : {rule : Rule} {grid : Grid} {k : ℕ} {met : ℕ → Type 0} {a b : List ℕ} {from end at : ℕ} → Met rule grid k met a b from end → Group (area_of grid) a at → Group (area_of grid) b at
met_group {at = at} u g =
    group-alike (record { label = λ q l. u.same 1 q (omega arith) l; order = λ q l. u.same 2 q (omega arith) l; ends = λ q l. u.same 3 q (omega arith) l }) at g

-- the planes at the start of a pass
module _ {rule : Rule} {grid : Grid} {k from : ℕ} {a : List ℕ} (st : Stage rule grid k from a) where
  abbrev n : ℕ
  n = area_of grid

  abbrev symm : Symmetric rule.adj
  symm = st.ruled.symm

  thaw_at : (x at : ℕ) → x < n → plane n 1 a x ≡ suc at → plane n 6 a at ≡ 0 → marked (state_of n a).frozen x ≡ false
  thaw_at x at l y z = case (marked (state_of n a).frozen x) (λ q. absurd (st.sound.thawed x at l y z q)) (λ q. q)

  -- some groups are judged by now
  module _ (now : List ℕ) (same : (j q : ℕ) → j < 4 → q < n → plane n j now q ≡ plane n j a q)
      (u : Judging rule (state_of n a) (plane n 1 a) (plane n 6 a) (plane n 6 now) (frozen_of n now)) where
    abbrev s₀ : State
    s₀ = state_of n a

    same_state : state_of n now ≡ with_frozen s₀ (state_of n now).frozen
    unfolding state_of with_frozen
    same_state = λ i. record { cells = cells_kept n now a (λ p l. same 0 p (omega arith) l) i; frozen = (state_of n now).frozen }

    -- a group without a number had none
    free_was : (x at : ℕ) → x < n → plane n 1 a x ≡ suc at → plane n 6 now at ≡ 0 → plane n 6 a at ≡ 0
    free_was x at l e z =
        let k : plane n 1 a x - 1 ≡ at = omega arith in
        ⊎_elim (λ i. sym (ap (plane n 6 a) k) ∙ sym i ∙ ap (plane n 6 now) k ∙ z) (λ i. sym (ap (plane n 6 a) k) ∙ i.0) (u.each x (in_rule st x l) (omega arith))

    -- and its fate is that of the pass's start
    pub fate-same : (x at : ℕ) → x < n → plane n 1 a x ≡ suc at → plane n 6 now at ≡ 0 → fate (fates rule (state_of n now)) x ≡ fate (fates rule s₀) x
    unfolding with_frozen frozen_of
    fate-same x at l e z =
        ap (λ (t : State). fate (fates rule t) x) same_state ∙ sym (⊎_elim little big_one (small_or_large rule symm s₀.cells (stage_ready st).grouped.size x o))
      where
        o : opaque s₀.cells x ≡ true
        o = ((stage_ready st).grouped.shown x (in_rule st x l)).1 (omega arith)

        big_one : large rule s₀.cells x ≡ true → fate (fates rule s₀) x ≡ fate (fates rule (with_frozen s₀ (state_of n now).frozen)) x
        big_one y = fate-large rule symm s₀ (stage_ready st).grouped.size x (in_rule st x l) y ∙ sym (fate-large rule symm (with_frozen s₀ (state_of n now).frozen) (stage_ready st).grouped.size x (in_rule st x l) y)

        little : small rule s₀.cells x ≡ true → fate (fates rule s₀) x ≡ fate (fates rule (with_frozen s₀ (state_of n now).frozen)) x
        little y = fate_local rule symm s₀ (stage_ready st).grouped.size (state_of n now).frozen x o (λ p j.
            let b : p < rule.places = opaque-below rule.places rule.adj s₀.cells (stage_ready st).grouped.size p (join_right rule.adj s₀.cells j) in
            let g : plane n 1 a x ≡ plane n 1 a p = ((stage_ready st).grouped.region x p y b).0 j in
            let k : plane n 1 a p - 1 ≡ at = omega arith in
            let z' : plane n 6 now (plane n 1 a p - 1) ≡ 0 = ap (plane n 6 now) k ∙ z in
            frozen_is n now p (of_rule st p b) ∙ u.frozen p b (omega arith) ∙ rw z' (unfrozen (marked s₀.frozen p) (eqb (plane n 6 a (plane n 1 a p - 1)) 0)))

    module _ (at end : ℕ) (b : List ℕ) (v : ℕ) (w : Noted rule n at end now b v) where
      label_now : (x : ℕ) → x < n → plane n 1 now x ≡ plane n 1 a x
      label_now x l = same 1 x (omega arith) l

      -- the numbers of other groups, in groups that are in use
      other : (x : ℕ) → x < n → 0 < plane n 1 a x → (plane n 1 a x - 1 ≡ at → ⊥) → plane n 1 a x - 1 < n → plane n 6 b (plane n 1 a x - 1) ≡ plane n 6 now (plane n 1 a x - 1)
      other x l h z k = w.numbers (plane n 1 a x - 1) k z

      -- nothing is written
      module _ (in_use : (x : ℕ) → x < n → 0 < plane n 1 a x → plane n 1 a x - 1 < n) where
        pub judging_noted : Judging rule s₀ (plane n 1 a) (plane n 6 a) (plane n 6 b) (frozen_of n b)
        unfolding frozen_of
        judging_noted = record { each = each'; frozen = frozen' }
          where
            each' : (x : ℕ) → x < rule.places → 0 < plane n 1 a x → (plane n 6 b (plane n 1 a x - 1) ≡ plane n 6 a (plane n 1 a x - 1)) ⊎ ((plane n 6 a (plane n 1 a x - 1) ≡ 0) × (plane n 6 b (plane n 1 a x - 1) ≡ fate_number (fate (fates rule s₀) x)))
            each' x l h =
                elim (ℕ_discrete (plane n 1 a x - 1) at) [
                  | no z ↦ (let e = other x (of_rule st x l) h z (in_use x (of_rule st x l) h) in ⊎_elim (λ i. inl (e ∙ i)) (λ i. inr (i.0, e ∙ i.1)) (u.each x l h))
                  | yes k ↦ (elim (ℕ_discrete (plane n 6 now at) 0) [
                    | no z ↦ (let e : plane n 6 b (plane n 1 a x - 1) ≡ plane n 6 now (plane n 1 a x - 1) = ap (plane n 6 b) k ∙ w.done z ∙ ap (plane n 6 now) (sym k) in
                        ⊎_elim (λ i. inl (e ∙ i)) (λ i. inr (i.0, e ∙ i.1)) (u.each x l h))
                    | yes z ↦ (let gx : plane n 1 a x ≡ suc at = omega arith in
                        inr (
                          ap (plane n 6 a) k ∙ free_was x at (of_rule st x l) gx z,
                          ap (plane n 6 b) k ∙ w.right z x (of_rule st x l) (label_now x (of_rule st x l) ∙ gx) ∙ ap fate_number (fate-same x at (of_rule st x l) gx z),
                        ))
                  ])
                ]

            frozen' : (x : ℕ) → x < rule.places → 0 < plane n 1 a x → not (eqb (plane n 4 b x) 0) ≡ (marked s₀.frozen x || (eqb (plane n 6 a (plane n 1 a x - 1)) 0 && eqb (plane n 6 b (plane n 1 a x - 1)) 1))
            frozen' x l h =
                elim (ℕ_discrete (plane n 1 a x - 1) at) [
                  | no z ↦ (let e = other x (of_rule st x l) h z (in_use x (of_rule st x l) h) in
                      let i = w.thawed x (of_rule st x l) (inl (λ g. z (let g' : plane n 1 a x ≡ suc at = sym (label_now x (of_rule st x l)) ∙ g in omega arith))) in
                      ap (λ (c : ℕ). not (eqb c 0)) i ∙ u.frozen x l h ∙ ap (λ (c : ℕ). marked s₀.frozen x || (eqb (plane n 6 a (plane n 1 a x - 1)) 0 && eqb c 1)) (sym e))
                  | yes k ↦ (let gx : plane n 1 a x ≡ suc at = omega arith in
                      let ga : plane n 1 now x ≡ suc at = label_now x (of_rule st x l) ∙ gx in
                      elim (ℕ_discrete (plane n 6 now at) 0) [
                        | no z ↦ (let e : plane n 6 b (plane n 1 a x - 1) ≡ plane n 6 now (plane n 1 a x - 1) = ap (plane n 6 b) k ∙ w.done z ∙ ap (plane n 6 now) (sym k) in
                            let i = w.thawed x (of_rule st x l) (inr (inl z)) in
                            ap (λ (c : ℕ). not (eqb c 0)) i ∙ u.frozen x l h ∙ ap (λ (c : ℕ). marked s₀.frozen x || (eqb (plane n 6 a (plane n 1 a x - 1)) 0 && eqb c 1)) (sym e))
                        | yes z ↦ (let f = free_was x at (of_rule st x l) gx z in
                            let th = thaw_at x at (of_rule st x l) gx f in
                            let f' : plane n 6 a (plane n 1 a x - 1) ≡ 0 = ap (plane n 6 a) k ∙ f in
                            let nb : plane n 6 b (plane n 1 a x - 1) ≡ plane n 6 b at = ap (plane n 6 b) k in
                            elim (ℕ_discrete (plane n 6 b at) 1) [
                              | yes o ↦ (let i = w.frozen z o x (of_rule st x l) ga in rw (i, th, f', nb, o))
                              | no o ↦ (let i = w.thawed x (of_rule st x l) (inr (inr o)) in
                                  let na : plane n 6 now (plane n 1 a x - 1) ≡ 0 = ap (plane n 6 now) k ∙ z in
                                  let old : not (eqb (plane n 4 now x) 0) ≡ false = u.frozen x l h ∙ rw (th, f', na) in
                                  ap (λ (c : ℕ). not (eqb c 0)) i ∙ old ∙ rw (th, f', nb, ne_eqb (plane n 6 b at) 1 o))
                            ])
                      ])
                ]

  -- no group is judged yet
  pub met_start : Met rule grid k (λ l. ⊥) a a from from
  unfolding frozen_of
  met_start =
      record {
        len = refl;
        stage = st;
        same = λ i q l z. refl;
        large = λ q l. refl;
        judging = record { each = λ x l z. inl refl; frozen = λ x l z. sym (frozen_is n a x (of_rule st x l)) ∙ none_more (marked (state_of n a).frozen x) _ (not_both (plane n 6 a (plane n 1 a x - 1))) };
        numbered = λ x at l y z. absurd z;
        log = filed_start n from a;
      }

  -- one more is
  module _ {met : ℕ → Type 0} {end at : ℕ} {b : List ℕ} (u : Met rule grid k met a b from end) (g : Group n b at) {c : List ℕ} {r : ℕ} (v : Noted rule n at end b c r) where
    pub met_step : Met rule grid k (λ l. met l ⊎ (l ≡ at)) a c from r
    met_step = record {
      len = v.len ∙ u.len;
      stage = stage_noted u.stage g v;
      same = λ i q l z. v.same i q l z ∙ u.same i q l z;
      large = λ q l. v.large q l ∙ u.large q l;
      judging = judging_noted b u.same u.judging at end c r v in_use;
      numbered = numbered';
      log = filed_trans n from end r a b c (λ q l. u.same 1 q (omega arith) l) was stays u.log
          (filed_noted rule n at end b c r v (λ x l b e. (u.stage.sheet.groups x l b e).label) lead lead-at.0 lead-at.1);
    }
      where
        lead : ℕ
        lead = plane n 2 b (end_of n b at)

        lead-at : (lead < n) × (plane n 1 b lead ≡ suc at)
        lead-at = g.places (end_of n b at) (omega arith) g.some

        in_use : (x : ℕ) → x < n → 0 < plane n 1 a x → plane n 1 a x - 1 < n
        in_use x l z = (u.stage.sheet.groups x (plane n 1 a x - 1) l (u.same 1 x (omega arith) l ∙ omega arith)).label

        was : (x t : ℕ) → x < n → plane n 1 a x ≡ suc t → plane n 6 b t ≡ 0 → plane n 6 a t ≡ 0
        was x t l y z = free_was b u.same u.judging x t l y z

        stays : (x t : ℕ) → x < n → plane n 1 a x ≡ suc t → (plane n 6 b t ≡ 0 → ⊥) → plane n 6 c t ≡ plane n 6 b t
        stays x t l y z =
            let lt : t < n = (u.stage.sheet.groups x t l (u.same 1 x (omega arith) l ∙ y)).label in
            elim (ℕ_discrete t at) [ no d ↦ v.numbers t lt d | yes i ↦ ap (plane n 6 c) i ∙ v.done (λ q. z (ap (plane n 6 b) i ∙ q)) ∙ ap (plane n 6 b) (sym i) ]

        numbered' : (x t : ℕ) → x < n → plane n 1 a x ≡ suc t → met t ⊎ (t ≡ at) → plane n 6 a t ≡ 0 → plane n 6 c t ≡ fate_number (fate (fates rule (state_of n a)) x)
        numbered' x t l y z f =
            let lt : t < n = (u.stage.sheet.groups x t l (u.same 1 x (omega arith) l ∙ y)).label in
            let k1 : plane n 1 a x - 1 ≡ t = omega arith in
            elim (ℕ_discrete t at) [
              | no d ↦ ⊎_elim (λ i. v.numbers t lt d ∙ u.numbered x t l y i f) (λ i. absurd (d i)) z
              | yes i ↦ (elim (ℕ_discrete (plane n 6 b t) 0) [
                | yes o ↦ (let o' : plane n 6 b at ≡ 0 = rw i at o in
                    let y' : plane n 1 a x ≡ suc at = rw i at y in
                    ap (plane n 6 c) i ∙ v.right o' x l (u.same 1 x (omega arith) l ∙ y')
                    ∙ ap fate_number (fate-same b u.same u.judging x at l y' o'))
                | no o ↦ (let done : plane n 6 c t ≡ plane n 6 b t = ap (plane n 6 c) i ∙ v.done (λ q. o (ap (plane n 6 b) i ∙ q)) ∙ ap (plane n 6 b) (sym i) in
                    ⊎_elim (λ q. absurd (o (sym (ap (plane n 6 b) k1) ∙ q ∙ ap (plane n 6 a) k1 ∙ f))) (λ q. done ∙ sym (ap (plane n 6 b) k1) ∙ q.1) (u.judging.each x (in_rule st x l) (omega arith)))
              ])
            ]

  -- one judging after another
  module _ {first second : ℕ → Type 0} {mid end : ℕ} {b c : List ℕ} (u : Met rule grid k first a b from mid) (v : Met rule grid k second b c mid end) where
    abbrev sa : State
    sa = state_of n a

    abbrev num : List ℕ → ℕ → ℕ
    num l x = plane n 6 l (plane n 1 a x - 1)

    label_mid : (x : ℕ) → x < n → plane n 1 b x ≡ plane n 1 a x
    label_mid x l = u.same 1 x (omega arith) l

    -- what a group of b without a number is in a
    mid_free : (x : ℕ) → x < n → 0 < plane n 1 a x → num b x ≡ 0 → (num a x ≡ 0) × (fate (fates rule (state_of n b)) x ≡ fate (fates rule sa) x)
    mid_free x l z o =
        let y : plane n 1 a x ≡ suc (plane n 1 a x - 1) = omega arith in (
          free_was b u.same u.judging x (plane n 1 a x - 1) l y o,
          fate-same b u.same u.judging x (plane n 1 a x - 1) l y o,
        )

    -- the second judging, by the labels of a
    each_then : (x : ℕ) → x < n → 0 < plane n 1 a x → (num c x ≡ num b x) ⊎ ((num b x ≡ 0) × (num c x ≡ fate_number (fate (fates rule (state_of n b)) x)))
    each_then x l z = let i = label_mid x l in rw i at (v.judging.each x (in_rule st x l) (rw i z))

    pub met_trans : Met rule grid k (λ l. first l ⊎ second l) a c from end
    unfolding frozen_of
    met_trans = record {
      len = v.len ∙ u.len;
      stage = v.stage;
      same = λ i q l z. v.same i q l z ∙ u.same i q l z;
      large = λ q l. v.large q l ∙ u.large q l;
      judging = record { each = λ x l z. each' x (of_rule st x l) z; frozen = λ x l z. frozen' x (of_rule st x l) z };
      numbered = numbered';
      log = filed_trans n from mid end a b c label_mid was stays u.log v.log;
    }
      where
        each' : (x : ℕ) → x < n → 0 < plane n 1 a x → (num c x ≡ num a x) ⊎ ((num a x ≡ 0) × (num c x ≡ fate_number (fate (fates rule sa) x)))
        each' x l z =
            ⊎_elim
            (λ i. ⊎_elim (λ j. inl (i ∙ j)) (λ j. inr (j.0, i ∙ j.1)) (u.judging.each x (in_rule st x l) z))
            (λ i. let f = mid_free x l z i.0 in inr (f.0, i.1 ∙ ap fate_number f.1))
            (each_then x l z)

        frozen' : (x : ℕ) → x < n → 0 < plane n 1 a x → frozen_of n c x ≡ (marked sa.frozen x || (eqb (num a x) 0 && eqb (num c x) 1))
        frozen' x l z =
            let i = label_mid x l in
            let fc : frozen_of n c x ≡ (marked (state_of n b).frozen x || (eqb (num b x) 0 && eqb (num c x) 1)) = rw i at (v.judging.frozen x (in_rule st x l) (rw i z)) in
            let fb : marked (state_of n b).frozen x ≡ (marked sa.frozen x || (eqb (num a x) 0 && eqb (num b x) 1)) = frozen_is n b x l ∙ u.judging.frozen x (in_rule st x l) z in
            elim (ℕ_discrete (num b x) 0) [
              | yes o ↦ (let na = (mid_free x l z o).0 in fc ∙ rw (fb, o, na) (join_none (marked sa.frozen x) (eqb (num c x) 1)))
              | no o ↦ (let j : num c x ≡ num b x = ⊎_elim (λ q. q) (λ q. absurd (o q.0)) (each_then x l z) in
                  fc ∙ sym (none_more (marked (state_of n b).frozen x) (eqb (num b x) 0 && eqb (num c x) 1) (rw (ne_eqb (num b x) 0 o))) ∙ fb
                  ∙ ap (λ (y : ℕ). marked sa.frozen x || (eqb (num a x) 0 && eqb y 1)) (sym j))
            ]

        was : (x t : ℕ) → x < n → plane n 1 a x ≡ suc t → plane n 6 b t ≡ 0 → plane n 6 a t ≡ 0
        was x t l y z =
            let k1 : plane n 1 a x - 1 ≡ t = omega arith in
            sym (ap (plane n 6 a) k1) ∙ (mid_free x l (omega arith) (ap (plane n 6 b) k1 ∙ z)).0

        stays : (x t : ℕ) → x < n → plane n 1 a x ≡ suc t → (plane n 6 b t ≡ 0 → ⊥) → plane n 6 c t ≡ plane n 6 b t
        stays x t l y z =
            let k1 : plane n 1 a x - 1 ≡ t = omega arith in
            let nb : num b x ≡ plane n 6 b t = ap (plane n 6 b) k1 in
            sym (ap (plane n 6 c) k1) ∙ ⊎_elim (λ i. i) (λ i. absurd (z (sym nb ∙ i.0))) (each_then x l (omega arith)) ∙ nb

        numbered' : (x t : ℕ) → x < n → plane n 1 a x ≡ suc t → first t ⊎ second t → plane n 6 a t ≡ 0 → plane n 6 c t ≡ fate_number (fate (fates rule sa) x)
        numbered' x t l y z f =
            let k1 : plane n 1 a x - 1 ≡ t = omega arith in
            let some : 0 < plane n 1 a x = omega arith in
            let nc : num c x ≡ plane n 6 c t = ap (plane n 6 c) k1 in
            let nb : num b x ≡ plane n 6 b t = ap (plane n 6 b) k1 in
            let na : num a x ≡ 0 = ap (plane n 6 a) k1 ∙ f in
            elim (ℕ_discrete (num b x) 0) [
              | yes o ↦ ⊎_elim
                  (λ i. ⊎_elim (λ j. sym nc ∙ j ∙ nb ∙ u.numbered x t l y i f) (λ j. sym nc ∙ j.1 ∙ ap fate_number (mid_free x l some o).1) (each_then x l some))
                  (λ i. v.numbered x t l (label_mid x l ∙ y) i (sym nb ∙ o) ∙ ap fate_number (mid_free x l some o).1)
                  z
              | no o ↦ (let j : num c x ≡ num b x = ⊎_elim (λ q. q) (λ q. absurd (o q.0)) (each_then x l some) in
                  ⊎_elim (λ q. absurd (o (q ∙ na))) (λ q. sym nc ∙ j ∙ q.1) (u.judging.each x (in_rule st x l) some))
            ]

  -- ---- the small groups that are named

  -- none is
  pub met_none : {near : ℕ → Type 0} → ((q : ℕ) → q < n → near q → ⊥) → Met rule grid k (Small n a near) a a from from
  met_none f = met_fewer (λ l z. absurd (f z.place z.bound z.named)) met_start

  -- first these are judged, and then those
  pub met_more : {first second near : ℕ → Type 0} {mid end : ℕ} {b c : List ℕ} → ((q : ℕ) → q < n → near q → first q ⊎ second q) →
      Met rule grid k (Small n a first) a b from mid → Met rule grid k (Small n b second) b c mid end → Met rule grid k (Small n a near) a c from end
  met_more f u v =
      met_fewer (λ l z. ⊎_elim (λ y. inl (renamed z y)) (λ y. inr (record {
        place = z.place;
        named = y;
        bound = z.bound;
        little = u.large z.place z.bound ∙ z.little;
        label = u.same 1 z.place (omega arith) z.bound ∙ z.label;
      })) (f z.place z.bound z.named))
      (met_trans u v)

-- ---- the cell that a step finds

module _ {rule : Rule} {grid : Grid} {k end : ℕ} {a : List ℕ} (st : Stage rule grid k end a) (o : Option ℕ) where
  -- no small one: nothing is judged
  pub met_unfound : ((l : ℕ) → Small (area_of grid) a (λ q. o ≡ Some q) l → ⊥) → Met rule grid k (Small (area_of grid) a (λ q. o ≡ Some q)) a a end end
  met_unfound f = met_fewer (λ l z. absurd (f l z)) (met_start st)

  -- its group is judged
  pub met_found : {at r : ℕ} {b : List ℕ} → Small (area_of grid) a (λ q. o ≡ Some q) at → Noted rule (area_of grid) at end a b r → Met rule grid k (Small (area_of grid) a (λ q. o ≡ Some q)) a b end r
  met_found s u =
      met_fewer (λ l z. inr (let e : z.place ≡ s.place = cc in omega (arith, z.label, s.label, ap (plane (area_of grid) 1 a) e)))
      (met_step st (met_start st) (st.sheet.groups s.place _ s.bound s.label) u)

-- ---- what a turn reads

module _ {rule : Rule} {grid : Grid} {k from end : ℕ} {met : ℕ → Type 0} {a b : List ℕ} (st : Stage rule grid k from a) where
  -- a place of the group
  pub met_turn : {at i : ℕ} {span : Span} → Group (area_of grid) a at → (span.from ≡ end_of (area_of grid) a at) × (span.to ≡ end_of (area_of grid) a (suc at)) → Met rule grid k met a b from end → end_of (area_of grid) a at ≤ i → i < span.to → SpanTurn (area_of grid) i span a b
  met_turn group ends u low turn = span_turn (sheet-few st.sheet) st.sheet.room (group-stretch group ends) u.len (λ q l. u.same 2 q (omega arith) l) (omega (arith, ends.0)) turn

  -- a group of the log
  pub met_log : {i : ℕ} → Met rule grid k met a b from end → i < from → Group (area_of grid) a (plane (area_of grid) 7 a i) → LogTurn (area_of grid) from i a b
  met_log u turn group = log_turn (sheet-few st.sheet) st.sheet.room (omega (arith, st.room)) turn u.len (λ l. u.log.kept _ turn) group
