-- Judging a group leaves the planes as the next step needs them. Assumes nothing.
use Prim.Native.Nat.{ℕ, suc, ◌+◌, ◌-◌, ◌≤◌, ◌<◌}
use mathlib.Core.Path.{◌≡◌, sym, ap, ◌∙◌}
use mathlib.Core.Logic.{inl, inr, ⊎_elim}
use mathlib.Core.Bool.{true, false, not}
use mathlib.Core.List.{List}
use native.Mathlib.Decide.{ℕ_discrete}
use native.Mathlib.Omega.{arith}
use borrow.Author.Tests.{ne_eqb}
use lib.Dec.{eqb, ltb}
use lib.IntN.{ℤ}
use Rattle.base.specs.Places.{count}
use Rattle.base.proofs.Counting.{case, clash, left, leb_yes, no_leb, table_at, count_mono, count_less, count_some}
use Rattle.rules.specs.Regions.{opaque}
use Rattle.rules.specs.Pass.{Rule, marked, is_small, small, large}
use Rattle.rules.proofs.Roots.{opaque-below}
use Rattle.grid.specs.declared.Grid.{Grid}
use Rattle.grid.specs.Planes.{plane, cells_of, end_of}
use Rattle.grid.proofs.Planes.{cells_kept, cells-size}
use Rattle.verdicts.specs.Steps.{area_of}
use Rattle.verdicts.specs.Judging.{state_of, large_of, Sound}
use Rattle.verdicts.specs.Groups.{Group, GroupedSheet}
use Rattle.frontier.specs.Judging.{Noted, idle, Stage}
use Rattle.verdicts.proofs.Keeping.{Alike, sheet_alike}
use Rattle.frontier.proofs.Idle.{idle_record, record_idle, idle_was}

-- a place is frozen where plane 4 is not 0
pub frozen_is : (n : ℕ) (work : List ℕ) (x : ℕ) → x < n → marked (state_of n work).frozen x ≡ not (eqb (plane n 4 work x) 0)
unfolding state_of marked
frozen_is n work x l = table_at n (λ p. not (eqb (plane n 4 work p) 0)) false x l

pub big_some : (n : ℕ) (work : List ℕ) (q : ℕ) → (plane n 5 work q ≡ 0 → ⊥) → large_of n work q ≡ true
unfolding large_of
big_some n work q z = rw (ne_eqb (plane n 5 work q) 0 z)

pub zero_big : (n : ℕ) (work : List ℕ) (q : ℕ) → plane n 5 work q ≡ 0 → large_of n work q ≡ false
unfolding large_of
zero_big n work q e = rw e

module _ {rule : Rule} {grid : Grid} {k at end : ℕ} {a : List ℕ} (st : Stage rule grid k end a) (g : Group (area_of grid) a at) where
  abbrev n : ℕ
  n = area_of grid

  abbrev lead : ℕ
  lead = plane n 2 a (end_of n a at)

  lead-at : (lead < n) × (plane n 1 a lead ≡ suc at)
  lead-at = g.places (end_of n a at) (omega arith) g.some

  idle-lead : plane n 6 a at ≡ 0 → plane n 5 a lead ≡ 0 → idle n a lead ≡ true
  idle-lead z y =
      let e : plane n 1 a lead - 1 ≡ at = omega (arith, lead-at.1) in
      record_idle n a lead (record { label = omega (arith, lead-at.1); little = zero_big n a lead y; number = omega (arith, ap (plane n 6 a) e, z) })

  -- the log has room for a group that may be decided
  pub stage_room : (end ≤ n) × (plane n 6 a at ≡ 0 → plane n 5 a lead ≡ 0 → end < n)
  stage_room = (
    omega (arith, st.room),
    (λ z y. let c = count_some n (idle n a) lead lead-at.0 (idle-lead z y) in omega (arith, st.room)),
  )

  module _ {b : List ℕ} {r : ℕ} (u : Noted rule n at end a b r) where
    same-cells : cells_of n b ≡ cells_of n a
    same-cells = cells_kept n b a (λ p l. u.same 0 p (omega arith) l)

    label_same : (q : ℕ) → q < n → plane n 1 b q ≡ plane n 1 a q
    label_same q l = u.same 1 q (omega arith) l

    alike : Alike n a b
    alike = record { label = label_same; order = λ q l. u.same 2 q (omega arith) l; ends = λ q l. u.same 3 q (omega arith) l }

    sheet_noted : GroupedSheet grid b
    sheet_noted = sheet_alike st.sheet u.len alike (λ q l. inl (u.same 0 q (omega arith) l, (λ z e. clash (big_some n b q z) (u.large q l ∙ zero_big n a q e))))

    -- a group without a number now had none
    was_free : plane n 6 b at ≡ 0 → plane n 6 a at ≡ 0
    was_free z = elim (ℕ_discrete (plane n 6 a at) 0) [ yes y ↦ y | no y ↦ absurd (y (sym (u.done y) ∙ z)) ]

    was_none : (l : ℕ) → l < n → plane n 6 b l ≡ 0 → plane n 6 a l ≡ 0
    was_none l h z = elim (ℕ_discrete l at) [ yes y ↦ rw y (was_free (rw y at z)) | no y ↦ sym (u.numbers l h y) ∙ z ]

    frozen_same : (x : ℕ) → x < n → plane n 4 b x ≡ plane n 4 a x → marked (state_of n b).frozen x ≡ marked (state_of n a).frozen x
    frozen_same x l e = frozen_is n b x l ∙ ap (λ (v : ℕ). not (eqb v 0)) e ∙ sym (frozen_is n a x l)

    frozen_whole : (x y : ℕ) → x < n → y < n → 0 < plane n 1 b x → plane n 1 b x ≡ plane n 1 b y → marked (state_of n b).frozen x ≡ marked (state_of n b).frozen y
    frozen_whole x y lx ly h e =
        let e' : plane n 1 a x ≡ plane n 1 a y = sym (label_same x lx) ∙ e ∙ label_same y ly in
        let h' : 0 < plane n 1 a x = rw (← (label_same x lx)) h in
        let old = st.sound.frozen x y lx ly h' e' in
        elim (ℕ_discrete (plane n 1 a x) (suc at)) [
          | no z ↦ frozen_same x lx (u.thawed x lx (inl z)) ∙ old ∙ sym (frozen_same y ly (u.thawed y ly (inl (λ i. z (e' ∙ i)))))
          | yes m ↦ (elim (ℕ_discrete (plane n 6 a at) 0) [
            | no z ↦ frozen_same x lx (u.thawed x lx (inr (inl z))) ∙ old ∙ sym (frozen_same y ly (u.thawed y ly (inr (inl z))))
            | yes f ↦ (elim (ℕ_discrete (plane n 6 b at) 1) [
              | no z ↦ frozen_same x lx (u.thawed x lx (inr (inr z))) ∙ old ∙ sym (frozen_same y ly (u.thawed y ly (inr (inr z))))
              | yes o ↦ frozen_is n b x lx ∙ ap (λ (v : ℕ). not (eqb v 0)) (u.frozen f o x lx m ∙ sym (u.frozen f o y ly (sym e' ∙ m))) ∙ sym (frozen_is n b y ly)
            ])
          ])
        ]

    thawed_still : (x t : ℕ) → x < n → plane n 1 b x ≡ suc t → plane n 6 b t ≡ 0 → marked (state_of n b).frozen x ≡ true → ⊥
    thawed_still x t l e z y =
        let e' : plane n 1 a x ≡ suc t = sym (label_same x l) ∙ e in
        let lt : t < n = (st.sheet.groups x t l e').label in
        let same : plane n 4 b x ≡ plane n 4 a x = u.thawed x l (elim (ℕ_discrete t at) [
          | yes i ↦ inr (inr (λ o. let v : plane n 6 b at ≡ 0 = rw i at z in omega arith))
          | no i ↦ inl (λ o. i (let v : suc t ≡ suc at = sym e' ∙ o in omega arith))
        ]) in
        st.sound.thawed x t l e' (was_none t lt z) (sym (frozen_same x l same) ∙ y)

    small_in : (x : ℕ) → small rule (cells_of n b) x ≡ true → x < n
    unfolding small is_small
    small_in x y = opaque-below n rule.adj (cells_of n b) (cells-size n b) x (left (opaque (cells_of n b) x) _ y)

    sound_noted : Sound rule n b
    sound_noted = record {
      region = λ x y s l. let lx = small_in x s in
          let q = st.sound.region x y (rw same-cells at s) l in (
            (λ j. label_same x lx ∙ q.0 (rw same-cells at j) ∙ sym (label_same y l)),
            (λ e. rw same-cells (q.1 (sym (label_same x lx) ∙ e ∙ label_same y l))),
          );
      shown = λ x l. ((λ o. rw (label_same x l) ((st.sound.shown x l).0 (rw same-cells at o))), (λ m. rw same-cells ((st.sound.shown x l).1 (rw (label_same x l) at m))));
      frozen = frozen_whole;
      flags = λ x l. u.large x l ∙ st.sound.flags x l ∙ ap (λ (c : List ℤ). large rule c x) (sym same-cells);
      thawed = thawed_still;
      clear = λ x l e. let z : plane n 1 a x ≡ 0 = sym (label_same x l) ∙ e in
          frozen_same x l (u.thawed x l (inl (λ y. absurd (omega arith)))) ∙ st.sound.clear x l z;
    }

    unmarked_still : (t : ℕ) → t < n → plane n 6 b t ≡ 0 → (q : ℕ) → q < n → plane n 5 b q ≡ t + 2 → ⊥
    unmarked_still t lt z q l e =
        ⊎_elim (λ m. st.unmarked t lt (was_none t lt z) q l (sym m ∙ e))
        (λ m. m.1 (let i : t ≡ at = (let v : t + 2 ≡ at + 2 = sym e ∙ m.0 in omega arith) in rw i at z)) (u.marks q l)

    -- what is idle now was so
    was_idle : (x : ℕ) → x < n → idle n b x ≡ true → idle n a x ≡ true
    was_idle x l = idle_was n a b x (label_same x l) (λ y. u.large x l ∙ y) (λ t e less. elim (ℕ_discrete t at) [
      | no z ↦ rw (u.numbers t (st.sheet.groups x t l e).label z) at less
      | yes z ↦ (elim (ℕ_discrete (plane n 6 a at) 0) [ yes v ↦ rw (z, v) (omega arith) | no v ↦ rw z (rw (z, u.done v) at less) ])
    ])

    idle_not : 2 ≤ plane n 6 b at → idle n b lead ≡ false
    idle_not h =
        let e : plane n 1 b lead - 1 ≡ at = omega (arith, label_same lead lead-at.0, lead-at.1) in
        case (idle n b lead) (λ y. absurd (omega (arith, ap (plane n 6 b) e, (idle_record n b lead y).number))) (λ z. z)

    room_still : r + count n (idle n b) ≤ n
    room_still =
        let m = count_mono n (idle n b) (idle n a) was_idle in
        elim (ℕ_discrete (plane n 6 a at) 0) [
          | no z ↦ (let e = u.unlogged (inl z) in omega (arith, st.room))
          | yes f ↦ case (ltb (plane n 6 b at) 2)
              (λ y. let e = u.unlogged (inr (leb_yes {m = suc (plane n 6 b at)} {n = 2} y)) in omega (arith, st.room))
              (λ z. let two : 2 ≤ plane n 6 b at = (let v = no_leb {m = suc (plane n 6 b at)} {n = 2} z in omega arith) in
              let e = (u.logged f two).0 in
              let c = count_less n (idle n b) (idle n a) was_idle lead lead-at.0 (idle_not two) (idle-lead f (u.little f (λ o. omega arith))) in
              omega (arith, st.room))
        ]

    -- the next step may follow
    pub stage_noted : Stage rule grid k r b
    stage_noted = record {
      ruled = st.ruled;
      sheet = sheet_noted;
      known = record { few = st.known.few; below = λ q l. rw (u.same 0 q (omega arith) l) (st.known.below q l) };
      sound = sound_noted;
      unmarked = unmarked_still;
      room = room_still;
    }
