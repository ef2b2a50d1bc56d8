-- Small groups become large and are logged, one after the other. Assumes nothing.
use Prim.Native.Nat.{ℕ, suc, ◌+◌, ◌-◌, ◌*◌, ◌≤◌, ◌<◌}
use mathlib.Core.Path.{◌≡◌, refl, sym, ap, ◌∙◌}
use mathlib.Core.Logic.{◌⊎◌, inl, inr, ⊎_elim}
use mathlib.Core.Bool.{Bool, true, false, not, ◌||◌}
use mathlib.Core.List.{List}
use native.Mathlib.Decide.{ℕ_discrete, dec_lt}
use native.Mathlib.Omega.{arith}
use borrow.Author.Tests.{ne_eqb}
use lib.Dec.{eqb}
use lib.ListN.{length, set, length-set}
use Rattle.std.specs.Prelude.{Some}
use Rattle.base.proofs.Counting.{case, clash, yes_eqb, or_left, or_right, count_some}
use Rattle.grid.specs.declared.Grid.{Grid}
use Rattle.grid.specs.Planes.{plane}
use Rattle.grid.specs.Steps.{steps_of}
use Rattle.grid.proofs.Places.{hop}
use Rattle.grid.proofs.Planes.{plane-same, plane_else, plane_other}
use Rattle.verdicts.specs.Steps.{area_of}
use Rattle.verdicts.proofs.Votes.{Reached, reached_more, more_reached, reached_all, all_reached}
use Rattle.frontier.specs.Growing.{Logged, Matches, Growth, Cause, Gained}
use Rattle.frontier.proofs.Idle.{idle_record, record_idle, idle_was}
use Rattle.frontier.proofs.Stages.{big_some}
use Rattle.frontier.proofs.Growth.{logged_start, logged_step, room_step}
use Rattle.verdicts.specs.Groups.{GroupedSheet}
use Rattle.verdicts.specs.Judging.{large_of}
use Rattle.frontier.specs.Judging.{idle, RegionSet}
use Rattle.verdicts.proofs.Keeping.{Alike, sheet_alike}

-- ---- the tests

pub big_same : (n : ℕ) (a b : List ℕ) (q : ℕ) → plane n 5 b q ≡ plane n 5 a q → large_of n b q ≡ large_of n a q
unfolding large_of
big_same n a b q e = ap (λ (x : ℕ). not (eqb x 0)) e

pub big_one : (n : ℕ) (work : List ℕ) (q : ℕ) → plane n 5 work q ≡ 1 → large_of n work q ≡ true
unfolding large_of
big_one n work q e = rw e

or_none : (b c : Bool) → c ≡ false → b ≡ (b || c)
or_none true c e = refl
or_none false c e = sym e

-- ---- one log after the other

pub logged_trans : (n : ℕ) (group group' : ℕ → ℕ) (big₀ big big' : ℕ → Bool) (log log' : ℕ → ℕ) (lo mid hi : ℕ) → lo ≤ mid → mid ≤ hi → ((x : ℕ) → x < n → group' x ≡ group x) →
    ((x : ℕ) → x < n → big₀ x ≡ true → big x ≡ true) → ((x : ℕ) → x < n → big x ≡ true → big' x ≡ true) → ((i : ℕ) → i < mid → log' i ≡ log i) →
    Logged n group big₀ big log lo mid → Logged n group' big big' log' mid hi → Logged n group big₀ big' log' lo hi
logged_trans n group group' big₀ big big' log log' lo mid hi l1 l2 label old then same u v = record { named = named'; new = new'; all = all' }
  where
    named' : (i : ℕ) → lo ≤ i → i < hi → (x : ℕ) × (x < n) × (group x ≡ suc (log' i))
    named' i l h =
        elim (dec_lt i mid) [
          | yes y ↦ (let w = u.named i l y in (w.0, w.1, w.2 ∙ ap suc (sym (same i y))))
          | no y ↦ (let w = v.named i (omega arith) h in (w.0, w.1, sym (label w.0 w.1) ∙ w.2))
        ]

    new' : (i x : ℕ) → lo ≤ i → i < hi → x < n → group x ≡ suc (log' i) → (big' x ≡ true) × (big₀ x ≡ false)
    new' i x l h b e =
        elim (dec_lt i mid) [
          | yes y ↦ (let w = u.new i x l y b (e ∙ ap suc (same i y)) in (then x b w.0, w.1))
          | no y ↦ (let w = v.new i x (omega arith) h b (label x b ∙ e) in (w.0, case (big₀ x) (λ z. clash (old x b z) w.1) (λ z. z)))
        ]

    all' : (x : ℕ) → x < n → big' x ≡ true → big₀ x ≡ false → (i : ℕ) × (lo ≤ i) × (i < hi) × (group x ≡ suc (log' i))
    all' x b y z =
        case (big x)
        (λ t. let w = u.all x b t z in (w.0, w.1, omega (arith, w.2), w.3 ∙ ap suc (sym (same w.0 w.2))))
        (λ t. let w = v.all x b y t in (w.0, omega (arith, w.1), w.2, sym (label x b) ∙ w.3))

-- ---- what was gained

-- nothing is
pub gained_start : (grid : Grid) (end : ℕ) (near : ℕ → Type 0) (a : List ℕ) → Growth grid end a → ((q : ℕ) → q < area_of grid → near q → 0 < plane (area_of grid) 1 a q → large_of (area_of grid) a q ≡ true) → Gained grid near a a end end
gained_start grid end near a g f = record {
  len = refl;
  growth = g;
  same = λ j q z y l. refl;
  flags = λ q l. inl refl;
  told = f;
  rises = omega arith;
  kept = λ i l. refl;
  logged = logged_start (area_of grid) (plane (area_of grid) 1 a) (large_of (area_of grid) a) (large_of (area_of grid) a) (plane (area_of grid) 7 a) end (λ x l. refl);
}

-- nothing to gain, since no place that `near` names is small
pub gained_none : (grid : Grid) (end : ℕ) (near : ℕ → Type 0) (a : List ℕ) → Growth grid end a → ((q : ℕ) → q < area_of grid → near q → 0 < plane (area_of grid) 1 a q → plane (area_of grid) 5 a q ≡ 0 → ⊥) → Gained grid near a a end end
gained_none grid end near a g f = gained_start grid end near a g (λ q l z y. big_some (area_of grid) a q (f q l z y))

-- the same places by another name
pub gained_same : {grid : Grid} {near near' : ℕ → Type 0} {a b : List ℕ} {from end : ℕ} → ((q : ℕ) → q < area_of grid → near q → near' q) → ((q : ℕ) → q < area_of grid → near' q → near q) → Gained grid near a b from end → Gained grid near' a b from end
gained_same f g u = record {
  len = u.len;
  growth = u.growth;
  same = u.same;
  flags = λ q l. ⊎_elim inl (λ z. let c = z.1 in inr (z.0, record { by = c.by; bound = c.bound; named = f c.by c.bound c.named; label = c.label; group = c.group; little = c.little })) (u.flags q l);
  told = λ q l z y. u.told q l (g q l z) y;
  rises = u.rises;
  kept = u.kept;
  logged = u.logged;
}

pub gained_old : {grid : Grid} {near : ℕ → Type 0} {a b : List ℕ} {from end : ℕ} → Gained grid near a b from end → (x : ℕ) → x < area_of grid → large_of (area_of grid) a x ≡ true → large_of (area_of grid) b x ≡ true
gained_old {grid} {a = a} {b = b} u x l y = ⊎_elim (λ e. big_same (area_of grid) a b x e ∙ y) (λ e. big_one (area_of grid) b x e.0) (u.flags x l)

pub gained_alike : {grid : Grid} {near : ℕ → Type 0} {a b : List ℕ} {from end : ℕ} → Gained grid near a b from end → Alike (area_of grid) a b
gained_alike u = record {
  label = λ q l. u.same 1 q (λ z. absurd (omega arith)) (λ z. absurd (omega arith)) l;
  order = λ q l. u.same 2 q (λ z. absurd (omega arith)) (λ z. absurd (omega arith)) l;
  ends = λ q l. u.same 3 q (λ z. absurd (omega arith)) (λ z. absurd (omega arith)) l;
}

-- the sheet is as it was
pub gained_paint : {grid : Grid} {near : ℕ → Type 0} {a b : List ℕ} {from end : ℕ} → Gained grid near a b from end → (q : ℕ) → q < area_of grid → plane (area_of grid) 0 b q ≡ plane (area_of grid) 0 a q
gained_paint u q l = u.same 0 q (λ z. absurd (omega arith)) (λ z. absurd (omega arith)) l

-- so a neighbour of a place has its paint exactly if it had
module _ {grid : Grid} {near : ℕ → Type 0} {a b : List ℕ} {from end : ℕ} (u : Gained grid near a b from end) (p q : ℕ) (lp : p < area_of grid) (lq : q < area_of grid) where
  pub matches_now : Matches grid a p q → Matches grid b p q
  matches_now z = (z.0, gained_paint u q lq ∙ z.1 ∙ sym (gained_paint u p lp))

  pub matches_was : Matches grid b p q → Matches grid a p q
  matches_was z = (z.0, sym (gained_paint u q lq) ∙ z.1 ∙ gained_paint u p lp)

-- one after the other
module _ {grid : Grid} {first second : ℕ → Type 0} {a b c : List ℕ} {from mid end : ℕ} (u : Gained grid first a b from mid) (v : Gained grid second b c mid end) where
  label_mid : (q : ℕ) → q < area_of grid → plane (area_of grid) 1 b q ≡ plane (area_of grid) 1 a q
  label_mid q l = (gained_alike u).label q l

  pub gained_trans : Gained grid (λ q. first q ⊎ second q) a c from end
  gained_trans = record {
    len = v.len ∙ u.len;
    growth = v.growth;
    same = λ j q z y l. v.same j q z y l ∙ u.same j q z y l;
    flags = flags';
    told = λ q l z y. ⊎_elim (λ i. gained_old v q l (u.told q l i y)) (λ i. v.told q l i (rw (label_mid q l) y)) z;
    rises = omega (arith, u.rises, v.rises);
    kept = λ i l. v.kept i (omega (arith, u.rises)) ∙ u.kept i l;
    logged = logged_trans (area_of grid) (plane (area_of grid) 1 a) (plane (area_of grid) 1 b) (large_of (area_of grid) a) (large_of (area_of grid) b) (large_of (area_of grid) c) (plane (area_of grid) 7 b) (plane (area_of grid) 7 c) from mid end
        u.rises v.rises label_mid (gained_old u) (gained_old v) v.kept u.logged v.logged;
  }
    where
      flags' : (q : ℕ) → q < area_of grid → (plane (area_of grid) 5 c q ≡ plane (area_of grid) 5 a q) ⊎ ((plane (area_of grid) 5 c q ≡ 1) × Cause (area_of grid) a (λ x. first x ⊎ second x) q)
      flags' q l =
          ⊎_elim
          (λ e. ⊎_elim (λ f. inl (e ∙ f)) (λ f. let z = f.1 in inr (e ∙ f.0, record { by = z.by; bound = z.bound; named = inl z.named; label = z.label; group = z.group; little = z.little })) (u.flags q l))
          (λ e. let z = e.1 in
          let i = label_mid z.by z.bound in
          inr (
            e.0,
            record {
              by = z.by;
              bound = z.bound;
              named = inr z.named;
              label = rw i at z.label;
              group = sym (label_mid q l) ∙ z.group ∙ i;
              little = case (large_of (area_of grid) a z.by) (λ y. clash (gained_old u z.by z.bound y) z.little) (λ y. y);
            },
          ))
          (v.flags q l)

-- ---- the steps from a place

-- one of the first s steps from p leads to q, which has its paint
abbrev pub MatchesBy : Grid → List ℕ → ℕ → ℕ → ℕ → Type 0
MatchesBy grid a p s q = Reached grid p s q × (plane (area_of grid) 0 a q ≡ plane (area_of grid) 0 a p)

module _ (grid : Grid) (a : List ℕ) (p : ℕ) {from : ℕ} where
  pub beside_start : Growth grid from a → Gained grid (MatchesBy grid a p 0) a a from from
  beside_start g = gained_start grid from _ a g (λ q l z y. let n = z.0.1 in absurd (omega arith))

  pub beside_on : {b c : List ℕ} {mid end : ℕ} (s paint : ℕ) → paint ≡ plane (area_of grid) 0 a p → Gained grid (MatchesBy grid a p s) a b from mid →
      Gained grid (λ q. (hop grid.h grid.w p s ≡ Some q) × (plane (area_of grid) 0 b q ≡ paint)) b c mid end → Gained grid (MatchesBy grid a p (s + 1)) a c from end
  beside_on s paint e u v =
      gained_same
      (λ q l. ⊎_elim (λ z. (more_reached grid p s (inl z.0), z.1)) (λ z. (more_reached grid p s (inr z.0), sym (gained_paint u q l) ∙ z.1 ∙ e)))
      (λ q l z. ⊎_elim (λ y. inl (y, z.1)) (λ y. inr (y, gained_paint u q l ∙ z.1 ∙ sym e)) (reached_more grid p s z.0))
      (gained_trans u v)

  pub beside_all : {b : List ℕ} {end : ℕ} (s : ℕ) → s ≡ steps_of grid.near → Gained grid (MatchesBy grid a p s) a b from end → Gained grid (Matches grid a p) a b from end
  beside_all s e u = gained_same (λ q l z. (reached_all grid p s (omega arith) z.0, z.1)) (λ q l z. (all_reached grid p s (omega arith) l z.0, z.1)) u

-- ---- one group

module _ (grid : Grid) (end : ℕ) (a : List ℕ) (g : Growth grid end a) (q at : ℕ) (lq : q < area_of grid) (eq : plane (area_of grid) 1 a q ≡ suc at) (lit : large_of (area_of grid) a q ≡ false) where
  abbrev n : ℕ
  n = area_of grid

  small : (x : ℕ) → x < n → plane n 1 a x ≡ suc at → large_of n a x ≡ false
  small x l e = g.whole x q l lq (omega arith) (e ∙ sym eq) ∙ lit

  idle_q : idle n a q ≡ true
  idle_q =
      let k : plane n 1 a q - 1 ≡ at = omega arith in
      let lo : plane n 6 a at < 2 = elim (dec_lt (plane n 6 a at) 2) [ yes y ↦ y | no z ↦ clash (g.done q at lq eq (omega arith)) lit ] in
      record_idle n a q (record { label = omega arith; little = lit; number = rw k lo })

  -- the log has room for it
  pub grown_room : end < n
  grown_room = let c = count_some n (idle n a) q lq idle_q in omega (arith, g.room)

  module _ (b : List ℕ) (s : RegionSet n at 5 1 a b) (i : ℕ) (ei : i ≡ 7 * n + end) (li : i < length b) where
    abbrev c : List ℕ
    c = set b i at

    off : (m x : ℕ) → (5 ≡ m → ⊥) → (7 ≡ m → ⊥) → x < n → plane n m c x ≡ plane n m a x
    off m x z y l = plane_other n 7 end i b at ei m x y grown_room l ∙ s.others m x z l

    five : (x : ℕ) → x < n → plane n 5 c x ≡ plane n 5 b x
    five x l = plane_other n 7 end i b at ei 5 x (λ z. absurd (omega arith)) grown_room l

    label : (x : ℕ) → x < n → plane n 1 c x ≡ plane n 1 a x
    label x l = off 1 x (λ z. absurd (omega arith)) (λ z. absurd (omega arith)) l

    mine : (x : ℕ) → x < n → plane n 1 a x ≡ suc at → plane n 5 c x ≡ 1
    mine x l e = five x l ∙ s.new x l e

    other : (x : ℕ) → x < n → (plane n 1 a x ≡ suc at → ⊥) → plane n 5 c x ≡ plane n 5 a x
    other x l d = five x l ∙ s.old x l d

    big_now : (x : ℕ) → x < n → large_of n c x ≡ (large_of n a x || eqb (plane n 1 a x) (suc at))
    big_now x l =
        elim (ℕ_discrete (plane n 1 a x) (suc at)) [
          | yes e ↦ big_one n c x (mine x l e) ∙ sym (or_right (large_of n a x) (yes_eqb e))
          | no d ↦ big_same n a c x (other x l d) ∙ or_none (large_of n a x) (eqb (plane n 1 a x) (suc at)) (ne_eqb (plane n 1 a x) (suc at) d)
        ]

    alike : Alike n a c
    alike = record {
      label = label;
      order = λ x l. off 2 x (λ z. absurd (omega arith)) (λ z. absurd (omega arith)) l;
      ends = λ x l. off 3 x (λ z. absurd (omega arith)) (λ z. absurd (omega arith)) l;
    }

    paint : (x : ℕ) → x < n → plane n 0 c x ≡ plane n 0 a x
    paint x l = off 0 x (λ z. absurd (omega arith)) (λ z. absurd (omega arith)) l

    -- the number of a group that is in use
    number : (x t : ℕ) → x < n → plane n 1 a x ≡ suc t → plane n 6 c t ≡ plane n 6 a t
    number x t l e = off 6 t (λ z. absurd (omega arith)) (λ z. absurd (omega arith)) (g.sheet.groups x t l e).label

    was_idle : (x : ℕ) → x < n → idle n c x ≡ true → idle n a x ≡ true
    was_idle x l = idle_was n a c x (label x l) (λ t. big_now x l ∙ or_left (eqb (plane n 1 a x) (suc at)) t) (λ t e z. rw (number x t l e) at z)

    idle_not : idle n c q ≡ false
    idle_not = case (idle n c q) (λ y. clash (big_one n c q (mine q lq eq)) (idle_record n c q y).little) (λ y. y)

    sheet_grown : GroupedSheet grid c
    sheet_grown =
        sheet_alike g.sheet (length-set b i at ∙ s.len) alike (λ x l. elim (ℕ_discrete (plane n 1 a x) (suc at)) [
          | yes e ↦ inr (rw (paint x l) (g.sheet.shown x l (λ y. absurd (omega arith)), g.sheet.paint x l))
          | no d ↦ inl (paint x l, (λ z y. z (other x l d ∙ y)))
        ])

    growth_grown : Growth grid (suc end) c
    growth_grown = record {
      sheet = sheet_grown;
      whole = λ x y l m p e. let e' : plane n 1 a x ≡ plane n 1 a y = sym (label x l) ∙ e ∙ label y m in
          let f = g.whole x y l m (rw (label x l) at p) e' in
          big_now x l ∙ (rw (f, e')) ∙ sym (big_now y m);
      done = λ x t l e z. let e' : plane n 1 a x ≡ suc t = sym (label x l) ∙ e in
          big_now x l ∙ or_left (eqb (plane n 1 a x) (suc at)) (g.done x t l e' (rw (number x t l e') at z));
      room = (room_step n (plane n 1 a) (large_of n a) (idle n a) (idle n c) end q g.room was_idle lq idle_q idle_not).1;
    }

    -- it alone is gained
    pub gained_one : (near : ℕ → Type 0) → near q → ((x : ℕ) → near x → x ≡ q) → Gained grid near a c end (suc end)
    gained_one near is only = record {
      len = length-set b i at ∙ s.len;
      growth = growth_grown;
      same = off;
      flags = λ x l. elim (ℕ_discrete (plane n 1 a x) (suc at)) [
        | yes e ↦ inr (mine x l e, record { by = q; bound = lq; named = is; label = omega arith; group = e ∙ sym eq; little = lit })
        | no d ↦ inl (other x l d)
      ];
      told = λ x l z y. big_one n c x (mine x l (ap (plane n 1 a) (only x z) ∙ eq));
      rises = omega arith;
      kept = kept';
      logged = logged_step n (plane n 1 a) (large_of n a) (large_of n a) (large_of n c) (plane n 7 a) (plane n 7 c) end end at (omega arith)
          (logged_start n (plane n 1 a) (large_of n a) (large_of n a) (plane n 7 a) end (λ x l. refl)) (λ x l y. y) small q lq eq big_now (plane-same n 7 end i b at ei li) kept';
    }
      where
        kept' : (j : ℕ) → j < end → plane n 7 c j ≡ plane n 7 a j
        kept' j l = plane_else n 7 end i b at ei j (λ z. absurd (omega arith)) ∙ s.others 7 j (λ z. absurd (omega arith)) (omega (arith, grown_room))
