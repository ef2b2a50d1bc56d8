-- Groups of places that serve every pass of a run: a region that is still small is a group, whatever was repainted around it.
-- With flags for the large places and a frontier they give the fates of a pass, and what becomes large in it. For any neighbourhood that works both ways round.
-- Assumes nothing.
use Prim.Native.Nat.{ℕ, ◌<◌}
use mathlib.Core.Path.{◌≡◌, sym, ap, ◌∙◌}
use mathlib.Core.Logic.{◌⊎◌, inl, inr, ⊎_elim, ◌↔◌}
use mathlib.Core.Bool.{Bool, true, false, not, ◌&&◌, ◌||◌}
use mathlib.Core.List.{List}
use native.Mathlib.Omega.{arith}
use lib.IntN.{ℤ}
use lib.Dec.{ltb, eqb}
use lib.ListN.{length}
use Rattle.base.specs.Places.{table, any}
use Rattle.rules.specs.Regions.{at, opaque, index, Joined, roots, root, inside, label, Symmetric}
use Rattle.rules.specs.Pass.{Rule, State, marked, small, large, view, Verdict, stay, target, judged, pending, merges, freezes, fates, fate, pass, repaints, fresh}
use Rattle.base.proofs.Counting.{case, clash, both, left, right, not_true, not_false, same_test, eqb_yes, yes_eqb, leb_yes, yes_leb, table_at, table-length, any_same}
use Rattle.rules.proofs.Roots.{join_left, join_right, join_same, join_trans, join_sym, opaque-below, joined-root, root-root, inside_join, join_inside, clear_root}
use Rattle.rules.proofs.Labels.{label_clear, label_positive, label-joined}
use Rattle.rules.proofs.Passes.{small-opaque, small_or_large, not_both, join_small, fate-at, fate_join, pass-length, large_stays, small_was, small_region, frozen_at, frozen_length}
use Rattle.rules.proofs.More.{pass-opaque}
use Rattle.rules.proofs.Frontier.{turned, Pending, Voter, Fronted, decided_by, small_not_large, pending_record, record_pending, pending_acts, fate-large, fate-idle, voter-below, voter-turned, turned_why, turned_repainted, turned_absorbed, verdict_by, verdict_apart}

-- The opaque places of s stand in groups, numbered from 1; a small region is a group, and a group is frozen as a whole
pub record Grouped (rule : Rule) (s : State) (group : ℕ → ℕ) : Type 0 where
  pub size : length s.cells ≡ rule.places
  pub room : length s.frozen ≡ rule.places
  pub shown : (x : ℕ) → x < rule.places → (opaque s.cells x ≡ true) ↔ (0 < group x)
  pub region : (x y : ℕ) → small rule s.cells x ≡ true → y < rule.places → Joined rule.adj s.cells x y ↔ (group x ≡ group y)
  pub frozen : (x y : ℕ) → x < rule.places → y < rule.places → 0 < group x → group x ≡ group y → marked s.frozen x ≡ marked s.frozen y

-- the test that x lies in a region that may be decided
unfoldable pub waits : Rule → State → ℕ → Bool
waits rule s x = not (large rule s.cells x) && rule.free (index (at s.cells x)) && not (marked s.frozen x)

-- the verdict on the group of x, waiting or not, by the votes of the frontier beside it
unfoldable pub group_verdict : Rule → State → (ℕ → ℕ) → (ℕ → Bool) → ℕ → Bool → Verdict
group_verdict rule s group front x false = stay
group_verdict rule s group front x true =
    let own = index (at s.cells x) in
    judged rule own (target rule s.cells own (table rule.places (λ q. front q && any rule.places (λ p. eqb (group x) (group p) && rule.adj p q))))

-- why a pass from s makes the place x large: it is repainted, or its group is small, not repainted, and beside a repainted place of its index
pub data Grows (rule : Rule) (s : State) (group : ℕ → ℕ) (x : ℕ) : Type 0 where
  takes : repaints rule s x ≡ true → Grows rule s group x
  joins : 0 < group x → large rule s.cells x ≡ false → repaints rule s x ≡ false →
      (y z : ℕ) → y < rule.places → group x ≡ group y → rule.adj y z ≡ true → repaints rule s z ≡ true → at (pass rule s).cells z ≡ at s.cells x → Grows rule s group x

-- a pass may begin: its regions are grouped, `big` tells the large places, and `front` is a frontier
pub record Ready (rule : Rule) (s : State) (group : ℕ → ℕ) (big front : ℕ → Bool) : Type 0 where
  pub grouped : Grouped rule s group
  pub flags : (x : ℕ) → x < rule.places → big x ≡ large rule s.cells x
  pub fronted : Fronted rule s front

-- what a pass has to make of the flags: those that were, and what grows
pub record Grown (rule : Rule) (s : State) (group : ℕ → ℕ) (big big' : ℕ → Bool) : Type 0 where
  pub old : (x : ℕ) → x < rule.places → big x ≡ true → big' x ≡ true
  pub new : (x : ℕ) → x < rule.places → Grows rule s group x → big' x ≡ true
  pub only : (x : ℕ) → x < rule.places → big' x ≡ true → (big x ≡ true) ⊎ Grows rule s group x

-- ---- a run begins with the labels

module _ (rule : Rule) (symm : Symmetric rule.adj) (start : List ℤ) (lens : length start ≡ rule.places) where
  abbrev label_of : ℕ → ℕ
  label_of p = label start (roots rule.places rule.adj start) p

  pub grouped_start : Grouped rule (fresh rule start) label_of
  unfolding fresh marked
  grouped_start =
      record {
        size = lens;
        room = table-length rule.places _;
        shown = λ x h. (label_positive rule.places rule.adj start lens symm x, from x);
        region = λ x y h b. (
          (λ j. (label-joined rule.places rule.adj start lens symm x y (join_left rule.adj start j) (join_right rule.adj start j)).1 j),
          (λ e. let o = small-opaque rule symm start lens x h in
              (label-joined rule.places rule.adj start lens symm x y o (from y (rw e at (label_positive rule.places rule.adj start lens symm x o)))).0 e),
        );
        frozen = λ x y b c h e. table_at rule.places _ false x b ∙ sym (table_at rule.places _ false y c);
      }
    where
      from : (x : ℕ) → 0 < label_of x → opaque start x ≡ true
      from x h = case (opaque start x) (λ y. y) (λ z. let e = label_clear rule.places rule.adj start lens symm x z in absurd (omega arith))

-- ---- a pass from a grouped state

module _ (rule : Rule) (symm : Symmetric rule.adj) (s : State) (group : ℕ → ℕ) (g : Grouped rule s group) where
  abbrev n : ℕ
  n = rule.places

  abbrev adj : ℕ → ℕ → Bool
  adj = rule.adj

  abbrev cells : List ℤ
  cells = s.cells

  abbrev len : length s.cells ≡ rule.places
  len = g.size

  -- a group is large as a whole
  grown : (x y : ℕ) → x < n → y < n → 0 < group x → group x ≡ group y → large rule cells x ≡ true → large rule cells y ≡ true
  grown x y b c h e l =
      let h' : 0 < group y = rw (← e) h in
      ⊎_elim (λ u. not_both rule symm cells len x (join_small rule symm cells len ((g.region y x u b).1 (sym e)) u) l) (λ u. u)
      (small_or_large rule symm cells len y ((g.shown y c).1 h'))

  pub group-large : (x y : ℕ) → x < n → y < n → 0 < group x → group x ≡ group y → large rule cells x ≡ large rule cells y
  group-large x y b c h e = same_test (grown x y b c h e) (grown y x c b (rw (← e) h) (sym e))

  small_of : (x : ℕ) → opaque cells x ≡ true → large rule cells x ≡ false → small rule cells x ≡ true
  small_of x o l = ⊎_elim (λ y. y) (λ y. clash y l) (small_or_large rule symm cells len x o)

  -- a place lies in a pending region by its flags
  pub group-pending : (x : ℕ) → x < n → 0 < group x → pending rule (view rule s) (root n adj cells x) ≡ waits rule s x
  unfolding waits
  group-pending x b h = same_test to from
    where
      o : opaque cells x ≡ true
      o = (g.shown x b).1 h

      j : Joined adj cells x (root n adj cells x)
      j = joined-root n adj cells len x o

      i : Joined adj cells (root n adj cells x) x
      i = join_sym adj cells symm j

      to : pending rule (view rule s) (root n adj cells x) ≡ true → waits rule s x ≡ true
      to e =
          let p = pending_record rule symm s len (root n adj cells x) e in
          both (both (not_false (small_not_large rule symm cells len x (join_small rule symm cells len i p.little))) (ap (λ (c : ℤ). rule.free (index c)) (join_same adj cells j) ∙ p.free))
          (not_false (p.thawed x i))

      from : waits rule s x ≡ true → pending rule (view rule s) (root n adj cells x) ≡ true
      from e =
          let lx = not (large rule cells x) in
          let fx = rule.free (index (at cells x)) in
          let zx = not (marked s.frozen x) in
          let u = small_of x o (not_true (left lx fx (left (lx && fx) zx e))) in
          record_pending rule symm s len (root n adj cells x)
          (record {
            little = join_small rule symm cells len j u;
            first = root-root n adj cells len symm x o;
            free = ap (λ (c : ℤ). rule.free (index c)) (sym (join_same adj cells j)) ∙ right lx fx (left (lx && fx) zx e);
            thawed = λ p k. let q = join_trans adj cells j k in
                let c = opaque-below n adj cells len p (join_right adj cells q) in
                sym (g.frozen x p b c h ((g.region x p u c).0 q)) ∙ not_true (right (lx && fx) zx e);
          })

  -- a group has one fate
  pub group-fate : (x y : ℕ) → x < n → y < n → 0 < group x → group x ≡ group y → fate (fates rule s) x ≡ fate (fates rule s) y
  group-fate x y b c h e =
      ⊎_elim (λ u. fate-at rule symm s len x b ∙ fate_join rule symm s len ((g.region x y u c).1 e) ∙ sym (fate-at rule symm s len y c))
      (λ u. fate-large rule symm s len x b u ∙ sym (fate-large rule symm s len y c (grown x y b c h e u)))
      (small_or_large rule symm cells len x ((g.shown x b).1 h))

  pub group-repaints : (x y : ℕ) → x < n → y < n → 0 < group x → group x ≡ group y → repaints rule s x ≡ repaints rule s y
  unfolding repaints
  group-repaints x y b c h e = ap merges (group-fate x y b c h e)

  -- a group that does not wait has none
  pub group_rest : (x : ℕ) → x < n → 0 < group x → waits rule s x ≡ false → fate (fates rule s) x ≡ stay
  group_rest x b h z =
      fate-idle rule symm s len x (λ p. clash (record_pending rule symm s len (root n adj cells x) p) (group-pending x b h ∙ z)) b

  -- a transparent place has none
  pub clear_fate : (x : ℕ) → x < n → opaque cells x ≡ false → fate (fates rule s) x ≡ stay
  clear_fate x b z =
      fate-idle rule symm s len x
      (λ p. clash (small-opaque rule symm cells len (root n adj cells x) p.little) (ap (opaque cells) (clear_root n adj cells len x b z) ∙ z)) b

  -- the groups are those of the next pass
  pub grouped_pass : Grouped rule (pass rule s) group
  grouped_pass =
      record {
        size = pass-length rule symm s len;
        room = frozen_length rule symm s len;
        shown = λ x b. ((λ o. (g.shown x b).0 (sym (pass-opaque rule symm s len x) ∙ o)), (λ h. pass-opaque rule symm s len x ∙ (g.shown x b).1 h));
        region = λ x y h c. let u = small_was rule symm s len x h in (
          (λ j. (g.region x y u c).0 ((small_region rule symm s len x y h).0 j)),
          (λ e. (small_region rule symm s len x y h).1 ((g.region x y u c).1 e)),
        );
        frozen = λ x y b c h e. frozen_fate x b
            ∙ ap (λ (z : Verdict). freezes z || marked s.frozen x) (group-fate x y b c h e)
            ∙ ap (λ (d : Bool). freezes (fate (fates rule s) y) || d) (g.frozen x y b c h e)
            ∙ sym (frozen_fate y c);
      }
    where
      frozen_fate : (x : ℕ) → x < n → marked (pass rule s).frozen x ≡ (freezes (fate (fates rule s) x) || marked s.frozen x)
      frozen_fate x b = frozen_at rule symm s len x b ∙ ap (λ (z : Verdict). freezes z || marked s.frozen x) (sym (fate-at rule symm s len x b))

  -- ---- fates by groups, flags and a frontier

  module _ (front : ℕ → Bool) (f : Fronted rule s front) where
    -- the cells of a pending region are its group
    group-inside : (x : ℕ) → small rule cells x ≡ true → (p : ℕ) → p < n → inside cells (roots n adj cells) (root n adj cells x) p ≡ eqb (group x) (group p)
    group-inside x u p c =
        same_test
        (λ e. yes_eqb ((g.region x p u c).0 (inside_join n adj cells len symm x p (small-opaque rule symm cells len x u) e)))
        (λ e. join_inside n adj cells len symm ((g.region x p u c).1 (eqb_yes e)))

    -- the fate of an opaque place
    pub group-fates : (x : ℕ) → x < n → 0 < group x → fate (fates rule s) x ≡ group_verdict rule s group front x (waits rule s x)
    unfolding group_verdict decided_by view
    group-fates x b h =
        fate-at rule symm s len x b
        ∙ verdict_by rule symm s len front f m
        ∙ case (waits rule s x)
        (λ y. let e = group-pending x b h ∙ y in
        let p = pending_record rule symm s len m e in
        let u = join_small rule symm cells len (join_sym adj cells symm j) p.little in
        rw (e, y)
        ((λ i. judged rule (own i) (target rule cells (own i) (table n (λ q. front q && any_same n (λ p. inside cells (roots n adj cells) m p && adj p q) (λ p. eqb (group x) (group p) && adj p q) (λ p c. ap (λ (t : Bool). t && adj p q) (group-inside x u p c)) i))))))
        (λ z. rw (group-pending x b h ∙ z, z))
      where
        m : ℕ
        m = root n adj cells x

        j : Joined adj cells x m
        j = joined-root n adj cells len x ((g.shown x b).1 h)

        own : index (at cells m) ≡ index (at cells x)
        own = ap index (sym (join_same adj cells j))

    -- a group beside which no place of the frontier is stays
    pub group_apart : (x : ℕ) → x < n → 0 < group x → ((y q : ℕ) → y < n → group x ≡ group y → adj y q ≡ true → front q ≡ true → ⊥) → fate (fates rule s) x ≡ stay
    group_apart x b h k =
        let j = joined-root n adj cells len x ((g.shown x b).1 h) in
        ⊎_elim
        (λ u. fate-at rule symm s len x b
        ∙ verdict_apart rule symm s len front f (root n adj cells x)
        (λ y q l e w. let i = join_trans adj cells j l in
        let c = opaque-below n adj cells len y (join_right adj cells i) in
        k y q c ((g.region x y u c).0 i) e w))
        (fate-large rule symm s len x b)
        (small_or_large rule symm cells len x ((g.shown x b).1 h))

    -- a waiting one beside which one is, is decided
    pub group_acts : (x y q : ℕ) → x < n → 0 < group x → waits rule s x ≡ true → y < n → group x ≡ group y → adj y q ≡ true → front q ≡ true →
        (merges (fate (fates rule s) x) ≡ true) ⊎ (freezes (fate (fates rule s) x) ≡ true)
    group_acts x y q b h e c i t w =
        let m = root n adj cells x in
        let j = joined-root n adj cells len x ((g.shown x b).1 h) in
        let p = pending_record rule symm s len m (group-pending x b h ∙ e) in
        let u = join_small rule symm cells len (join_sym adj cells symm j) p.little in
        let v : Voter rule s m q = record { big = f.big q w; edge = y; of_it = join_trans adj cells (join_sym adj cells symm j) ((g.region x y u c).1 i); touch = t } in
        let same = fate-at rule symm s len x b in
        ⊎_elim (λ k. inl (ap merges same ∙ k)) (λ k. inr (ap freezes same ∙ k)) (pending_acts rule symm s len m q p v)

  -- ---- what becomes large

  pub grows-turned : (x : ℕ) → x < n → Grows rule s group x → turned rule s x ≡ true
  grows-turned x b (takes e) = turned_repainted rule symm s len x e
  grows-turned x b (joins h l e y z c i t r k) =
      let u = small_of x ((g.shown x b).1 h) l in
      turned_absorbed rule symm s len x (record { was = u; kept = e; edge = y; of_it = (g.region x y u c).1 i; from = z; touch = t; new = r; same = k })

  pub turned-grows : (x : ℕ) → x < n → turned rule s x ≡ true → Grows rule s group x
  turned-grows x b e =
      ⊎_elim takes
      (λ u. let c = opaque-below n adj cells len u.edge (join_right adj cells u.of_it) in
      joins ((g.shown x b).0 (small-opaque rule symm cells len x u.was)) (small_not_large rule symm cells len x u.was) u.kept u.edge u.from c
      ((g.region x u.edge u.was c).0 u.of_it) u.touch u.new u.same)
      (turned_why rule symm s len x e)

  -- after a pass that grew the flags so, the next may begin, with what grew as its frontier
  pub ready_next : (big front big' : ℕ → Bool) → Ready rule s group big front → Grown rule s group big big' → Ready rule (pass rule s) group big' (λ x. big' x && not (big x) && ltb x n)
  unfolding turned
  ready_next big front big' r w =
      record {
        grouped = grouped_pass;
        flags = flags';
        fronted = record {
          big = λ q e. sym (flags' q (leb_yes (right (big' q && not (big q)) (ltb q n) e))) ∙ left (big' q) (not (big q)) (left (big' q && not (big q)) (ltb q n) e);
          all = λ m q u v. let t = voter-turned rule symm s len m q u v in
              let h = voter-below rule symm (pass rule s) (pass-length rule symm s len) m q v in
              both (both (flags' q h ∙ left (large rule (pass rule s).cells q) _ t) (not_false (r.flags q h ∙ not_true (right (large rule (pass rule s).cells q) (not (large rule cells q)) t)))) (yes_leb h);
        };
      }
    where
      flags' : (x : ℕ) → x < n → big' x ≡ large rule (pass rule s).cells x
      flags' x h =
          same_test
          (λ e. ⊎_elim (λ y. large_stays rule symm s len x (sym (r.flags x h) ∙ y)) (λ u. left (large rule (pass rule s).cells x) _ (grows-turned x h u)) (w.only x h e))
          (λ e. case (big x) (w.old x h) (λ z. w.new x h (turned-grows x h (both e (not_false (sym (r.flags x h) ∙ z))))))

-- ---- each region once

module _ (rule : Rule) (symm : Symmetric rule.adj) (s : State) (group : ℕ → ℕ) (g : Grouped rule s group) where
  abbrev after : Grouped rule (pass rule s) group
  after = grouped_pass rule symm s group g

  later : (x : ℕ) → x < rule.places → 0 < group x → waits rule (pass rule s) x ≡ true → Pending rule (pass rule s) (root rule.places rule.adj (pass rule s).cells x)
  later x b h e = pending_record rule symm (pass rule s) after.size (root rule.places rule.adj (pass rule s).cells x) (group-pending rule symm (pass rule s) group after x b h ∙ e)
