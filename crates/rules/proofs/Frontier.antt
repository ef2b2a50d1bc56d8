-- The frontier: what a pass needs to look at, for any neighbourhood that works both ways round.
-- (i) After a pass exactly these places are large: those that were, those repainted, and the cells of small regions beside a repainted place of their index.
-- (ii) A region that is still small is a region of before: same cells, same index, same first cell.
-- (iii) A region that is pending after a pass had no voter in it: its voters are places that became large in it.
-- (iv) So verdicts follow from a frontier: a set of large places that holds every voter on a pending region.
-- Assumes nothing.
use Prim.Native.Nat.{ℕ, ◌<◌}
use mathlib.Core.Path.{◌≡◌, refl, sym, ap, ◌∙◌}
use mathlib.Core.Logic.{◌⊎◌, inl, inr, ⊎_elim, ◌↔◌}
use mathlib.Core.Bool.{Bool, true, false, not, ◌&&◌, ◌||◌, cond}
use mathlib.Core.List.{List}
use Rattle.std.specs.Prelude.{Option, None, Some}
use native.Mathlib.Nat.{le_antisymm}
use lib.IntN.{ℤ, negsuc}
use lib.Dec.{eqb}
use lib.ListN.{length}
use lib.Seq.{ext_get_or}
use Rattle.base.specs.Places.{table, any}
use Rattle.rules.specs.Regions.{at, opaque, index, link, Joined, here, step, held, roots, root, inside, first, Symmetric}
use Rattle.rules.specs.Pass.{Rule, State, View, marked, small, large, view, Verdict, stay, voter, target, judged, pending, verdict, merges, freezes, fates, fate, pass, repaints, moves}
use Rattle.base.proofs.Counting.{case, clash, both, left, right, not_true, not_false, same_test, eqb_yes, yes_eqb, table_at, table-length, any_yes, yes_any, any_no, or_left, or_right}
use Rattle.rules.proofs.Roots.{link-adj, link-same, link_left, link-right, to-link, join_left, join_right, join_same, join_trans, join_sym, opaque-below, joined-root, root-first, inside_join, join_inside, lift_join}
use Rattle.rules.proofs.Least.{least_some}
use Rattle.rules.proofs.Passes.{large-opaque, small-opaque, small_or_large, not_both, join_large, stays_large, fate-at, pass-length, view-large, large_stays, repainted_large, repainted_small, small_kept, small_was, small_region, unpainted_kept, join_repaints, pending-small, pending_then, frequent-voter, frozen_at, frozen_length}
use Rattle.rules.proofs.More.{pass-opaque}

-- ---- what the lemmas speak of

-- x lies in a small region that a pass from s does not repaint, but which it joins to a large one: a cell of it neighbours a repainted place of its index
pub record Absorbed (rule : Rule) (s : State) (x : ℕ) : Type 0 where
  pub was : small rule s.cells x ≡ true
  pub kept : repaints rule s x ≡ false
  pub edge : ℕ
  pub of_it : Joined rule.adj s.cells x edge
  pub from : ℕ
  pub touch : rule.adj edge from ≡ true
  pub new : repaints rule s from ≡ true
  pub same : at (pass rule s).cells from ≡ at s.cells x

-- why x is large after a pass from s
pub data LargeAfter (rule : Rule) (s : State) (x : ℕ) : Type 0 where
  stayed : large rule s.cells x ≡ true → LargeAfter rule s x
  painted : repaints rule s x ≡ true → LargeAfter rule s x
  absorbed : Absorbed rule s x → LargeAfter rule s x

-- x becomes large in a pass from s
unfoldable pub turned : Rule → State → ℕ → Bool
turned rule s x = large rule (pass rule s).cells x && not (large rule s.cells x)

-- the region of x is the same on both sheets: small on the first, with the same index, cells and first cell
pub record SameRegion (rule : Rule) (start now : List ℤ) (x : ℕ) : Type 0 where
  pub was : small rule start x ≡ true
  pub index : at now x ≡ at start x
  pub region : (y : ℕ) → Joined rule.adj now x y ↔ Joined rule.adj start x y
  pub root : root rule.places rule.adj now x ≡ root rule.places rule.adj start x

-- m is the first cell of a small region that a pass from s may decide
pub record Pending (rule : Rule) (s : State) (m : ℕ) : Type 0 where
  pub little : small rule s.cells m ≡ true
  pub first : root rule.places rule.adj s.cells m ≡ m
  pub free : rule.free (index (at s.cells m)) ≡ true
  pub thawed : (p : ℕ) → Joined rule.adj s.cells m p → marked s.frozen p ≡ false

-- q votes on the region of m
pub record Voter (rule : Rule) (s : State) (m q : ℕ) : Type 0 where
  pub big : large rule s.cells q ≡ true
  pub edge : ℕ
  pub of_it : Joined rule.adj s.cells m edge
  pub touch : rule.adj edge q ≡ true

-- a frontier: large places, among them every voter on a pending region
pub record Fronted (rule : Rule) (s : State) (front : ℕ → Bool) : Type 0 where
  pub big : (q : ℕ) → front q ≡ true → large rule s.cells q ≡ true
  pub all : (m q : ℕ) → Pending rule s m → Voter rule s m q → front q ≡ true

-- the verdict on the region of v with the root m, pending or not, by the votes of the frontier alone
unfoldable pub decided_by : Rule → View → (ℕ → Bool) → ℕ → Bool → Verdict
decided_by rule v front m false = stay
decided_by rule v front m true =
    let own = index (at v.cells m) in
    judged rule own (target rule v.cells own (table rule.places (λ q. front q && any rule.places (λ p. inside v.cells v.root m p && rule.adj p q))))

-- ---- parts of tests

module _ (rule : Rule) (v : View) (m : ℕ) where
  pending_free : pending rule v m ≡ true → rule.free (index (at v.cells m)) ≡ true
  unfolding pending
  pending_free e = right (first v.cells v.root m && not (marked v.large m)) (rule.free (index (at v.cells m))) (left _ _ e)

  pending_thawed : pending rule v m ≡ true → any rule.places (λ p. inside v.cells v.root m p && marked v.frozen p) ≡ false
  unfolding pending
  pending_thawed e =
      not_true (right (first v.cells v.root m && not (marked v.large m) && rule.free (index (at v.cells m))) (not (any rule.places (λ p. inside v.cells v.root m p && marked v.frozen p))) e)

  to-pending : first v.cells v.root m ≡ true → marked v.large m ≡ false → rule.free (index (at v.cells m)) ≡ true → any rule.places (λ p. inside v.cells v.root m p && marked v.frozen p) ≡ false → pending rule v m ≡ true
  unfolding pending
  to-pending a b c d = both (both (both a (not_false b)) c) (not_false d)

-- ---- one sheet

module _ (rule : Rule) (symm : Symmetric rule.adj) (cells : List ℤ) (len : length cells ≡ rule.places) where
  abbrev own-roots : List ℕ
  own-roots = roots rule.places rule.adj cells

  in_of : (m : ℕ) → root rule.places rule.adj cells m ≡ m → {p : ℕ} → Joined rule.adj cells m p → inside cells own-roots m p ≡ true
  in_of m r {p} j = sym (ap (λ (k : ℕ). inside cells own-roots k p) r) ∙ join_inside rule.places rule.adj cells len symm j

  of_in : (m : ℕ) → opaque cells m ≡ true → root rule.places rule.adj cells m ≡ m → (p : ℕ) → inside cells own-roots m p ≡ true → Joined rule.adj cells m p
  of_in m o r p e = inside_join rule.places rule.adj cells len symm m p o (ap (λ (k : ℕ). inside cells own-roots k p) r ∙ e)

  first-root : (m : ℕ) → first cells own-roots m ≡ true → root rule.places rule.adj cells m ≡ m
  unfolding first inside root
  first-root m e = eqb_yes (right (opaque cells m) (eqb (held own-roots m) m) e)

  root-is-first : (m : ℕ) → opaque cells m ≡ true → root rule.places rule.adj cells m ≡ m → first cells own-roots m ≡ true
  unfolding first inside root
  root-is-first m o r = both o (yes_eqb r)

  pub small_not_large : (x : ℕ) → small rule cells x ≡ true → large rule cells x ≡ false
  small_not_large x h = case (large rule cells x) (λ y. not_both rule symm cells len x h y) (λ z. z)

-- ---- one pass

module _ (rule : Rule) (symm : Symmetric rule.adj) (s : State) (len : length s.cells ≡ rule.places) where
  abbrev n : ℕ
  n = rule.places

  abbrev adj : ℕ → ℕ → Bool
  adj = rule.adj

  abbrev cells : List ℤ
  cells = s.cells

  abbrev cells' : List ℤ
  cells' = (pass rule s).cells

  abbrev len' : length cells' ≡ n
  len' = pass-length rule symm s len

  -- a region that is not repainted stays together
  keeps_join : (x : ℕ) → repaints rule s x ≡ false → {y : ℕ} → Joined adj cells x y → Joined adj cells' x y
  unfolding opaque
  keeps_join x e j =
      lift_join adj cells cells' (at cells x) (join_left adj cells j)
      (λ y k. unpainted_kept rule symm s len y (sym (join_repaints rule symm s len k) ∙ e) ∙ sym (join_same adj cells k)) j

  -- (i), one way
  pub after-large : (x : ℕ) → LargeAfter rule s x → large rule cells' x ≡ true
  after-large x (stayed h) = large_stays rule symm s len x h
  after-large x (painted e) = repainted_large rule symm s len x e
  after-large x (absorbed a) =
      let j = keeps_join x a.kept a.of_it in
      let same : at cells' a.edge ≡ at cells' a.from = sym (join_same adj cells' j) ∙ unpainted_kept rule symm s len x a.kept ∙ sym a.same in
      let l = to-link adj cells' a.edge a.from a.touch (join_right adj cells' j) same in
      let big = repainted_large rule symm s len a.from a.new in
      join_large rule symm cells' len'
      (join_sym adj cells' symm (join_trans adj cells' j (step l (here (large-opaque rule symm cells' len' a.from big))))) big

  -- a path after the pass that meets no repainted place was there before
  back : {x q : ℕ} → ((y z : ℕ) → Joined adj cells x y → link adj cells' y z ≡ true → repaints rule s z ≡ false) → repaints rule s x ≡ false → Joined adj cells' x q → Joined adj cells x q
  back {x} {q} clean e (here o) = here (sym (pass-opaque rule symm s len x) ∙ o)
  back {x} {q} clean e (step {q = y} l j) =
      let o : opaque cells x ≡ true = sym (pass-opaque rule symm s len x) ∙ link_left adj cells' x y l in
      let z = clean x y (here o) l in
      let same : at cells x ≡ at cells y = sym (unpainted_kept rule symm s len x e) ∙ link-same adj cells' x y l ∙ unpainted_kept rule symm s len y z in
      let k = to-link adj cells x y (link-adj adj cells' x y l) o same in
      step k (back (λ a b i. clean a b (step k i)) z j)

  -- (i), the other way: nothing else is large
  pub large-after : (x : ℕ) → large rule cells' x ≡ true → LargeAfter rule s x
  large-after x h = case (repaints rule s x) painted (λ e. case (large rule cells x) stayed (λ f. absorbed (join e f)))
    where
      o : opaque cells x ≡ true
      o = sym (pass-opaque rule symm s len x) ∙ large-opaque rule symm cells' len' x h

      in_it : ℕ → Bool
      in_it y = inside cells (roots n adj cells) (root n adj cells x) y

      new : ℕ → ℕ → Bool
      new y z = link adj cells' y z && repaints rule s z

      test : ℕ → Bool
      test y = in_it y && any n (new y)

      join : repaints rule s x ≡ false → large rule cells x ≡ false → Absorbed rule s x
      join e f = case (any n test) found none_found
        where
          found : any n test ≡ true → Absorbed rule s x
          found u =
              let a = any_yes n test u in
              let y = a.0 in
              let j = inside_join n adj cells len symm x y o (left (in_it y) (any n (new y)) a.2) in
              let b = any_yes n (new y) (right (in_it y) (any n (new y)) a.2) in
              let z = b.0 in
              let l = left (link adj cells' y z) (repaints rule s z) b.2 in
              record {
                was = ⊎_elim (λ k. k) (λ k. clash k f) (small_or_large rule symm cells len x o);
                kept = e;
                edge = y;
                of_it = j;
                from = z;
                touch = link-adj adj cells' y z l;
                new = right (link adj cells' y z) (repaints rule s z) b.2;
                same = sym (link-same adj cells' y z l) ∙ unpainted_kept rule symm s len y (sym (join_repaints rule symm s len j) ∙ e) ∙ sym (join_same adj cells j);
              }

          clear : any n test ≡ false → (y z : ℕ) → Joined adj cells x y → link adj cells' y z ≡ true → repaints rule s z ≡ false
          clear u y z j l =
              case (repaints rule s z)
              (λ k. clash
              (both (join_inside n adj cells len symm j) (yes_any n (new y) z (opaque-below n adj cells' len' z (link-right adj cells' y z l)) (both l k)))
              (any_no n test u y (opaque-below n adj cells len y (join_right adj cells j))))
              (λ k. k)

          none_found : any n test ≡ false → Absorbed rule s x
          none_found u = clash (stays_large rule symm cells' cells len' len x (λ q j. back (clear u) e j) h) f

  -- (ii)
  pub remains : (x : ℕ) → small rule cells' x ≡ true → SameRegion rule cells cells' x
  remains x h =
      let w = small_was rule symm s len x h in
      let o = small-opaque rule symm cells len x w in
      let o' = small-opaque rule symm cells' len' x h in
      let region = small_region rule symm s len x in
      record {
        was = w;
        index = (small_kept rule symm s len x h).1;
        region = λ y. region y h;
        root = le_antisymm (root-first n adj cells' len' symm ((region (root n adj cells x) h).1 (joined-root n adj cells len x o)))
            (root-first n adj cells len symm ((region (root n adj cells' x) h).0 (joined-root n adj cells' len' x o')));
      }

  -- ---- pending regions and their voters, by their cells

  pub pending_record : (m : ℕ) → pending rule (view rule s) m ≡ true → Pending rule s m
  unfolding view
  pending_record m e =
      let w = pending-small rule symm s len m e in
      let r = first-root rule symm cells len m w.0 in
      record {
        little = w.1;
        first = r;
        free = pending_free rule (view rule s) m e;
        thawed = λ p j. case (marked s.frozen p)
            (λ y. clash (yes_any n (λ p. inside cells (roots n adj cells) m p && marked s.frozen p) p (opaque-below n adj cells len p (join_right adj cells j)) (both (in_of rule symm cells len m r j) y))
            (pending_thawed rule (view rule s) m e))
            (λ z. z);
      }

  pub record_pending : (m : ℕ) → Pending rule s m → pending rule (view rule s) m ≡ true
  unfolding view
  record_pending m w =
      let o = small-opaque rule symm cells len m w.little in
      to-pending rule (view rule s) m (root-is-first rule symm cells len m o w.first)
      (view-large rule symm s len m (opaque-below n adj cells len m o) ∙ small_not_large rule symm cells len m w.little)
      w.free
      (case (any n (λ p. inside cells (roots n adj cells) m p && marked s.frozen p))
      (λ y. let a = any_yes n (λ p. inside cells (roots n adj cells) m p && marked s.frozen p) y in
      clash (right (inside cells (roots n adj cells) m a.0) (marked s.frozen a.0) a.2)
      (w.thawed a.0 (of_in rule symm cells len m o w.first a.0 (left (inside cells (roots n adj cells) m a.0) (marked s.frozen a.0) a.2))))
      (λ z. z))

  pub voter_record : (m q : ℕ) → opaque cells m ≡ true → root n adj cells m ≡ m → q < n → voter rule (view rule s) m q ≡ true → Voter rule s m q
  unfolding voter view
  voter_record m q o r h e =
      let near : ℕ → Bool = (λ p. inside cells (roots n adj cells) m p && adj p q) in
      let a = any_yes n near (right (marked (view rule s).large q) (any n near) e) in
      record {
        big = sym (view-large rule symm s len q h) ∙ left (marked (view rule s).large q) (any n near) e;
        edge = a.0;
        of_it = of_in rule symm cells len m o r a.0 (left (inside cells (roots n adj cells) m a.0) (adj a.0 q) a.2);
        touch = right (inside cells (roots n adj cells) m a.0) (adj a.0 q) a.2;
      }

  pub voter-below : (m q : ℕ) → Voter rule s m q → q < n
  voter-below m q w = opaque-below n adj cells len q (large-opaque rule symm cells len q w.big)

  pub record_voter : (m q : ℕ) → root n adj cells m ≡ m → Voter rule s m q → voter rule (view rule s) m q ≡ true
  unfolding voter view
  record_voter m q r w =
      both (view-large rule symm s len q (voter-below m q w) ∙ w.big)
      (yes_any n (λ p. inside cells (roots n adj cells) m p && adj p q) w.edge (opaque-below n adj cells len w.edge (join_right adj cells w.of_it)) (both (in_of rule symm cells len m r w.of_it) w.touch))

  voter-opaque : (m : ℕ) → opaque cells m ≡ true → root n adj cells m ≡ m → (p : ℕ) → p < n → voter rule (view rule s) m p ≡ true → opaque cells p ≡ true
  voter-opaque m o r p h e = large-opaque rule symm cells len p (voter_record m p o r h e).big

  -- a pending region with a voter is decided
  pub pending_acts : (m q : ℕ) → Pending rule s m → Voter rule s m q → (merges (verdict rule (view rule s) m) ≡ true) ⊎ (freezes (verdict rule (view rule s) m) ≡ true)
  unfolding view
  pending_acts m q w u =
      let o = small-opaque rule symm cells len m w.little in
      ⊎_elim inl (⊎_elim inr (λ f. clash (record_voter m q w.first u) (f q (voter-below m q u))))
      (pending_then rule (view rule s) m (record_pending m w) (voter-opaque m o w.first))

  -- a large place has no fate
  pub fate-large : (x : ℕ) → x < n → large rule cells x ≡ true → fate (fates rule s) x ≡ stay
  unfolding verdict
  fate-large x b h =
      let j = joined-root n adj cells len x (large-opaque rule symm cells len x h) in
      fate-at rule symm s len x b
      ∙ case (pending rule (view rule s) (root n adj cells x))
      (λ y. not_both rule symm cells len (root n adj cells x) (pending_record (root n adj cells x) y).little (join_large rule symm cells len j h))
      (λ z. rw z)

  -- ---- (iii)

  -- what is pending after a pass was so before
  pub pending_was : (m : ℕ) → Pending rule (pass rule s) m → Pending rule s m
  pending_was m w =
      let k = remains m w.little in
      record {
        little = k.was;
        first = sym k.root ∙ w.first;
        free = sym (ap (λ (c : ℤ). rule.free (index c)) k.index) ∙ w.free;
        thawed = λ p j. case (marked s.frozen p)
            (λ y. clash (frozen_at rule symm s len p (opaque-below n adj cells len p (join_right adj cells j)) ∙ or_right (freezes (verdict rule (view rule s) (root n adj cells p))) y) (w.thawed p ((k.region p).1 j)))
            (λ z. z);
      }

  -- and had no voter
  pub pending_alone : (m : ℕ) → Pending rule (pass rule s) m → (q : ℕ) → Voter rule s m q → ⊥
  pending_alone m w q u =
      let p = pending_was m w in
      let o = small-opaque rule symm cells len m p.little in
      let here-verdict : verdict rule (view rule s) (root n adj cells m) ≡ verdict rule (view rule s) m = ap (verdict rule (view rule s)) p.first in
      ⊎_elim (λ y. clash (ap merges here-verdict ∙ y) (small_kept rule symm s len m w.little).0)
      (λ y. clash (frozen_at rule symm s len m (opaque-below n adj cells len m o) ∙ or_left (marked s.frozen m) (ap freezes here-verdict ∙ y))
      (w.thawed m (here (small-opaque rule symm cells' len' m w.little))))
      (pending_acts m q p u)

  -- its voters became large in the pass
  pub voter-turned : (m q : ℕ) → Pending rule (pass rule s) m → Voter rule (pass rule s) m q → turned rule s q ≡ true
  unfolding turned
  voter-turned m q w u =
      both u.big
      (not_false (case (large rule cells q)
      (λ y. absurd (pending_alone m w q (record { big = y; edge = u.edge; of_it = ((remains m w.little).region u.edge).0 u.of_it; touch = u.touch })))
      (λ z. z)))

  -- what becomes large in a pass is repainted or absorbed
  pub turned_why : (x : ℕ) → turned rule s x ≡ true → (repaints rule s x ≡ true) ⊎ Absorbed rule s x
  unfolding turned
  turned_why x e = go (large-after x (left _ _ e))
    where
      go : LargeAfter rule s x → (repaints rule s x ≡ true) ⊎ Absorbed rule s x
      go (stayed h) = clash h (not_true (right (large rule cells' x) (not (large rule cells x)) e))
      go (painted h) = inl h
      go (absorbed a) = inr a

  pub turned_repainted : (x : ℕ) → repaints rule s x ≡ true → turned rule s x ≡ true
  unfolding turned
  turned_repainted x e = both (after-large x (painted e)) (not_false (small_not_large rule symm cells len x (repainted_small rule symm s len x e)))

  pub turned_absorbed : (x : ℕ) → Absorbed rule s x → turned rule s x ≡ true
  unfolding turned
  turned_absorbed x a = both (after-large x (absorbed a)) (not_false (small_not_large rule symm cells len x a.was))

  -- ---- (iv)

  -- a region without a voter stays
  pub verdict_none : (m : ℕ) → ((q : ℕ) → Voter rule s m q → ⊥) → verdict rule (view rule s) m ≡ stay
  unfolding verdict target judged view marked
  verdict_none m none-votes =
      case (pending rule (view rule s) m)
      (λ y. rw y (go (pending_record m y) (target rule cells (index (at cells m)) (table n (voter rule (view rule s) m))) refl))
      (λ z. rw z)
    where
      go : Pending rule s m → (o : Option ℕ) → target rule cells (index (at cells m)) (table n (voter rule (view rule s) m)) ≡ o → judged rule (index (at cells m)) o ≡ stay
      go w None e = refl
      go w (Some c) e =
          let voters = table n (voter rule (view rule s) m) in
          let a = least_some _ _ _ c e in
          let b = frequent-voter rule (view rule s) voters c a.1 in
          absurd (none-votes b.0 (voter_record m b.0 (small-opaque rule symm cells len m w.little) w.first b.1 (sym (table_at n (voter rule (view rule s) m) false b.0 b.1) ∙ b.2)))

  -- a place whose region is not pending keeps its fate: none
  pub fate-idle : (x : ℕ) → (Pending rule s (root n adj cells x) → ⊥) → x < n → fate (fates rule s) x ≡ stay
  unfolding verdict
  fate-idle x f h =
      fate-at rule symm s len x h
      ∙ case (pending rule (view rule s) (root n adj cells x)) (λ y. absurd (f (pending_record (root n adj cells x) y))) (λ z. rw z)

  -- where no region is small a pass changes nothing
  module _ (none_small : (x : ℕ) → small rule cells x ≡ false) where
    all_stay : (x : ℕ) → x < n → fate (fates rule s) x ≡ stay
    all_stay x h = fate-idle x (λ p. clash p.little (none_small (root n adj cells x))) h

    pub still_moves : moves rule (fates rule s) ≡ false
    unfolding moves merges
    still_moves =
        case (moves rule (fates rule s))
        (λ y. let w = any_yes n (λ p. merges (fate (fates rule s) p)) y in clash (sym (ap merges (all_stay w.0 w.1)) ∙ w.2) refl)
        (λ z. z)

    still_cell : (x : ℕ) → x < n → at cells' x ≡ at cells x
    unfolding repaints merges
    still_cell x h = unpainted_kept rule symm s len x (ap merges (all_stay x h))

    still_frozen : (x : ℕ) → x < n → marked (pass rule s).frozen x ≡ marked s.frozen x
    unfolding freezes
    still_frozen x h = frozen_at rule symm s len x h ∙ ap (λ (b : Bool). b || marked s.frozen x) (ap freezes (sym (fate-at rule symm s len x h) ∙ all_stay x h))

    pub still_pass : length s.frozen ≡ n → pass rule s ≡ s
    unfolding at marked
    still_pass room = λ i. record {
      cells = ext_get_or (negsuc 0) cells' cells (len' ∙ sym len) (λ x h. still_cell x (rw len' at h)) i;
      frozen = ext_get_or false (pass rule s).frozen s.frozen (frozen_length rule symm s len ∙ sym room) (λ x h. still_frozen x (rw (frozen_length rule symm s len) at h)) i;
    }

  -- at the start of a run every large place is in the frontier
  pub fronted_start : Fronted rule s (large rule cells)
  fronted_start = record { big = λ q e. e; all = λ m q w u. u.big }

  module _ (front : ℕ → Bool) (f : Fronted rule s front) where
    -- the frontier's votes are all the votes on a pending region
    same-votes : (m : ℕ) → Pending rule s m → table n (voter rule (view rule s) m) ≡ table n (λ q. front q && any n (λ p. inside cells (roots n adj cells) m p && adj p q))
    unfolding voter view
    same-votes m w =
        let o = small-opaque rule symm cells len m w.little in
        ext_get_or false _ _ (table-length n _ ∙ sym (table-length n _))
        (λ q k. let h : q < n = rw table-length at k in
        table_at n (voter rule (view rule s) m) false q h
        ∙ same_test
        (λ e. both (f.all m q w (voter_record m q o w.first h e)) (right (marked (view rule s).large q) _ e))
        (λ e. both (view-large rule symm s len q h ∙ f.big q (left (front q) _ e)) (right (front q) _ e))
        ∙ sym (table_at n (λ q. front q && any n (λ p. inside cells (roots n adj cells) m p && adj p q)) false q h))

    -- so the verdict follows from them
    pub verdict_by : (m : ℕ) → verdict rule (view rule s) m ≡ decided_by rule (view rule s) front m (pending rule (view rule s) m)
    unfolding verdict decided_by view
    verdict_by m = case (pending rule (view rule s) m) (λ y. rw y (ap (λ (l : List Bool). judged rule (index (at cells m)) (target rule cells (index (at cells m)) l)) (same-votes m (pending_record m y)))) (λ z. rw z)

    -- and a region that no place of the frontier is beside stays
    pub verdict_apart : (m : ℕ) → ((y q : ℕ) → Joined adj cells m y → adj y q ≡ true → front q ≡ true → ⊥) → verdict rule (view rule s) m ≡ stay
    unfolding verdict
    verdict_apart m g =
        case (pending rule (view rule s) m)
        (λ y. verdict_none m (λ q u. g u.edge q u.of_it u.touch (f.all m q (pending_record m y) u)))
        (λ z. rw z)

-- ---- a pass may freeze as it goes

-- the state s with other frozen cells
unfoldable pub with_frozen : State → List Bool → State
with_frozen s frozenNow = record { cells = s.cells; frozen = frozenNow }

module _ (rule : Rule) (symm : Symmetric rule.adj) (s : State) (len : length s.cells ≡ rule.places) (frozenNow : List Bool) where
  same-pending : (m : ℕ) → ((p : ℕ) → Joined rule.adj s.cells m p → marked frozenNow p ≡ marked s.frozen p) → pending rule (view rule s) m ≡ pending rule (view rule (with_frozen s frozenNow)) m
  unfolding with_frozen
  same-pending m f =
      same_test
      (λ e. let w = pending_record rule symm s len m e in
      record_pending rule symm (with_frozen s frozenNow) len m (record { little = w.little; first = w.first; free = w.free; thawed = λ p j. f p j ∙ w.thawed p j }))
      (λ e. let w = pending_record rule symm (with_frozen s frozenNow) len m e in
      record_pending rule symm s len m (record { little = w.little; first = w.first; free = w.free; thawed = λ p j. sym (f p j) ∙ w.thawed p j }))

  -- the fate of a region does not depend on the frozen cells of others
  pub fate_local : (x : ℕ) → opaque s.cells x ≡ true → ((p : ℕ) → Joined rule.adj s.cells x p → marked frozenNow p ≡ marked s.frozen p) → fate (fates rule s) x ≡ fate (fates rule (with_frozen s frozenNow)) x
  unfolding with_frozen verdict voter view
  fate_local x o f =
      let n = rule.places in
      let m = root n rule.adj s.cells x in
      let b = opaque-below n rule.adj s.cells len x o in
      let j = joined-root n rule.adj s.cells len x o in
      fate-at rule symm s len x b
      ∙ ap (λ (b : Bool). let own = index (at s.cells m) in cond b (judged rule own (target rule s.cells own (table n (voter rule (view rule s) m)))) stay) (same-pending m (λ p i. f p (join_trans rule.adj s.cells j i)))
      ∙ sym (fate-at rule symm (with_frozen s frozenNow) len x b)
