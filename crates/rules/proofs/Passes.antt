-- One pass, for any neighbourhood that works both ways round:
-- A. a cell of a large region keeps its index and stays in a large region;
-- B. a repainted cell is in a large region afterwards, and has the index that a large region had before;
-- C. a small region afterwards was, as the same set of cells, a small region before, and was not repainted.
-- Assumes nothing.
use Prim.Native.Nat.{ℕ, suc, ◌≤◌, ◌<◌, suc-le-suc}
use mathlib.Core.Path.{◌≡◌, refl, sym, ap, ◌∙◌}
use mathlib.Core.Logic.{◌⊎◌, inl, inr, ⊎_elim, ◌↔◌}
use mathlib.Core.Bool.{Bool, true, false, not, ◌&&◌, ◌||◌, and-false, true≢false, false≢true}
use mathlib.Core.List.{List}
use Rattle.std.specs.Prelude.{Option, None, Some}
use native.Mathlib.Nat.{le_trans, le_antisymm, le_of_suc-le-suc, lt_of_le_of_lt}
use native.Mathlib.Omega.{arith}
use lib.IntN.{ℤ, pos, negsuc}
use lib.Signed.{non_neg, lt_z}
use lib.Dec.{leb, ltb, eqb}
use lib.Ieee.{lt}
use lib.ListN.{length, get_or, get_or-eq_default}
use lib.Seq.{ext_get_or}
use Rattle.base.specs.Places.{table, any}
use Rattle.rules.specs.Regions.{at, opaque, index, Joined, here, step, held, roots, root, inside, first, Symmetric}
use Rattle.rules.specs.Pass.{Rule, State, View, marked, size, few, is_small, is_large, small, large, smalls, view, Verdict, stay, merge, freeze, voter, votes, most, top, frequent, target, judged, pending, verdict, painted, merges, freezes, fates, fate, applied, pass, repaints}
use Rattle.rules.specs.Claims.{Apart}
use Rattle.rules.proofs.Shown.{Frozen, Left, apart, frozen, barred}
use Rattle.base.proofs.Counting.{case, clash, both, left, right, not_true, not_false, eqb_yes, yes_eqb, leb_yes, yes_leb, no_leb, table_at, table-length, any_yes, yes_any, any_no, count_mono, count_less, count_some, count_yes, greatest_above, greatest-at, either, or_left, or_right}
use Rattle.rules.proofs.Least.{least_some, least_none}
use Rattle.rules.proofs.Roots.{to-link, join_left, join_right, join_same, join_trans, join_sym, opaque-below, joined-root, root_below, root_le, clear_root, join_root, root-first, root-root, inside_join, join_inside, lift_join}

-- ---- verdicts

module _ (rule : Rule) (v : View) where
  pub frequent-voter : (voters : List Bool) (c : ℕ) → frequent rule v.cells voters c ≡ true → (q : ℕ) × (q < rule.places) × (marked voters q ≡ true) × (index (at v.cells q) ≡ c)
  unfolding frequent votes
  frequent-voter voters c e =
      let w = count_yes rule.places (λ q. marked voters q && eqb (index (at v.cells q)) c) (leb_yes {m = 1} {n = votes rule v.cells voters c} (left _ _ e)) in
      (w.0, w.1, left _ _ w.2, eqb_yes (right (marked voters w.0) (eqb (index (at v.cells w.0)) c) w.2))

  judged_merge : (own : ℕ) (o : Option ℕ) → merges (judged rule own o) ≡ true → (c : ℕ) × (o ≡ Some c) × ((z : ℤ) → painted (judged rule own o) z ≡ pos c)
  unfolding judged merges painted
  judged_merge own None e = absurd (false≢true e)
  judged_merge own (Some c) e =
      case (lt (rule.dist own c) rule.reach) (λ y. (c, refl, λ z. rw y)) (λ z. absurd (false≢true (rw z at e)))

  -- a region that is repainted was pending, and takes the index of some voter
  pub merge_why : (m : ℕ) → merges (verdict rule v m) ≡ true → (pending rule v m ≡ true) × ((q : ℕ) × (q < rule.places) × (voter rule v m q ≡ true) × ((z : ℤ) → painted (verdict rule v m) z ≡ pos (index (at v.cells q))))
  unfolding verdict target merges marked
  merge_why m e =
      let own = index (at v.cells m) in
      let voters = table rule.places (voter rule v m) in
      case (pending rule v m)
      (λ y. let j = judged_merge own (target rule v.cells own voters) (rw y at e) in
      let w = frequent-voter voters j.0 (least_some _ _ _ j.0 j.1).1 in
      (y, (w.0, w.1, sym (table_at rule.places (voter rule v m) false w.0 w.1) ∙ w.2, λ z. rw y (j.2 z ∙ ap pos (sym w.3)))))
      (λ z. absurd (false≢true (rw z at e)))

  pub pending-first : (m : ℕ) → pending rule v m ≡ true → first v.cells v.root m ≡ true
  unfolding pending
  pending-first m e = left _ _ (left _ _ (left _ _ e))

  pub pending_not_large : (m : ℕ) → pending rule v m ≡ true → marked v.large m ≡ false
  unfolding pending
  pending_not_large m e = not_true (right (first v.cells v.root m) (not (marked v.large m)) (left _ _ (left _ _ e)))

  -- a region that is frozen was pending
  pub freeze_why : (m : ℕ) → freezes (verdict rule v m) ≡ true → pending rule v m ≡ true
  unfolding verdict freezes
  freeze_why m e = case (pending rule v m) (λ y. y) (λ z. absurd (false≢true (rw z at e)))

  -- where a place is marked as a voter, some index is a most frequent one
  pub frequent_some : (voters : List Bool) (q : ℕ) → q < rule.places → marked voters q ≡ true → ((p : ℕ) → p < rule.places → marked voters p ≡ true → opaque v.cells p ≡ true) → (c : ℕ) × (c < top rule v.cells) × (frequent rule v.cells voters c ≡ true)
  unfolding top frequent most votes
  frequent_some voters q h y o =
      let n = rule.places in
      let i : ℕ → ℕ = (λ p. index (at v.cells p)) in
      let w = greatest-at n (marked voters) (λ p. votes rule v.cells voters (i p)) q h y in
      let p = w.0 in (
        i p,
        suc-le-suc (greatest_above n (opaque v.cells) i p w.1 (o p w.1 w.2)),
        both (yes_leb {m = 1} {n = votes rule v.cells voters (i p)} (count_some n (λ x. marked voters x && eqb (i x) (i p)) p w.1 (both w.2 (yes_eqb {m = i p} refl)))) (yes_eqb w.3),
      )

  judged-cases : (own : ℕ) (o : Option ℕ) → (merges (judged rule own o) ≡ true) ⊎ ((freezes (judged rule own o) ≡ true) ⊎ (o ≡ None))
  unfolding judged merges freezes
  judged-cases own None = inr (inr refl)
  judged-cases own (Some c) = case (lt (rule.dist own c) rule.reach) (λ y. inl (rw y)) (λ z. inr (inl (rw z)))

  no_voter : (m own : ℕ) → ((p : ℕ) → p < rule.places → voter rule v m p ≡ true → opaque v.cells p ≡ true) → target rule v.cells own (table rule.places (voter rule v m)) ≡ None → (q : ℕ) → q < rule.places → voter rule v m q ≡ false
  unfolding target marked
  no_voter m own o e q h =
      let n = rule.places in
      let voters = table n (voter rule v m) in
      let is : (p : ℕ) → p < n → marked voters p ≡ voter rule v m p = (λ p k. table_at n (voter rule v m) false p k) in
      case (voter rule v m q)
      (λ y. let w = frequent_some voters q h (is q h ∙ y) (λ p k u. o p k (sym (is p k) ∙ u)) in
      clash w.2 (least_none _ _ _ e w.0 w.1))
      (λ z. z)

  -- a pending region is repainted, frozen, or has no voter
  pub pending_then : (m : ℕ) → pending rule v m ≡ true → ((p : ℕ) → p < rule.places → voter rule v m p ≡ true → opaque v.cells p ≡ true) → (merges (verdict rule v m) ≡ true) ⊎ ((freezes (verdict rule v m) ≡ true) ⊎ ((q : ℕ) → q < rule.places → voter rule v m q ≡ false))
  unfolding verdict
  pending_then m e o =
      let own = index (at v.cells m) in
      rw e (⊎_elim inl (λ w. inr (⊎_elim inl (λ z. inr (no_voter m own o z)) w)) (judged-cases own (target rule v.cells own (table rule.places (voter rule v m)))))

  -- a small region that is not pending is locked or has a frozen cell
  pub not_pending : (m : ℕ) → pending rule v m ≡ false → first v.cells v.root m ≡ true → marked v.large m ≡ false → (rule.free (index (at v.cells m)) ≡ false) ⊎ (any rule.places (λ p. inside v.cells v.root m p && marked v.frozen p) ≡ true)
  unfolding pending
  not_pending m e f l =
      case (rule.free (index (at v.cells m)))
      (λ y. case (any rule.places (λ p. inside v.cells v.root m p && marked v.frozen p)) (λ z. inr z)
      (λ z. clash (both (both (both f (not_false l)) y) (not_false z)) e))
      (λ z. inl z)

pub unpainted : (w : Verdict) (z : ℤ) → merges w ≡ false → painted w z ≡ z
unfolding merges painted
unpainted stay z e = refl
unpainted (merge c d) z e = absurd (true≢false e)
unpainted (freeze c d) z e = refl

pos_index : (z : ℤ) → non_neg z ≡ true → pos (index z) ≡ z
unfolding index
pos_index (pos i) e = refl
pos_index (negsuc i) e = absurd (false≢true e)

-- ---- sizes

more_not_few : (a b : ℕ) (l : ℤ) → a ≤ b → lt_z (pos a) l ≡ false → lt_z (pos b) l ≡ false
more_not_few a b (pos l) h e = case (ltb b l) (λ y. clash (yes_leb {m = suc a} {n = l} (le_trans (suc-le-suc h) (leb_yes {m = suc b} {n = l} y))) e) (λ z. z)
more_not_few a b (negsuc l) h e = refl

-- ---- one sheet

module _ (rule : Rule) (symm : Symmetric rule.adj) (cells : List ℤ) (len : length cells ≡ rule.places) where
  abbrev rt : ℕ → ℕ
  rt = root rule.places rule.adj cells

  abbrev few_at : ℕ → Bool
  few_at p = few rule cells (roots rule.places rule.adj cells) (rt p)

  pub large-opaque : (p : ℕ) → large rule cells p ≡ true → opaque cells p ≡ true
  unfolding large is_large
  large-opaque p h = left _ _ h

  pub large_many : (p : ℕ) → large rule cells p ≡ true → few_at p ≡ false
  unfolding large is_large root
  large_many p h = not_true (right (opaque cells p) (not (few_at p)) h)

  pub to-large : (p : ℕ) → opaque cells p ≡ true → few_at p ≡ false → large rule cells p ≡ true
  unfolding large is_large root
  to-large p o h = both o (not_false h)

  pub small-opaque : (p : ℕ) → small rule cells p ≡ true → opaque cells p ≡ true
  unfolding small is_small
  small-opaque p h = left _ _ h

  pub small-few : (p : ℕ) → small rule cells p ≡ true → few_at p ≡ true
  unfolding small is_small root
  small-few p h = right (opaque cells p) (few_at p) h

  pub to-small : (p : ℕ) → opaque cells p ≡ true → few_at p ≡ true → small rule cells p ≡ true
  unfolding small is_small root
  to-small p o h = both o h

  -- an opaque cell lies in a small region or in a large one, and not in both
  pub small_or_large : (p : ℕ) → opaque cells p ≡ true → (small rule cells p ≡ true) ⊎ (large rule cells p ≡ true)
  small_or_large p o = case (few_at p) (λ y. inl (to-small p o y)) (λ z. inr (to-large p o z))

  pub not_both {ℓ} : {C : Type ℓ} (p : ℕ) → small rule cells p ≡ true → large rule cells p ≡ true → C
  not_both p y z = clash (small-few p y) (large_many p z)

  -- both are the region's
  pub join_large : {p q : ℕ} → Joined rule.adj cells p q → large rule cells p ≡ true → large rule cells q ≡ true
  join_large {p} {q} j h =
      to-large q (join_right _ _ j) (rw (← (join_root _ _ _ len symm j)) (large_many p h))

  pub join_small : {p q : ℕ} → Joined rule.adj cells p q → small rule cells p ≡ true → small rule cells q ≡ true
  join_small {p} {q} j h =
      to-small q (join_right _ _ j) (rw (← (join_root _ _ _ len symm j)) (small-few p h))

  -- a small region is counted
  pub small-counted : (x : ℕ) → small rule cells x ≡ true → 0 < smalls rule cells
  unfolding smalls first inside root
  small-counted x h =
      let o = small-opaque x h in
      let n = rule.places in
      let a = rule.adj in
      let j = joined-root n a cells len x o in
      count_some n _ (rt x) (root_below n a cells len x o)
      (both (both (join_right a cells j) (yes_eqb (root-root n a cells len symm x o))) (join_small j h))

-- a large region whose cells stay together stays large
pub stays_large : (rule : Rule) (symm : Symmetric rule.adj) (cells cells' : List ℤ) (len : length cells ≡ rule.places) (len' : length cells' ≡ rule.places) (p : ℕ) → ((q : ℕ) → Joined rule.adj cells p q → Joined rule.adj cells' p q) → large rule cells p ≡ true → large rule cells' p ≡ true
unfolding few size
stays_large rule symm cells cells' len len' p f h =
    let o = large-opaque rule symm cells len p h in
    let n = rule.places in
    let a = rule.adj in
    to-large rule symm cells' len' p (join_left a cells' (f p (here o)))
    (more_not_few _ _ rule.limit
    (count_mono n (inside cells (roots n a cells) (root n a cells p)) (inside cells' (roots n a cells') (root n a cells' p))
    (λ q k e. join_inside n a cells' len' symm (f q (inside_join n a cells len symm p q o e))))
    (large_many rule symm cells len p h))

-- the frozen cells of a state make up whole small regions
unfoldable pub Whole : Rule → State → Type 0
Whole rule s = (x y : ℕ) → small rule s.cells x ≡ true → Joined rule.adj s.cells x y → marked s.frozen y ≡ true → marked s.frozen x ≡ true

-- ---- one pass

module _ (rule : Rule) (symm : Symmetric rule.adj) (s : State) (len : length s.cells ≡ rule.places) where
  abbrev n : ℕ
  n = rule.places

  abbrev cells : List ℤ
  cells = s.cells

  abbrev cells' : List ℤ
  cells' = (pass rule s).cells

  abbrev root_at : ℕ → ℕ
  root_at p = root rule.places rule.adj s.cells p

  -- the verdict on the region of p
  abbrev fate_at : ℕ → Verdict
  fate_at p = verdict rule (view rule s) (root_at p)

  pub fate-at : (p : ℕ) → p < n → fate (fates rule s) p ≡ fate_at p
  unfolding fate fates view root
  fate-at p h =
      table_at n _ stay p h ∙ table_at n (verdict rule (view rule s)) stay (root_at p) (lt_of_le_of_lt (root_le n rule.adj cells len p h) h)

  pub pass-length : length cells' ≡ n
  unfolding pass applied
  pass-length = table-length n _

  pub cell-at : (p : ℕ) → p < n → at cells' p ≡ painted (fate_at p) (at cells p)
  unfolding pass applied at
  cell-at p h = table_at n _ (negsuc 0) p h ∙ ap (λ (w : Verdict). painted w (at cells p)) (fate-at p h)

  kept : (p : ℕ) → p < n → merges (fate_at p) ≡ false → at cells' p ≡ at cells p
  kept p h e = cell-at p h ∙ unpainted (fate_at p) (at cells p) e

  pub fate_join : {p q : ℕ} → Joined rule.adj cells p q → fate_at p ≡ fate_at q
  fate_join j = ap (verdict rule (view rule s)) (join_root n rule.adj cells len symm j)

  pub view-large : (p : ℕ) → p < n → marked (view rule s).large p ≡ large rule cells p
  unfolding marked view large
  view-large p h = table_at n _ false p h

  -- A
  large_unmerged : (p : ℕ) → large rule cells p ≡ true → merges (fate_at p) ≡ false
  large_unmerged p h =
      let o = large-opaque rule symm cells len p h in
      let m = joined-root n rule.adj cells len p o in
      case (merges (fate_at p))
      (λ y. clash (join_large rule symm cells len m h)
      (sym (view-large (root_at p) (root_below n rule.adj cells len p o))
      ∙ pending_not_large rule (view rule s) (root_at p) (merge_why rule (view rule s) (root_at p) y).0))
      (λ z. z)

  pub large_kept : (p : ℕ) → large rule cells p ≡ true → at cells' p ≡ at cells p
  large_kept p h = kept p (opaque-below n rule.adj cells len p (large-opaque rule symm cells len p h)) (large_unmerged p h)

  pub large_stays : (p : ℕ) → large rule cells p ≡ true → large rule cells' p ≡ true
  unfolding opaque
  large_stays p h =
      stays_large rule symm cells cells' len pass-length p
      (λ q j. lift_join rule.adj cells cells' (at cells p) (large-opaque rule symm cells len p h)
      (λ x k. large_kept x (join_large rule symm cells len k h) ∙ sym (join_same rule.adj cells k)) j)
      h

  -- B
  pub fates-length : length (fates rule s) ≡ n
  unfolding fates
  fates-length = table-length n _

  pub repaints-at : (p : ℕ) → repaints rule s p ≡ true → (p < n) × (merges (fate_at p) ≡ true)
  unfolding repaints fate merges
  repaints-at p e =
      case (leb (suc p) n) (λ y. let h : p < n = leb_yes y in (h, ap merges (sym (fate-at p h)) ∙ e))
      (λ z. let h : length (fates rule s) ≤ p = rw fates-length (le_of_suc-le-suc (no_leb {m = suc p} {n = n} z)) in
      clash (sym (ap merges (get_or-eq_default (fates rule s) stay h)) ∙ e) refl)

  pub record Repainted (p : ℕ) : Type 0 where
    -- it was opaque
    pub was : opaque cells p ≡ true
    -- a cell of a large region
    pub from : ℕ
    pub big : large rule cells from ≡ true
    -- that neighbours a cell of the region
    pub edge : ℕ
    pub of_it : Joined rule.adj cells p edge
    pub touch : rule.adj edge from ≡ true
    -- gave the region its index
    pub takes : (x : ℕ) → Joined rule.adj cells p x → at cells' x ≡ at cells from

  merged_opaque : (p : ℕ) → p < n → merges (fate_at p) ≡ true → opaque cells p ≡ true
  unfolding first inside view
  merged_opaque p h e =
      let f = pending-first rule (view rule s) (root_at p) (merge_why rule (view rule s) (root_at p) e).0 in
      case (opaque cells p) (λ y. y)
      (λ z. clash (left (opaque cells (root_at p)) _ f) (ap (opaque cells) (clear_root n rule.adj cells len p h z) ∙ z))

  taken : (p q : ℕ) → large rule cells q ≡ true → ((z : ℤ) → painted (fate_at p) z ≡ pos (index (at cells q))) → (x : ℕ) → Joined rule.adj cells p x → at cells' x ≡ at cells q
  unfolding opaque
  taken p q h f x j =
      cell-at x (opaque-below n rule.adj cells len x (join_right rule.adj cells j))
      ∙ ap (λ (w : Verdict). painted w (at cells x)) (sym (fate_join j))
      ∙ f (at cells x)
      ∙ pos_index (at cells q) (large-opaque rule symm cells len q h)

  pub repainted : (p : ℕ) → repaints rule s p ≡ true → Repainted p
  unfolding voter view
  repainted p e =
      let h = (repaints-at p e).0 in
      let y = (repaints-at p e).1 in
      let o = merged_opaque p h y in
      let w = (merge_why rule (view rule s) (root_at p) y).1 in
      let q = w.0 in
      let big : large rule cells q ≡ true = sym (view-large q w.1) ∙ left (marked (view rule s).large q) _ w.2 in
      let t = any_yes n (λ x. inside cells (roots n rule.adj cells) (root_at p) x && rule.adj x q) (right (marked (view rule s).large q) _ w.2) in
      record {
        was = o;
        from = q;
        big = big;
        edge = t.0;
        of_it = inside_join n rule.adj cells len symm p t.0 o (left (inside cells (roots n rule.adj cells) (root_at p) t.0) _ t.2);
        touch = right (inside cells (roots n rule.adj cells) (root_at p) t.0) (rule.adj t.0 q) t.2;
        takes = taken p q big w.3;
      }

  -- a repainted cell is in a large region afterwards
  pub repainted_large : (p : ℕ) → repaints rule s p ≡ true → large rule cells' p ≡ true
  unfolding opaque
  repainted_large p e =
      let w = repainted p e in
      let q = w.from in
      let o = large-opaque rule symm cells len q w.big in
      let j : Joined rule.adj cells' p w.edge = lift_join rule.adj cells cells' (at cells q) o w.takes w.of_it in
      let same : at cells' w.edge ≡ at cells' q = w.takes w.edge w.of_it ∙ sym (large_kept q w.big) in
      let u = join_right rule.adj cells' j in
      let l = to-link rule.adj cells' w.edge q w.touch u same in
      let o' = large-opaque rule symm cells' pass-length q (large_stays q w.big) in
      join_large rule symm cells' pass-length
      (join_sym rule.adj cells' symm (join_trans rule.adj cells' j (step l (here o'))))
      (large_stays q w.big)

  -- C
  pub small_kept : (p : ℕ) → small rule cells' p ≡ true → (merges (fate_at p) ≡ false) × (at cells' p ≡ at cells p)
  unfolding repaints
  small_kept p h =
      let b = opaque-below n rule.adj cells' pass-length p (small-opaque rule symm cells' pass-length p h) in
      let z : merges (fate_at p) ≡ false = case (merges (fate_at p)) (λ y. not_both rule symm cells' pass-length p h (repainted_large p (ap merges (fate-at p b) ∙ y))) (λ z. z) in
      (z, kept p b z)

  pub small_was : (p : ℕ) → small rule cells' p ≡ true → small rule cells p ≡ true
  unfolding opaque
  small_was p h =
      let o : opaque cells p ≡ true = rw (small_kept p h).1 at (small-opaque rule symm cells' pass-length p h) in
      ⊎_elim (λ y. y) (λ y. not_both rule symm cells' pass-length p h (large_stays p y)) (small_or_large rule symm cells len p o)

  pub small_region : (p q : ℕ) → small rule cells' p ≡ true → Joined rule.adj cells' p q ↔ Joined rule.adj cells p q
  unfolding opaque
  small_region p q h =
      let o' = small-opaque rule symm cells' pass-length p h in
      let o = small-opaque rule symm cells len p (small_was p h) in (
        lift_join rule.adj cells' cells (at cells' p) o' (λ x j. sym (small_kept x (join_small rule symm cells' pass-length j h)).1 ∙ sym (join_same rule.adj cells' j)),
        lift_join rule.adj cells cells' (at cells p) o
            (λ x j. kept x (opaque-below n rule.adj cells len x (join_right rule.adj cells j)) (ap merges (sym (fate_join j)) ∙ (small_kept p h).0) ∙ sym (join_same rule.adj cells j)),
      )

  -- what is not repainted keeps its index
  off : (l : List ℤ) → length l ≡ n → (p : ℕ) → leb (suc p) n ≡ false → at l p ≡ negsuc 0
  unfolding at
  off l e p z = get_or-eq_default l (negsuc 0) (rw e (le_of_suc-le-suc (no_leb {m = suc p} {n = n} z)))

  pub unpainted_kept : (p : ℕ) → repaints rule s p ≡ false → at cells' p ≡ at cells p
  unfolding repaints
  unpainted_kept p e =
      case (leb (suc p) n) (λ y. let h : p < n = leb_yes y in kept p h (ap merges (sym (fate-at p h)) ∙ e))
      (λ z. off cells' pass-length p z ∙ sym (off cells len p z))

  pub repaints-below : (p : ℕ) → repaints rule s p ≡ true → p < n
  repaints-below p e = (repaints-at p e).0

  pub join_repaints : {p q : ℕ} → Joined rule.adj cells p q → repaints rule s p ≡ repaints rule s q
  unfolding repaints
  join_repaints {p} {q} j =
      let a = opaque-below n rule.adj cells len p (join_left rule.adj cells j) in
      let b = opaque-below n rule.adj cells len q (join_right rule.adj cells j) in
      ap merges (fate-at p a ∙ fate_join j ∙ sym (fate-at q b))

  pub repainted_small : (p : ℕ) → repaints rule s p ≡ true → small rule cells p ≡ true
  repainted_small p e =
      ⊎_elim (λ y. y) (λ y. clash (repaints-at p e).1 (large_unmerged p y)) (small_or_large rule symm cells len p (repainted p e).was)

  -- an index that a large region has afterwards is one that a large region had before
  pub large_source : (y : ℕ) → large rule cells' y ≡ true → (z : ℕ) × (large rule cells z ≡ true) × (at cells' y ≡ at cells z)
  unfolding opaque
  large_source y h = case (any n old) found none_found
    where
      o : opaque cells' y ≡ true
      o = large-opaque rule symm cells' pass-length y h

      in' : ℕ → Bool
      in' x = inside cells' (roots n rule.adj cells') (root n rule.adj cells' y) x

      old : ℕ → Bool
      old x = in' x && repaints rule s x

      found : any n old ≡ true → (z : ℕ) × (large rule cells z ≡ true) × (at cells' y ≡ at cells z)
      found e =
          let t = any_yes n old e in
          let x = t.0 in
          let j = inside_join n rule.adj cells' pass-length symm y x o (left (in' x) (repaints rule s x) t.2) in
          let w = repainted x (right (in' x) (repaints rule s x) t.2) in
          (w.from, w.big, join_same rule.adj cells' j ∙ w.takes x (here w.was))

      none_found : any n old ≡ false → (z : ℕ) × (large rule cells z ≡ true) × (at cells' y ≡ at cells z)
      none_found e =
          let same : (x : ℕ) → Joined rule.adj cells' y x → at cells x ≡ at cells' y = (λ x j.
          sym (unpainted_kept x (case (repaints rule s x)
          (λ u. clash (both (join_inside n rule.adj cells' pass-length symm j) u) (any_no n old e x (opaque-below n rule.adj cells' pass-length x (join_right rule.adj cells' j))))
          (λ u. u)))
          ∙ sym (join_same rule.adj cells' j)) in
          let b = stays_large rule symm cells' cells pass-length len y (λ q j. lift_join rule.adj cells' cells (at cells' y) o same j) h in
          (y, b, large_kept y b)

  -- a repainting pass leaves fewer small regions
  pub first_was : (p : ℕ) → small rule cells' p ≡ true → first cells' (roots n rule.adj cells') p ≡ true → first cells (roots n rule.adj cells) p ≡ true
  unfolding first inside root
  first_was p h f =
      let o = small-opaque rule symm cells len p (small_was p h) in
      let b = opaque-below n rule.adj cells len p o in
      let e : root n rule.adj cells' p ≡ p = eqb_yes (right (opaque cells' p) (eqb (held (roots n rule.adj cells') p) p) f) in
      let j = (small_region p (root_at p) h).1 (joined-root n rule.adj cells len p o) in
      let l = root-first n rule.adj cells' pass-length symm j in
      let k = root_le n rule.adj cells len p b in
      both o (yes_eqb (le_antisymm k (rw e at l)))

  pub fewer_smalls : (x : ℕ) → repaints rule s x ≡ true → smalls rule cells' < smalls rule cells
  unfolding smalls first inside root
  fewer_smalls x e =
      let w = repainted x e in
      let j = joined-root n rule.adj cells len x w.was in
      let m = root_at x in
      let sm = join_small rule symm cells len j (repainted_small x e) in
      let lg = repainted_large m (sym (join_repaints j) ∙ e) in
      count_less n _ _
      (λ p h y. let g = right (first cells' (roots n rule.adj cells') p) (small rule cells' p) y in both (first_was p g (left _ _ y)) (small_was p g))
      m (root_below n rule.adj cells len x w.was)
      (case (small rule cells' m) (λ y. not_both rule symm cells' pass-length m y lg) (λ z. rw z (and-false (first cells' (roots n rule.adj cells') m))))
      (both (both (join_right rule.adj cells j) (yes_eqb (root-root n rule.adj cells len symm x w.was))) sm)

  -- ---- what is frozen, and what is left

  pub frozen_at : (p : ℕ) → p < n → marked (pass rule s).frozen p ≡ (freezes (fate_at p) || marked s.frozen p)
  unfolding pass applied marked
  frozen_at p h = table_at n _ false p h ∙ ap (λ (w : Verdict). freezes w || get_or s.frozen p false) (fate-at p h)

  pub frozen_length : length (pass rule s).frozen ≡ n
  unfolding pass applied
  frozen_length = table-length n _

  -- a region that a pass may decide is small
  pub pending-small : (m : ℕ) → pending rule (view rule s) m ≡ true → (first cells (roots n rule.adj cells) m ≡ true) × (small rule cells m ≡ true)
  unfolding first inside view
  pending-small m e =
      let f = pending-first rule (view rule s) m e in
      let o = left (opaque cells m) _ f in
      let b = opaque-below n rule.adj cells len m o in
      let l : large rule cells m ≡ false = sym (view-large m b) ∙ pending_not_large rule (view rule s) m e in
      (f, ⊎_elim (λ y. y) (λ y. clash y l) (small_or_large rule symm cells len m o))

  smalls_some : (m : ℕ) → pending rule (view rule s) m ≡ true → 0 < smalls rule cells
  unfolding smalls
  smalls_some m e =
      let w = pending-small m e in
      count_some n _ m (opaque-below n rule.adj cells len m (small-opaque rule symm cells len m w.1)) (both w.0 w.1)

  -- with no small region a pass changes nothing
  pub still : length s.frozen ≡ n → smalls rule cells ≤ 0 → pass rule s ≡ s
  unfolding at marked
  still flen h = λ i. record { cells = a i; frozen = b i }
    where
      none_pending : (m : ℕ) → pending rule (view rule s) m ≡ true → ⊥
      none_pending m e = let k = smalls_some m e in omega arith

      a : (pass rule s).cells ≡ s.cells
      a = ext_get_or (negsuc 0) cells' cells (pass-length ∙ sym len) (λ p k. unpainted_kept p (case (repaints rule s p)
          (λ y. absurd (none_pending (root_at p) (merge_why rule (view rule s) (root_at p) (repaints-at p y).1).0)) (λ z. z)))

      b : (pass rule s).frozen ≡ s.frozen
      b = ext_get_or false (pass rule s).frozen s.frozen (frozen_length ∙ sym flen)
          (λ p k. frozen_at p (rw frozen_length at k) ∙ ap (λ (x : Bool). x || get_or s.frozen p false)
          (case (freezes (fate_at p)) (λ y. absurd (none_pending (root_at p) (freeze_why rule (view rule s) (root_at p) y))) (λ z. z)))

  -- a pass that repaints nothing leaves the sheet
  pub same-cells : ((x : ℕ) → repaints rule s x ≡ false) → cells' ≡ cells
  unfolding at
  same-cells f = ext_get_or (negsuc 0) cells' cells (pass-length ∙ sym len) (λ p k. unpainted_kept p (f p))

  pub whole_stays : Whole rule s → Whole rule (pass rule s)
  unfolding Whole
  whole_stays f x y h j e =
      let k = (small_region x y h).0 j in
      let bx = opaque-below n rule.adj cells len x (join_left rule.adj cells k) in
      let by = opaque-below n rule.adj cells len y (join_right rule.adj cells k) in
      frozen_at x bx
      ∙ ⊎_elim (λ u. or_left (marked s.frozen x) (ap freezes (fate_join k) ∙ u)) (λ u. or_right (freezes (fate_at x)) (f x y (small_was x h) k u))
      (either (freezes (fate_at y)) (marked s.frozen y) (sym (frozen_at y by) ∙ e))

  -- why a small region is left by a pass that repaints nothing
  pub left_why : Whole rule s → ((x : ℕ) → repaints rule s x ≡ false) → (x : ℕ) → small rule cells' x ≡ true → Left rule (pass rule s) x
  unfolding Whole Apart Frozen voter view repaints first inside root
  left_why whole f x h = case (pending rule v m) yes_pending no_pending
    where
      v : View
      v = view rule s

      a : ℕ → ℕ → Bool
      a = rule.adj

      m : ℕ
      m = root_at x

      sx : small rule cells x ≡ true
      sx = small_was x h

      o : opaque cells x ≡ true
      o = small-opaque rule symm cells len x sx

      jm : Joined a cells x m
      jm = joined-root n a cells len x o

      below : {y : ℕ} → Joined a cells x y → y < n
      below {y} j = opaque-below n a cells len y (join_right a cells j)

      voter-opaque : (p : ℕ) → p < n → voter rule v m p ≡ true → opaque cells p ≡ true
      voter-opaque p k e = large-opaque rule symm cells len p (sym (view-large p k) ∙ left (marked v.large p) _ e)

      iced : (y : ℕ) → Joined a cells x y → freezes (fate_at x) ≡ true → marked (pass rule s).frozen y ≡ true
      iced y j e = frozen_at y (below j) ∙ or_left (marked s.frozen y) (ap freezes (sym (fate_join j)) ∙ e)

      alone : ((q : ℕ) → q < n → voter rule v m q ≡ false) → (y z : ℕ) → Joined a cells x y → a y z ≡ true → large rule cells z ≡ true → ⊥
      alone g y z j e l =
          let b = opaque-below n a cells len z (large-opaque rule symm cells len z l) in
          clash (both (view-large z b ∙ l) (yes_any n (λ p. inside cells (roots n a cells) m p && a p z) y (below j) (both (join_inside n a cells len symm j) e))) (g z b)

      yes_pending : pending rule v m ≡ true → Left rule (pass rule s) x
      yes_pending e =
          ⊎_elim (λ y. clash (ap merges (fate-at x (below (here o))) ∙ y) (f x))
          (⊎_elim (λ y. frozen (λ z j. iced z ((small_region x z h).0 j) y))
          (λ g. apart (λ y z j e l. alone g y z ((small_region x y h).0 j) e (rw (same-cells f) at l))))
          (pending_then rule v m e voter-opaque)

      no_pending : pending rule v m ≡ false → Left rule (pass rule s) x
      no_pending e =
          ⊎_elim (λ z. barred (ap (λ (c : ℤ). rule.free (index c)) ((small_kept x h).1 ∙ join_same a cells jm) ∙ z))
          (λ y. let t = any_yes n (λ p. inside cells (roots n a cells) m p && marked s.frozen p) y in
          let j = inside_join n a cells len symm x t.0 o (left (inside cells (roots n a cells) m t.0) _ t.2) in
          let u = right (inside cells (roots n a cells) m t.0) (marked s.frozen t.0) t.2 in
          frozen (λ z i. let k = (small_region x z h).0 i in
          frozen_at z (below k) ∙ or_right (freezes (fate_at z)) (whole z t.0 (join_small rule symm cells len k sx) (join_trans a cells (join_sym a cells symm k) j) u)))
          (not_pending rule v m e (both (join_right a cells jm) (yes_eqb (root-root n a cells len symm x o)))
          (view-large m (below jm) ∙ case (large rule cells m) (λ y. not_both rule symm cells len m (join_small rule symm cells len jm sx) y) (λ z. z)))
