-- Runs of passes, for any neighbourhood that works both ways round. Assumes nothing.
use Prim.Native.Nat.{ℕ, zero, suc, ◌+◌, ◌≤◌, ◌<◌, zero-le}
use mathlib.Core.Path.{◌≡◌, refl, sym, ap, ◌∙◌}
use mathlib.Core.Bool.{true, false, cond}
use mathlib.Core.List.{List}
use native.Mathlib.Nat.{le_refl, le_of_suc-le-suc, not-suc-le-zero}
use native.Mathlib.Omega.{arith}
use lib.IntN.{ℤ}
use lib.ListN.{length}
use Rattle.rules.specs.Regions.{at, here, Symmetric}
use Rattle.rules.specs.Pass.{Rule, State, marked, small, large, smalls, merges, fates, fate, pass, repaints, moves, fresh, clean}
use Rattle.rules.specs.Claims.{repaintings}
use Rattle.rules.proofs.Shown.{Left}
use Rattle.base.proofs.Counting.{case, clash, table_at, table-length, any_yes, any_no}
use Rattle.rules.proofs.Roots.{join_right, opaque-below}
use Rattle.rules.proofs.Passes.{pass-length, large_kept, large_stays, repainted, repainted_large, not_both, repaints-below, repainted_small, unpainted_kept, large_source, fewer_smalls, frozen_length, still, small-counted, Whole, whole_stays, left_why}

pub clean_go : (rule : Rule) (k : ℕ) (s : State) → moves rule (fates rule s) ≡ true → clean rule (suc k) s ≡ record { state = (clean rule k (pass rule s)).state; count = suc (clean rule k (pass rule s)).count }
unfolding clean pass
clean_go rule k s y = rw (y, clean)

pub clean_stop : (rule : Rule) (k : ℕ) (s : State) → moves rule (fates rule s) ≡ false → clean rule (suc k) s ≡ record { state = pass rule s; count = 0 }
unfolding clean pass
clean_stop rule k s z = rw (z, clean) refl

paint_go : (rule : Rule) (k : ℕ) (s : State) (x : ℕ) → moves rule (fates rule s) ≡ true → repaintings rule (suc k) s x ≡ cond (repaints rule s x) 1 0 + repaintings rule k (pass rule s) x
unfolding repaintings
paint_go rule k s x y = rw y

paint_stop : (rule : Rule) (k : ℕ) (s : State) (x : ℕ) → moves rule (fates rule s) ≡ false → repaintings rule (suc k) s x ≡ cond (repaints rule s x) 1 0 + 0
unfolding repaintings
paint_stop rule k s x z = rw z

-- some cell is repainted where a pass repaints, and none where it does not
pub moves_yes : (rule : Rule) (s : State) → moves rule (fates rule s) ≡ true → (x : ℕ) × (repaints rule s x ≡ true)
unfolding moves repaints
moves_yes rule s y = let w = any_yes rule.places _ y in (w.0, w.2)

module _ (rule : Rule) (symm : Symmetric rule.adj) where
  pub moves_no : (s : State) (len : length s.cells ≡ rule.places) → moves rule (fates rule s) ≡ false → (x : ℕ) → repaints rule s x ≡ false
  unfolding moves repaints
  moves_no s len z x =
      case (repaints rule s x)
      (λ y. clash y (any_no rule.places (λ p. merges (fate (fates rule s) p)) z x (repaints-below rule symm s len x y)))
      (λ u. u)

  -- ---- one run

  pub run_length : (k : ℕ) (s : State) → length s.cells ≡ rule.places → length (clean rule k s).state.cells ≡ rule.places
  unfolding clean
  run_length zero s len = len
  run_length (suc k) s len =
      case (moves rule (fates rule s))
      (λ y. rw (clean_go rule k s y) (run_length k (pass rule s) (pass-length rule symm s len)))
      (λ z. rw (clean_stop rule k s z) (pass-length rule symm s len))

  -- a cell of a large region stays as it is, in a large region
  run_large : (k : ℕ) (s : State) → length s.cells ≡ rule.places → (x : ℕ) → large rule s.cells x ≡ true → (at (clean rule k s).state.cells x ≡ at s.cells x) × (large rule (clean rule k s).state.cells x ≡ true)
  unfolding clean
  run_large zero s len x h = (refl, h)
  run_large (suc k) s len x h =
      let a = large_kept rule symm s len x h in
      let b = large_stays rule symm s len x h in
      case (moves rule (fates rule s))
      (λ y. rw (clean_go rule k s y) (let i = run_large k (pass rule s) (pass-length rule symm s len) x b in (i.0 ∙ a, i.1)))
      (λ z. rw (clean_stop rule k s z) (a, b))

  large_unpainted : (s : State) (len : length s.cells ≡ rule.places) (x : ℕ) → large rule s.cells x ≡ true → repaints rule s x ≡ false
  large_unpainted s len x h =
      case (repaints rule s x) (λ y. not_both rule symm s.cells len x (repainted_small rule symm s len x y) h) (λ z. z)

  run_never : (k : ℕ) (s : State) → length s.cells ≡ rule.places → (x : ℕ) → large rule s.cells x ≡ true → repaintings rule k s x ≡ 0
  unfolding repaintings
  run_never zero s len x h = refl
  run_never (suc k) s len x h =
      let u = large_unpainted s len x h in
      case (moves rule (fates rule s))
      (λ y. paint_go rule k s x y ∙ rw (u, run_never k (pass rule s) (pass-length rule symm s len) x (large_stays rule symm s len x h)))
      (λ z. paint_stop rule k s x z ∙ rw u)

  pub run_once : (k : ℕ) (s : State) → length s.cells ≡ rule.places → (x : ℕ) → repaintings rule k s x ≤ 1
  unfolding repaintings
  run_once zero s len x = zero-le
  run_once (suc k) s len x =
      let l = pass-length rule symm s len in
      case (moves rule (fates rule s))
      (λ y. rw (paint_go rule k s x y)
      (case (repaints rule s x) (λ r. rw (r, run_never k (pass rule s) l x (repainted_large rule symm s len x r)) (le_refl 1))
      (λ r. let i = run_once k (pass rule s) l x in rw r (omega arith))))
      (λ z. rw (paint_stop rule k s x z, moves_no s len z x) zero-le)

  -- a cell that is not repainted stays as it is
  pub run_kept : (k : ℕ) (s : State) → length s.cells ≡ rule.places → (x : ℕ) → repaintings rule k s x ≡ 0 → at (clean rule k s).state.cells x ≡ at s.cells x
  unfolding repaintings clean
  run_kept zero s len x e = refl
  run_kept (suc k) s len x e =
      case (moves rule (fates rule s))
      (λ y. rw (clean_go rule k s y)
      (case (repaints rule s x) (λ r. let e' : 1 + repaintings rule k (pass rule s) x ≡ 0 = rw (paint_go rule k s x y, r) at e in absurd (omega arith))
      (λ r. let e' : 0 + repaintings rule k (pass rule s) x ≡ 0 = rw (paint_go rule k s x y, r) at e in
      run_kept k (pass rule s) (pass-length rule symm s len) x (omega arith) ∙ unpainted_kept rule symm s len x r)))
      (λ z. rw (clean_stop rule k s z) (unpainted_kept rule symm s len x (moves_no s len z x)))

  -- a repainted cell ends in a large region, with an index that a large region had at the start
  pub run_source : (k : ℕ) (s : State) → length s.cells ≡ rule.places → (x : ℕ) → 0 < repaintings rule k s x → (large rule (clean rule k s).state.cells x ≡ true) × ((y : ℕ) × (large rule s.cells y ≡ true) × (at (clean rule k s).state.cells x ≡ at s.cells y))
  unfolding repaintings clean
  run_source zero s len x h = absurd (not-suc-le-zero h)
  run_source (suc k) s len x h =
      let l = pass-length rule symm s len in
      case (moves rule (fates rule s))
      (λ y. rw (clean_go rule k s y)
      (case (repaints rule s x)
      (λ r. let w = repainted rule symm s len x r in
      let i = run_large k (pass rule s) l x (repainted_large rule symm s len x r) in
      (i.1, (w.from, w.big, i.0 ∙ w.takes x (here w.was))))
      (λ r. let h' : 0 < 0 + repaintings rule k (pass rule s) x = rw (paint_go rule k s x y, r) at h in
      let i = run_source k (pass rule s) l x (omega arith) in
      let j = large_source rule symm s len i.1.0 i.1.1 in
      (i.0, (j.0, j.1, i.1.2 ∙ j.2)))))
      (λ z. let h' : 0 < 0 + 0 = rw (paint_stop rule k s x z, moves_no s len z x) at h in absurd (omega arith))

  pub run_bounded : (k : ℕ) (s : State) → length s.cells ≡ rule.places → (clean rule k s).count ≤ smalls rule s.cells
  unfolding clean
  run_bounded zero s len = zero-le
  run_bounded (suc k) s len =
      case (moves rule (fates rule s))
      (λ y. rw (clean_go rule k s y)
      (let i = run_bounded k (pass rule s) (pass-length rule symm s len) in
      let w = moves_yes rule s y in
      let f = fewer_smalls rule symm s len w.0 w.1 in
      omega arith))
      (λ z. rw (clean_stop rule k s z) zero-le)

  -- ---- two runs

  pub runs_large : (p q : ℕ) (s : State) → length s.cells ≡ rule.places → p ≤ q → (x : ℕ) → large rule (clean rule p s).state.cells x ≡ true → at (clean rule p s).state.cells x ≡ at (clean rule q s).state.cells x
  unfolding clean
  runs_large zero q s len h x g = sym (run_large q s len x g).0
  runs_large (suc p) zero s len h x g = absurd (not-suc-le-zero h)
  runs_large (suc p) (suc q) s len h x g =
      case (moves rule (fates rule s))
      (λ y. rw (clean_go rule p s y, clean_go rule q s y)
      (runs_large p q (pass rule s) (pass-length rule symm s len) (le_of_suc-le-suc h) x (rw (clean_go rule p s y) at g)))
      (λ z. rw (clean_stop rule p s z, clean_stop rule q s z))

  -- with as many passes as small regions, more passes change nothing
  pub runs_settled : (p q : ℕ) (s : State) → length s.cells ≡ rule.places → length s.frozen ≡ rule.places → smalls rule s.cells ≤ p → p ≤ q → clean rule p s ≡ clean rule q s
  unfolding clean
  runs_settled zero zero s len flen h l = refl
  runs_settled zero (suc q) s len flen h l =
      case (moves rule (fates rule s))
      (λ y. let w = moves_yes rule s y in let f = fewer_smalls rule symm s len w.0 w.1 in absurd (omega arith))
      (λ z. sym (clean_stop rule q s z ∙ ap (λ (t : State). record { state = t; count = 0 }) (still rule symm s len flen h)))
  runs_settled (suc p) zero s len flen h l = absurd (not-suc-le-zero l)
  runs_settled (suc p) (suc q) s len flen h l =
      case (moves rule (fates rule s))
      (λ y. let w = moves_yes rule s y in
      let f = fewer_smalls rule symm s len w.0 w.1 in
      let i = runs_settled p q (pass rule s) (pass-length rule symm s len) (frozen_length rule symm s len) (omega arith) (le_of_suc-le-suc l) in
      rw (clean_go rule p s y, clean_go rule q s y, i))
      (λ z. rw (clean_stop rule p s z, clean_stop rule q s z))

  -- and each small region that is left has its reason
  pub runs_left : (p : ℕ) (s : State) → length s.cells ≡ rule.places → Whole rule s → smalls rule s.cells ≤ p → (x : ℕ) → small rule (clean rule p s).state.cells x ≡ true → Left rule (clean rule p s).state x
  unfolding clean
  runs_left zero s len whole h x g = let k = small-counted rule symm s.cells len x g in absurd (omega arith)
  runs_left (suc p) s len whole h x g =
      case (moves rule (fates rule s))
      (λ y. let w = moves_yes rule s y in
      let f = fewer_smalls rule symm s len w.0 w.1 in
      rw (clean_go rule p s y)
      (runs_left p (pass rule s) (pass-length rule symm s len) (whole_stays rule symm s len whole) (omega arith) x (rw (clean_go rule p s y) at g)))
      (λ z. rw (clean_stop rule p s z) (left_why rule symm s len whole (moves_no s len z) x (rw (clean_stop rule p s z) at g)))

-- ---- the start: no cell is frozen

module _ (rule : Rule) (symm : Symmetric rule.adj) (cells : List ℤ) (len : length cells ≡ rule.places) where
  pub fresh_frozen : length (fresh rule cells).frozen ≡ rule.places
  unfolding fresh
  fresh_frozen = table-length rule.places _

  pub fresh-whole : Whole rule (fresh rule cells)
  unfolding fresh Whole marked
  fresh-whole x y h j e =
      clash e (table_at rule.places (λ p. false) false y (opaque-below rule.places rule.adj cells len y (join_right rule.adj cells j)))
