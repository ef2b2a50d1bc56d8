-- A small region that is frozen after a run was frozen, whole, in one of the passes made. Assumes nothing.
use Prim.Native.Nat.{ℕ, zero, suc, ◌<◌}
use mathlib.Core.Path.{◌≡◌, sym, ap, ◌∙◌}
use mathlib.Core.Logic.{◌⊎◌, inl, inr, ⊎_elim}
use mathlib.Core.Bool.{true, false}
use mathlib.Core.List.{List}
use lib.IntN.{ℤ}
use lib.ListN.{length}
use Rattle.base.proofs.Counting.{case, clash, either, table_at}
use Rattle.rules.specs.Regions.{opaque, Joined, here, Symmetric}
use Rattle.rules.specs.Pass.{Rule, State, marked, small, freezes, fates, pass, moves, fresh, clean}
use Rattle.rules.proofs.Shown.{cleaned, Frozen}
use Rattle.rules.specs.Promises.{Freezes, WasFrozen}
use Rattle.rules.proofs.Roots.{join_right, opaque-below}
use Rattle.rules.proofs.Passes.{fate-at, fate_join, pass-length, small-opaque, small_was, small_region, frozen_at}
use Rattle.rules.proofs.Runs.{clean_go, clean_stop, run_length}

module _ (rule : Rule) (symm : Symmetric rule.adj) where
  -- x lies in a small region of s, of which its region on the sheet `left` is a part
  record Within (s : State) (left : List ℤ) (x : ℕ) : Type 0 where
    was : small rule s.cells x ≡ true
    part : (y : ℕ) → Joined rule.adj left x y → Joined rule.adj s.cells x y

  -- what a pass leaves small was so before it
  pass-within : (s : State) → length s.cells ≡ rule.places → (left : List ℤ) (x : ℕ) → Within (pass rule s) left x → Within s left x
  pass-within s len left x w =
      record { was = small_was rule symm s len x w.was; part = λ y j. (small_region rule symm s len x y w.was).0 (w.part y j) }

  -- and what a run leaves small
  run_within : (k : ℕ) (s : State) → length s.cells ≡ rule.places → (left : List ℤ) (x : ℕ) → Within (clean rule k s).state left x → Within s left x
  unfolding clean
  run_within zero s len left x w = w
  run_within (suc k) s len left x w =
      pass-within s len left x
      (case (moves rule (fates rule s))
      (λ y. run_within k (pass rule s) (pass-length rule symm s len) left x (rw (clean_go rule k s y) at w))
      (λ z. rw (clean_stop rule k s z) at w))

  -- a region that is frozen after a pass is frozen in it or was before
  pass_frozen : (s : State) → length s.cells ≡ rule.places → (left : List ℤ) (x : ℕ) → Within s left x → marked (pass rule s).frozen x ≡ true →
      Freezes rule s left x ⊎ (marked s.frozen x ≡ true)
  unfolding Freezes
  pass_frozen s len left x w e =
      let below : (y : ℕ) → opaque s.cells y ≡ true → y < rule.places = opaque-below rule.places rule.adj s.cells len in
      ⊎_elim
      (λ f. inl (λ y j. let i = w.part y j in
      ap freezes (fate-at rule symm s len y (below y (join_right rule.adj s.cells i)) ∙ sym (fate_join rule symm s len i)) ∙ f))
      inr
      (either _ _ (sym (frozen_at rule symm s len x (below x (small-opaque rule symm s.cells len x w.was))) ∙ e))

  -- and after a run, in one of its passes or before
  run_frozen : (k : ℕ) (s : State) → length s.cells ≡ rule.places → (left : List ℤ) (x : ℕ) → Within (clean rule k s).state left x → marked (clean rule k s).state.frozen x ≡ true →
      WasFrozen rule k s left x ⊎ (marked s.frozen x ≡ true)
  unfolding clean WasFrozen
  run_frozen zero s len left x w e = inr e
  run_frozen (suc k) s len left x w e =
      let here-frozen = pass_frozen s len left x (run_within (suc k) s len left x w) in
      case (moves rule (fates rule s))
      (λ y. ⊎_elim (λ f. inl (inr (y, f))) (λ u. ⊎_elim (λ f. inl (inl f)) inr (here-frozen u))
      (run_frozen k (pass rule s) (pass-length rule symm s len) left x (rw (clean_go rule k s y) at w) (rw (clean_go rule k s y) at e)))
      (λ z. ⊎_elim (λ f. inl (inl f)) inr (here-frozen (rw (clean_stop rule k s z) at e)))

  -- at the start no cell is frozen
  pub was_frozen : (cells : List ℤ) → length cells ≡ rule.places → (k x : ℕ) → small rule (cleaned rule cells k) x ≡ true → Frozen rule (clean rule k (fresh rule cells)).state x →
      WasFrozen rule k (fresh rule cells) (cleaned rule cells k) x
  unfolding cleaned Frozen fresh marked
  was_frozen cells len k x h f =
      let start = fresh rule cells in
      let last = (clean rule k start).state in
      let w : Within last last.cells x = record { was = h; part = λ y j. j } in
      let o = small-opaque rule symm last.cells (run_length rule symm k start len) x h in
      let below = opaque-below rule.places rule.adj cells len x (small-opaque rule symm cells len x (run_within k start len last.cells x w).was) in
      ⊎_elim (λ u. u) (λ u. clash u (table_at rule.places (λ p. false) false x below)) (run_frozen k start len last.cells x w (f x (here o)))
