-- Opaque cells stay opaque, with a region limit of one or less nothing is small and the sheet comes back, and a target does not depend on indices past the sheet's. Assumes nothing.
use Prim.Native.Nat.{ℕ, zero, suc, ◌≤◌, ◌<◌, suc-le-suc, zero-le}
use mathlib.Core.Path.{◌≡◌, refl, sym, ap, ◌∙◌}
use mathlib.Core.Bool.{Bool, true, false, ◌&&◌, false≢true}
use mathlib.Core.List.{List}
use native.Mathlib.Nat.{le_trans, lt_irrefl}
use native.Mathlib.Decide.{dec_lt}
use native.Mathlib.Omega.{arith}
use lib.IntN.{ℤ, pos, negsuc}
use lib.Signed.{non_neg, lt_z}
use lib.ListN.{length}
use Rattle.base.specs.Places.{greatest}
use Rattle.rules.specs.Palette.{first_least}
use Rattle.rules.specs.Regions.{at, opaque, index, here, roots, first, Symmetric}
use Rattle.rules.specs.Pass.{Rule, State, View, marked, size, few, small, smalls, top, frequent, target, fates, pass, repaints, moves, fresh, clean}
use Rattle.base.proofs.Counting.{case, clash, right, leb_yes, count_some, count_yes, greatest_above}
use Rattle.rules.proofs.Least.{least_past}
use Rattle.rules.proofs.Roots.{opaque-below, join_inside}
use Rattle.rules.proofs.Passes.{pass-length, large-opaque, small-opaque, small-few, repainted, repainted_large, unpainted_kept, frequent-voter}
use Rattle.rules.proofs.Runs.{clean_go, clean_stop, runs_settled, fresh_frozen}

module _ (rule : Rule) (symm : Symmetric rule.adj) where
  -- a pass keeps opaque cells opaque and transparent ones transparent
  pub pass-opaque : (s : State) → length s.cells ≡ rule.places → (x : ℕ) → opaque (pass rule s).cells x ≡ opaque s.cells x
  unfolding opaque
  pass-opaque s len x =
      case (repaints rule s x)
      (λ y. large-opaque rule symm (pass rule s).cells (pass-length rule symm s len) x (repainted_large rule symm s len x y) ∙ sym (repainted rule symm s len x y).was)
      (λ z. ap non_neg (unpainted_kept rule symm s len x z))

  pub clean-opaque : (k : ℕ) (s : State) → length s.cells ≡ rule.places → (x : ℕ) → opaque (clean rule k s).state.cells x ≡ opaque s.cells x
  unfolding clean
  clean-opaque zero s len x = refl
  clean-opaque (suc k) s len x =
      case (moves rule (fates rule s))
      (λ y. rw (clean_go rule k s y) (clean-opaque k (pass rule s) (pass-length rule symm s len) x ∙ pass-opaque s len x))
      (λ z. rw (clean_stop rule k s z) (pass-opaque s len x))

  -- a region limit of one or less: no region is small
  pub none_small : lt_z rule.limit (pos 2) ≡ true → (cells : List ℤ) → length cells ≡ rule.places → (x : ℕ) → small rule cells x ≡ false
  unfolding few size
  none_small l cells len x =
      case (small rule cells x)
      (λ y. let o = small-opaque rule symm cells len x y in
      let c = count_some rule.places _ x (opaque-below rule.places rule.adj cells len x o) (join_inside rule.places rule.adj cells len symm (here o)) in
      absurd (never rule.limit l _ c (small-few rule symm cells len x y)))
      (λ z. z)
    where
      never : (z : ℤ) → lt_z z (pos 2) ≡ true → (a : ℕ) → 0 < a → lt_z (pos a) z ≡ true → ⊥
      never (pos b) u a c w = let m = leb_yes {m = suc b} {n = 2} u in let j = leb_yes {m = suc a} {n = b} w in omega arith
      never (negsuc b) u a c w = false≢true w

-- so there are no small regions
no_smalls : (rule : Rule) → Symmetric rule.adj → lt_z rule.limit (pos 2) ≡ true → (cells : List ℤ) → length cells ≡ rule.places → smalls rule cells ≤ 0
unfolding smalls
no_smalls rule symm l cells len = elim (dec_lt 0 (smalls rule cells)) [ yes h ↦ absurd (some h) | no d ↦ omega arith ]
  where
    some : 0 < smalls rule cells → ⊥
    some h =
        let f : ℕ → Bool = first cells (roots rule.places rule.adj cells) in
        let w = count_yes rule.places (λ p. f p && small rule cells p) h in
        clash (right (f w.0) (small rule cells w.0) w.2) (none_small rule symm l cells len w.0)

-- with a region limit of one or less the sheet comes back, and no pass repaints
pub limit_one : (rule : Rule) → Symmetric rule.adj → lt_z rule.limit (pos 2) ≡ true → (cells : List ℤ) → length cells ≡ rule.places → (k : ℕ) →
    clean rule k (fresh rule cells) ≡ record { state = fresh rule cells; count = 0 }
unfolding clean fresh
limit_one rule symm l cells len k =
    sym (runs_settled rule symm 0 k (fresh rule cells) len (fresh_frozen rule symm cells len) (no_smalls rule symm l cells len) zero-le)

-- ---- the choice of a target

module _ (rule : Rule) (v : View) where
  past : (voters : List Bool) → ((p : ℕ) → p < rule.places → marked voters p ≡ true → opaque v.cells p ≡ true) → (c : ℕ) → top rule v.cells ≤ c → frequent rule v.cells voters c ≡ false
  unfolding top
  past voters o c h =
      case (frequent rule v.cells voters c)
      (λ y. let w = frequent-voter rule v voters c y in
      let g = greatest_above rule.places (opaque v.cells) (λ p. index (at v.cells p)) w.0 w.1 (o w.0 w.1 w.2) in
      let g' : c ≤ greatest rule.places (opaque v.cells) (λ p. index (at v.cells p)) = rw w.3 at g in
      absurd (lt_irrefl c (le_trans (suc-le-suc g') h)))
      (λ z. z)

  -- looking at indices past those on the sheet changes no target
  pub target_past : (voters : List Bool) → ((p : ℕ) → p < rule.places → marked voters p ≡ true → opaque v.cells p ≡ true) → (own k : ℕ) → top rule v.cells ≤ k →
      first_least (frequent rule v.cells voters) (rule.dist own) k ≡ target rule v.cells own voters
  unfolding target
  target_past voters o own k h = least_past _ _ (top rule v.cells) k h (λ c l m. past voters o c l)
