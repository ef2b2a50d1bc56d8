-- What a dilation comes to where there is nothing to dilate, and how far it reaches. Assumes nothing.
use Prim.Native.Nat.{ℕ, ◌≤◌, ◌<◌}
use mathlib.Core.Path.{◌≡◌, ◌∙◌}
use mathlib.Core.List.{List, [], ◌∷◌}
use native.Mathlib.Nat.{max-le}
use native.Mathlib.Omega.{arith}
use borrow.Author.Tests.{lt-ltb, le-ltb}
use lib.Dec.{eqb, ltb}
use lib.ListN.{length}
use Rattle.std.specs.Prelude.{None, Some}
use Rattle.base.specs.declared.Refusal.{Refusal}
use Rattle.base.specs.declared.Refusal.TheVariants.{SettingOutOfRange}
use Rattle.base.specs.Refusals.{row}
use Rattle.base.specs.Outputs.{filled}
use Rattle.base.proofs.Counting.{case}
use Rattle.base.proofs.Fills.{filled_none}
use Rattle.base.proofs.Refusing.{row_hit, row_last, rows_hit, rows_pass}
use Rattle.rules.specs.Masks.{grid_refusal, reach_of, dilation_refusal}

-- a mask without places
pub filled_nothing : (n : ℕ) (f : ℕ → ℕ) (l : List ℕ) → n ≤ 0 → l ≡ filled n f l
filled_nothing n f l h = let e : n ≡ 0 = omega arith in rw e (filled_none f l)

pub reach-small : (h w k : ℕ) → h ≤ 512 → w ≤ 512 → k ≤ 65535 → reach_of h w k ≤ 65535
unfolding reach_of
reach-small h w k a b c =
    case (eqb k 0) (λ y. rw y (max-le (omega arith) (omega arith))) (λ z. rw z c)

-- the rows of a dilation: those of the sizes, then that of the iterations
module _ (mask : List ℕ) (h w k : ℕ) (out : List ℕ) (work : ℕ) where
  pub sizes_refused : {n : Refusal} → grid_refusal h w (length mask) (length out) work [] ≡ Some n → dilation_refusal mask h w k out work ≡ Some n
  unfolding dilation_refusal grid_refusal
  sizes_refused e = rows_hit _ (row SettingOutOfRange (ltb 65535 k) ∷ []) e

  module _ (sized : grid_refusal h w (length mask) (length out) work [] ≡ None) where
    pub iterations_refused : 65535 < k → dilation_refusal mask h w k out work ≡ Some SettingOutOfRange
    unfolding dilation_refusal grid_refusal
    iterations_refused l = rows_pass _ (row SettingOutOfRange (ltb 65535 k) ∷ []) sized ∙ row_hit (row SettingOutOfRange (ltb 65535 k)) [] (lt-ltb 65535 k l)

    pub none_refused : k ≤ 65535 → dilation_refusal mask h w k out work ≡ None
    unfolding dilation_refusal grid_refusal
    none_refused l = rows_pass _ (row SettingOutOfRange (ltb 65535 k) ∷ []) sized ∙ row_last (row SettingOutOfRange (ltb 65535 k)) (le-ltb 65535 k l)
