-- The laws of rows: which one refuses, what it tells that none does, and what an entry or a check comes to by its refusal. Assumes nothing.
use Prim.Native.Nat.{ℕ}
use mathlib.Core.Path.{◌≡◌, refl, sym, ap, ◌∙◌}
use mathlib.Core.Bool.{Bool, true, false, ◌||◌, cond}
use mathlib.Core.List.{List, [], ◌∷◌, ◌++◌}
use native.Mathlib.Omega.{arith}
use Rattle.std.proofs.Common.{rules}
use Rattle.std.specs.Prelude.{Option, None, Some, Result, Ok, Err}
use Rattle.base.specs.declared.Refusal.{Refusal}
use Rattle.base.specs.Refusals.{Row, row, refusal, unless, answered}
use Rattle.base.proofs.Counting.{case}

-- a refusal is there or not
some_none {ℓ} : {C : Type ℓ} {n : Refusal} → Some n ≡ None → C
some_none e = let z : ◌≡◌ {A = ℕ} 0 1 = cc in absurd (omega arith)

-- ---- a row before others

-- the first row that applies refuses
pub row_hit : (r : Row) (rs : List Row) → r.applies ≡ true → refusal (r ∷ rs) ≡ Some r.reason
unfolding refusal
row_hit r rs y = rw y

-- a row that does not apply is passed over
pub row-pass : (r : Row) (rs : List Row) → r.applies ≡ false → refusal (r ∷ rs) ≡ refusal rs
unfolding refusal
row-pass r rs z = rw z

-- the last row does not apply: none refuses
pub row_last : (r : Row) → r.applies ≡ false → refusal (r ∷ []) ≡ None
unfolding refusal
row_last r z = rw z

-- where none refuses, the first does not apply, and none of the others refuses
pub rows_none : (r : Row) (rs : List Row) → refusal (r ∷ rs) ≡ None → (r.applies ≡ false) × (refusal rs ≡ None)
rows_none r rs e = case r.applies (λ y. some_none (sym (row_hit r rs y) ∙ e)) (λ z. (z, sym (row-pass r rs z) ∙ e))

-- ---- rows in two parts

-- a refusal by the first part is the refusal of both
pub rows_hit : (rs ss : List Row) {n : Refusal} → refusal rs ≡ Some n → refusal (rs ++ ss) ≡ Some n
unfolding refusal
rows_hit [] ss e = some_none (sym e)
rows_hit (r ∷ rs) ss e = case r.applies (λ y. rw y (rw y at e)) (λ z. rw z (rows_hit rs ss (rw z at e)))

-- a part that does not refuse is passed over
pub rows_pass : (rs ss : List Row) → refusal rs ≡ None → refusal (rs ++ ss) ≡ refusal ss
rows_pass [] ss e = refl
rows_pass (r ∷ rs) ss e = let d = rows_none r rs e in row-pass r (rs ++ ss) d.0 ∙ rows_pass rs ss d.1

-- rows that refuse alike do so behind the same part
pub rows_same : (rs ss ts : List Row) → refusal ss ≡ refusal ts → refusal (rs ++ ss) ≡ refusal (rs ++ ts)
unfolding refusal
rows_same [] ss ts e = e
rows_same (r ∷ rs) ss ts e = ap (cond r.applies (Some r.reason)) (rows_same rs ss ts e)

-- a row with two conditions is two rows of its refusal
pub rows_either : (n : Refusal) (a b : Bool) (rs : List Row) → refusal (row n (a || b) ∷ rs) ≡ refusal (row n a ∷ row n b ∷ rs)
unfolding refusal
rows_either n true b rs = refl
rows_either n false b rs = refl

-- ---- what an entry comes to: its answer, and a lent list

module _ {A : Type 0} (f : Refusal → A) (x : A) {o : Option Refusal} where
  -- it is refused
  pub some_unless : {n : Refusal} → o ≡ Some n → f n ≡ unless o f x
  unfolding unless
  some_unless e = rw e

  -- it is not
  pub none_unless : {y : A} → o ≡ None → y ≡ x → y ≡ unless o f x
  unfolding unless
  none_unless e q = rw e q

-- ---- the answer of a call

module _ {A : Type 0} (x : A) {o : Option Refusal} where
  -- a row refuses
  pub some_answered : {n : Refusal} → o ≡ Some n → Err n ≡ answered o x
  unfolding answered
  some_answered e = some_unless _ _ e

  -- none does
  pub none_answered : {y : A} → o ≡ None → y ≡ x → Ok y ≡ answered o x
  unfolding answered
  none_answered e q = none_unless _ _ e (ap Ok q)

-- what the answer tells of the rows
pub answered_some : {A : Type 0} (x : A) {o : Option Refusal} {r : Result A Refusal} {n : Refusal} → r ≡ answered o x → r ≡ Err n → o ≡ Some n
unfolding answered unless
answered_some x {o = None} e q = search rules
answered_some x {o = Some m} {n = n} e q = search rules

pub answered_none : {A : Type 0} (x : A) {o : Option Refusal} {r : Result A Refusal} {y : A} → r ≡ answered o x → r ≡ Ok y → o ≡ None
unfolding answered unless
answered_none x {o = None} e q = refl
answered_none x {o = Some m} e q = search rules
