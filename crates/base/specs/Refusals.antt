-- Refusals: rows of a number and a condition, in rising order, of which the first that applies is the answer. Definitions only. Assumes nothing.
use Rattle.std.specs.Prelude.{Bool, cond, List, [], ◌∷◌, Option, None, Some, Result, Ok, Err}
use Rattle.base.specs.declared.Refusal.{Refusal}

-- one row of the table of refusals
pub record Row : Type 0 where
  pub reason : Refusal
  pub applies : Bool

abbrev pub row : Refusal → Bool → Row
row r b = record { reason = r; applies = b }

-- the first row that applies
unfoldable pub refusal : List Row → Option Refusal
refusal [] = None
refusal (r ∷ rs) = cond r.applies (Some r.reason) (refusal rs)

-- what a call comes to: f of the refusal, or x
unfoldable pub unless : {E A : Type 0} → Option E → (E → A) → A → A
unless None f x = x
unless (Some e) f x = f e

-- the answer of a call: the refusal, or x
unfoldable pub answered : {A : Type 0} → Option Refusal → A → Result A Refusal
answered o x = unless o Err (Ok x)
