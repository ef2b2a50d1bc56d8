-- The rows for a call's list of facts, 1 and 2, which stand before those of its entry. Assumes nothing.
use Prim.Native.Nat.{ℕ, ◌≤◌}
use mathlib.Core.Path.{◌≡◌, refl}
use mathlib.Core.List.{[], ◌∷◌}
use borrow.Author.Tests.{ltb-false}
use Rattle.std.specs.Prelude.{Option, None, Some, Result, Ok, Err}
use Rattle.base.specs.declared.Refusal.{Refusal}
use Rattle.base.specs.Refusals.{refusal, unless, answered}
use Rattle.base.proofs.Refusing.{rows_none, answered_none}
use Rattle.rules.specs.Rows.{too_large, too_short}
use Rattle.c_answers.specs.Outcomes.{after_facts_rows}

-- f of the refusal that an answer is, else x
abbrev pub by_answer : {A : Type 0} → Result Unit Refusal → (Refusal → A) → A → A
by_answer (Ok u) f x = x
by_answer (Err n) f x = f n

module _ (h w have need : ℕ) where
  -- by what the rows answer
  pub facts_rows_cases : {A : Type 0} (f : Refusal → A) (x : A) → after_facts_rows h w have need f x ≡ by_answer (answered (refusal (too_large h w ∷ too_short have need ∷ [])) tt) f x
  unfolding after_facts_rows unless answered
  facts_rows_cases {A} f x = by (refusal (too_large h w ∷ too_short have need ∷ []))
    where
      by : (o : Option Refusal) → unless o f x ≡ by_answer (answered o tt) f x
      by None = refl
      by (Some n) = refl

  -- where none refuses, the facts have their places
  pub facts_room : {u : Unit {0}} {r : Result Unit Refusal} → r ≡ answered (refusal (too_large h w ∷ too_short have need ∷ [])) tt → r ≡ Ok u → need ≤ have
  unfolding too_short
  facts_room e q =
      let z = answered_none tt e q in
      ltb-false have need (rows_none (too_short have need) [] (rows_none (too_large h w) (too_short have need ∷ []) z).1).0
