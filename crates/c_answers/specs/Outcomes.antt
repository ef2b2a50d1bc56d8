-- What C gets of an entry: a number, and numbers over the front of a lent list. Definitions only. Assumes nothing.
use Rattle.std.specs.Prelude.{ℕ, ◌+◌, cond, List, [], ◌∷◌, ◌++◌, Option, None, Some, Result, Ok, Err}
use Rattle.base.specs.declared.Refusal.{Refusal}
use Rattle.base.specs.Numbers.{number}
use Rattle.base.specs.Refusals.{refusal, unless}
use Rattle.color.specs.declared.Rgb8.{Rgb8}
use Rattle.rules.specs.declared.Facts.{Facts}
use Rattle.rules.specs.declared.Processed.{Processed}
use Rattle.rules.specs.Sheet.{over}
use Rattle.rules.specs.Rows.{too_large, too_short}

-- the number that a call returns: 0 if it is accepted, or the refusal's
abbrev pub status : {A : Type 0} → Result A Refusal → ℕ
status (Ok x) = 0
status (Err e) = number e

-- the list that a call hands the numbers of its answer out in: they stand at its front; a refusal leaves it
abbrev pub received : {A : Type 0} → (A → List ℕ) → Result A Refusal → List ℕ → List ℕ
received numbers (Ok x) lent = over (numbers x) lent
received numbers (Err e) lent = lent

-- what a call on h rows of w cells comes to, with room for `have` facts of `need`: if row 1 or 2 applies f of its refusal, else x
unfoldable pub after_facts_rows : {A : Type 0} → ℕ → ℕ → ℕ → ℕ → (Refusal → A) → A → A
after_facts_rows h w have need f x = unless (refusal (too_large h w ∷ too_short have need ∷ [])) f x

-- ---- the numbers of an answer

-- a count is the one fact
abbrev pub one_fact : ℕ → List ℕ
one_fact n = n ∷ []

-- an index as a fact: one more, and 0 for none
abbrev pub index_fact : Option ℕ → ℕ
index_fact None = 0
index_fact (Some i) = i + 1

-- height, width, colours, index, clipped
abbrev pub facts_list : Facts → List ℕ
facts_list f = f.height ∷ f.width ∷ f.colours ∷ index_fact f.outline_index ∷ cond f.outline_clipped 1 0 ∷ []

-- the same, and the passes of both cleanings
abbrev pub run_facts : Processed → List ℕ
run_facts p = facts_list p.facts ++ (p.passes ∷ p.again ∷ [])

-- red, green and blue
abbrev pub three_bytes : Rgb8 → List ℕ
three_bytes c = c.r ∷ c.g ∷ c.b ∷ []
