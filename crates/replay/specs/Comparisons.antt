-- The cases of a stream, what is found of one, and of all. Definitions only. Assumes nothing.
use Rattle.std.specs.Prelude.{◌≡◌, ℕ, ◌+◌, ◌<◌, ◌≤◌, min, Bool, ◌&&◌, List, [], ◌∷◌, ◌==◌, take, drop, length, Some, None}
use Rattle.std.specs.declared.option.Option.{Option}
use Rattle.replay.specs.declared.numbers.Numbers.{Numbers}
use Rattle.replay.specs.declared.lists.Stored.{Stored}
use Rattle.replay.specs.declared.comparison.Comparison.{Comparison}
use Rattle.replay.specs.Lists.{number_at, past, given_at, past_given, agrees}

-- the answer at a place
abbrev pub answered_at : Numbers → ℕ → Comparison
answered_at p answer = record { rest = past p 1; same = (number_at p == answer) }

-- one list more, of n elements, that was stored as s before the call
abbrev pub further : Comparison → Stored → ℕ → (ℕ → ℕ → Bool) → Comparison
further c s n same =
    let g = given_at c.rest in
    record { rest = past_given g; same = c.same && agrees (record { before = s; given = g }) n same }

-- the first case of a stream, which begins with how many numbers it has, and what follows it
abbrev pub first_case : List ℕ → List ℕ
first_case [] = []
first_case (n ∷ l) = take n l

abbrev pub later_cases : List ℕ → List ℕ
later_cases [] = []
later_cases (n ∷ l) = drop n l

-- of the cases in a stream the next one was read, as a stream of its own from its first number to its end, and those that follow are left
abbrev pub NextCase : List ℕ → Option Numbers → List ℕ → Type 0
NextCase l None rest = (l ≡ []) × (rest ≡ [])
NextCase l (Some p) rest = (p.stream.now ≡ first_case l) × (p.at ≡ 0) × (rest ≡ later_cases l) × (p.end ≡ length (first_case l))

-- the place past the case at a place, at most the end: a case begins with how many numbers it has
abbrev pub case_end : Numbers → ℕ
case_end p = min p.end (p.at + 1 + number_at p)

-- the case at a place: its first number in the whole stream, up to its end
abbrev pub case_at : Numbers → Numbers
case_at p = record p { at = p.at + 1; end = case_end p }

-- what follows it
abbrev pub past_case : Numbers → Numbers
past_case p = record p { at = case_end p }

-- of the cases from a place on the next one was read, and those that follow are left; there is none at the end
abbrev pub NextCaseAt : Numbers → Option Numbers → Numbers → Type 0
NextCaseAt p None q = (p.end ≤ p.at) × (q ≡ p)
NextCaseAt p (Some c) q = (p.at < p.end) × (c ≡ case_at p) × (q ≡ past_case p)
