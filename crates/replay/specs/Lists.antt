-- The lists among the numbers, before a call and after it. Definitions only. Assumes nothing.
use Rattle.std.specs.Prelude.{ℕ, ◌+◌, ◌%◌, ◌^◌, min, Bool, cond, not, ◌&&◌, List, ◌==◌, nat_lt, slice_index, Some, None, unwrap_or}
use Rattle.std.specs.declared.option.Option.{Option}
use Rattle.base.specs.Places.{any, table}
use Rattle.replay.specs.declared.numbers.Numbers.{Numbers}
use Rattle.replay.specs.declared.lists.Given.{Given}
use Rattle.replay.specs.declared.lists.Stored.{Stored}
use Rattle.replay.specs.declared.lists.After.{After}

-- the number at a place, 0 past the end
abbrev pub number_at : Numbers → ℕ
number_at p = slice_index p.stream.now p.at

-- the place n past another
abbrev pub past : Numbers → ℕ → Numbers
past p n = record p { at = (p.at + n) % 2 ^ 64 }

-- elements at a place: how many are given, and these
abbrev pub given_at : Numbers → Given
given_at p = record { count = number_at p; from = past p 1 }

-- the place past them
abbrev pub past_given : Given → Numbers
past_given g = past g.from g.count

-- the one with index i, if so many are given
abbrev pub given_element : Given → ℕ → Option ℕ
given_element g i = cond (nat_lt i g.count) (Some (number_at (past g.from i))) None

-- the list at a place: its length, and the elements that are given
abbrev pub stored_at : Numbers → Stored
stored_at p = record { len = number_at p; given = given_at (past p 1) }

-- the work area at a place: its length alone
abbrev pub work_at : Numbers → Stored
work_at p = record { len = number_at p; given = record { count = 0; from = past p 1 } }

-- the element i: one that is given, or 5a in every byte
abbrev pub element : Stored → ℕ → ℕ
element s i = unwrap_or (given_element s.given i) 0x5a5a5a5a5a5a5a5a

-- the element i after the call: one that is given, or the one before
abbrev pub element_after : After → ℕ → ℕ
element_after a i = unwrap_or (given_element a.given i) (element a.before i)

-- the list, each number read as an element, as far as the room reaches
unfoldable pub stored_list : {A : Type 0} → (ℕ → A) → Stored → ℕ → List A
stored_list read s room = table (min s.len room) (λ i. read (element s i))

-- whether a list of n elements has the stored length, and its elements pass the test against what is stored
unfoldable pub agrees : After → ℕ → (ℕ → ℕ → Bool) → Bool
agrees a n same = n == a.before.len && not (any n (λ i. not (same i (element_after a i))))
