-- The numbers that stand in a text, in lower-case hex. Definitions only. Assumes nothing.
use Rattle.std.specs.Prelude.{ℕ, ◌+◌, ◌-◌, ◌*◌, ◌%◌, ◌^◌, cond, ◌&&◌, List, [], ◌∷◌, nat_le, Some, None, unwrap_or}
use Rattle.std.specs.declared.option.Option.{Option}

-- the value of a hex digit in lower case
abbrev pub digit_of : ℕ → Option ℕ
digit_of c = cond (nat_le 48 c && nat_le c 57) (Some (c - 48)) (cond (nat_le 97 c && nat_le c 102) (Some (c - 87)) None)

-- one digit more of the number that is being read: what is beyond 64 bits is dropped
abbrev pub longer : Option ℕ → ℕ → ℕ
longer value d = (unwrap_or value 0 * 16 + d) % 2 ^ 64

-- the number that is being read, if there is one, ahead of these
abbrev pub ahead_of : Option ℕ → List ℕ → List ℕ
ahead_of None l = l
ahead_of (Some n) l = n ∷ l

-- the numbers of what follows the one that is being read, this one first: a byte is a digit of it, or ends it
unfoldable pub numbers_after : Option ℕ → List ℕ → List ℕ
numbers_after value [] = []
numbers_after value (c ∷ text) = elim (digit_of c) [ None ↦ ahead_of value (numbers_after None text) | Some d ↦ numbers_after (Some (longer value d)) text ]

-- the numbers of a text: one at its end is left out, since it may go on
unfoldable pub numbers_in : List ℕ → List ℕ
numbers_in text = numbers_after None text

-- a list over the front of another, within the length of that
unfoldable pub over_within : List ℕ → List ℕ → List ℕ
over_within [] old = old
over_within (n ∷ l) [] = []
over_within (n ∷ l) (x ∷ old) = n ∷ over_within l old
