-- What an answer of the reading functions means, with what is left of the text. Definitions only. Assumes nothing.
use Rattle.std.specs.Prelude.{ℕ, ◌≤◌, ◌<◌, ◌≡◌, true, List, Result, Ok, Err, length, get_or}
use Rattle.silk_reader.specs.Reader.{Got, got, refused, is_digit}
use Rattle.base.specs.declared.Refusal.{Refusal}

-- a value and what is left of the text, or a refusal, which leaves whatever is left
abbrev pub answer : {A : Type 0} → Result A Refusal → List ℕ → Got A
answer (Ok x) rest = got x rest
answer (Err e) rest = refused e

-- ---- digits

-- at most nine digits, and nothing else
pub record Decimal (ds : List ℕ) : Type 0 where
  pub digits : (i : ℕ) → i < length ds → is_digit (get_or ds i 0) ≡ true
  pub nine : length ds ≤ 9
