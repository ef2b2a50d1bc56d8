-- The numbers of refusals. Definitions only. Assumes nothing.
use Rattle.std.specs.Prelude.{ℕ}
use Rattle.base.specs.declared.Refusal.{Refusal}
use Rattle.base.specs.declared.Refusal.TheVariants.{SideTooLong, ListTooShort, WorkTooShort, WrongLength, ColourOutOfRange, SettingOutOfRange, NoSuchEntry, NoEntries, NotHex, Malformed}

-- the number of a refusal in the table
abbrev pub number : Refusal → ℕ
number SideTooLong = 1
number ListTooShort = 2
number WorkTooShort = 3
number WrongLength = 4
number ColourOutOfRange = 5
number SettingOutOfRange = 6
number NoSuchEntry = 7
number NoEntries = 8
number NotHex = 9
number Malformed = 10
