-- What an entry may rely on once the rows that entries share refuse nothing. Definitions only. Assumes nothing.
use Rattle.std.specs.Prelude.{ℕ, ◌*◌, ◌≤◌, ◌≡◌, Bool, false, length}
use Rattle.rules.specs.Palette.{Palette, out_of_range}

-- rows 1 to 3 refuse nothing
pub record SheetFits (h w need lent work : ℕ) : Type 0 where
  pub high : h ≤ 512
  pub wide : w ≤ 512
  pub few : h * w ≤ 262144
  pub long : need ≤ lent
  pub free : 8 * need ≤ work

-- rows 4 to 6 refuse nothing
pub record Usable (palette : Palette) (bad : Bool) : Type 0 where
  pub few : palette.count ≤ 256
  pub whole : length palette.lab ≡ 768
  pub ranged : out_of_range palette ≡ false
  pub settled : bad ≡ false
