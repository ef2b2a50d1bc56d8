-- The scans of a palette for the outline's entry, and what the choice of one leaves. Definitions only. Assumes nothing.
use Rattle.std.specs.Prelude.{ℕ, ◌≡◌, List, Float, Option, None, Some}
use Rattle.color.specs.declared.Lab.{Lab}
use Rattle.color.specs.declared.least.Least.{Least}
use Rattle.rules.specs.Palette.{Palette}
use Rattle.rules.specs.Outline.{Choice, chosen_index, chosen_palette}

-- where the least value stands, 0 where there is none
unfoldable pub placed : Option Least → ℕ
placed None = 0
placed (Some least) = least.at

-- an index, a count of entries and the palette's doubles are those that a choice gives
pub record Chose (palette : Palette) (c : Lab) (ch : Choice) (index count : ℕ) (lab : List Float) : Type 0 where
  pub at : index ≡ chosen_index palette ch
  pub colours : count ≡ (chosen_palette palette c ch).count
  pub doubles : lab ≡ (chosen_palette palette c ch).lab
