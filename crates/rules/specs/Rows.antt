-- The rows of refusals, each with its condition, as the entries on sheets, palettes and masks share them. Definitions only. Assumes nothing.
use Rattle.std.specs.Prelude.{ℕ, ◌*◌, Bool, true, false, not, ◌&&◌, ◌||◌, List, [], ◌∷◌, eqb, ltb, ℤ, pos, length}
use Rattle.std.specs.Int.Signed.{le_z}
use Rattle.base.specs.Places.{any}
use Rattle.base.specs.declared.Refusal.TheVariants.{SideTooLong, ListTooShort, WorkTooShort, WrongLength, ColourOutOfRange, SettingOutOfRange, NoSuchEntry, NoEntries}
use Rattle.base.specs.Refusals.{Row, row}
use Rattle.rules.specs.declared.Outline.{Outline}
use Rattle.rules.specs.declared.Outline.TheVariants.{None, Auto, Rgb}
use Rattle.rules.specs.declared.Drawing.{Drawing}
use Rattle.rules.specs.Sheet.{Sheet, area}
use Rattle.rules.specs.Regions.{at}
use Rattle.rules.specs.Palette.{Palette, out_of_range, between}
use Rattle.rules.specs.Outline.{asked, has_ring}

-- 1: a side above 512
unfoldable pub too_large : ℕ → ℕ → Row
too_large h w = row SideTooLong (ltb 512 h || ltb 512 w)

-- 2: a lent or output list shorter than needed
unfoldable pub too_short : ℕ → ℕ → Row
too_short len need = row ListTooShort (ltb len need)

-- 3: a work area below 8 per needed cell
unfoldable pub cramped : ℕ → ℕ → Row
cramped work need = row WorkTooShort (ltb work (8 * need))

-- rows 1 to 3, by the sides, the needed cells, and the lengths of the shortest lent list and of the work area
abbrev pub sheet_rows : ℕ → ℕ → ℕ → ℕ → ℕ → List Row
sheet_rows h w need lent work = too_large h w ∷ too_short lent need ∷ cramped work need ∷ []

-- 4: more than 256 entries, or not 768 doubles
unfoldable pub bad_palette : Palette → Row
bad_palette palette = row WrongLength (ltb 256 palette.count || not (eqb (length palette.lab) 768))

-- 5: a double in use is NaN or beyond ±1024
unfoldable pub bad_colour : Palette → Row
bad_colour palette = row ColourOutOfRange (out_of_range palette)

-- 6: a setting is NaN or out of range
unfoldable pub bad_setting : Bool → Row
bad_setting b = row SettingOutOfRange b

-- rows 4 to 6, by whether a setting is out of range
abbrev pub palette_rows : Palette → Bool → List Row
palette_rows palette bad = bad_palette palette ∷ bad_colour palette ∷ bad_setting bad ∷ []

-- the darkening of an outline is out of range, where it has one
unfoldable pub bad_darkening : Outline → Bool
bad_darkening None = false
bad_darkening (Auto d) = not (between 0 1 d)
bad_darkening (Rgb r g b) = false

-- 7: cleaning with region limit 2 or more meets a cell that names no entry
unfoldable pub bad_index : Bool → ℤ → Palette → Sheet → Row
bad_index on limit palette s = row NoSuchEntry (on && le_z (pos 2) limit && any (area s) (λ p. le_z (pos palette.count) (at s.cells p)))

-- the outline is auto
unfoldable pub is_auto : Outline → Bool
is_auto None = false
is_auto (Auto d) = true
is_auto (Rgb r g b) = false

-- 8: an outline is asked for, the ring of its canvas is not empty, there is no entry, and the outline is auto or the palette fixed
unfoldable pub no_entry : Drawing → Palette → Sheet → Row
no_entry how palette on =
    row NoEntries (asked how.outline && has_ring on && eqb palette.count 0 && (is_auto how.outline || how.fixed_palette))
