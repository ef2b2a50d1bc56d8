-- The specification's examples M1 to M12, in their order. Definitions only. Assumes nothing.
use Rattle.std.specs.Prelude.{ℕ, Bool, true, false, List, [], ◌∷◌, map, ℤ, pos, negsuc, Float, Option, Some, None}
use Rattle.base.specs.Doubles.{decimal}
use Rattle.rules.specs.declared.Outline.TheVariants.{Auto}
use Rattle.rules.specs.declared.Drawing.{Drawing}
use Rattle.rules.specs.declared.Limits.{Limits}
use Rattle.rules.specs.Sheet.{Sheet}
use Rattle.rules.specs.Palette.{Palette}
use Rattle.rules.specs.Corners.{trim}
use Rattle.rules.specs.Outline.{outline}
use Rattle.rules.specs.Calls.{limits_at}
use Rattle.rules.specs.Run.{clean_sheet}

-- a call of a rule
pub data Call : Type 0 where
  cleans : ℕ → Palette → Limits → Sheet → Call
  trims : Sheet → Call
  outlines : Drawing → Palette → Sheet → Call

-- what it comes to: a sheet, with a number of repainting passes, or with an outline's index and clipping
pub data Outcome : Type 0 where
  cleaned : List ℤ → ℕ → Outcome
  trimmed : List ℤ → Outcome
  outlined : ℕ → ℕ → List ℤ → Option ℕ → Bool → Outcome

unfoldable pub outcome : Call → Outcome
outcome (cleans k palette limits s) = let t = clean_sheet k palette limits s in cleaned t.sheet.cells t.passes
outcome (trims s) = trimmed (trim s).cells
outcome (outlines how palette s) =
    let o = outline (λ i. true) how palette s in
    outlined o.sheet.height o.sheet.width o.sheet.cells o.index o.clipped

pub record Case : Type 0 where
  pub call : Call
  pub gives : Outcome

abbrev case : Call → Outcome → Case
case c o = record { call = c; gives = o }

-- ---- the words of the examples

abbrev whole : ℕ → Float
whole n = decimal n 0

-- a sheet of opaque cells
abbrev sheet : ℕ → ℕ → List ℕ → Sheet
sheet h w cells = record { cells = map pos cells; height = h; width = w }

abbrev cleaned_to : List ℕ → ℕ → Outcome
cleaned_to cells n = cleaned (map pos cells) n

-- a region limit and a colour limit
abbrev at_limits : ℕ → ℕ → Limits
at_limits region colour = limits_at (pos region) (whole colour)

-- a palette of whole numbers, three for each entry
abbrev entries : ℕ → List ℕ → Palette
entries k l = record { lab = map whole l; count = k }

-- the palette Q, and Q with another entry 2
abbrev Q : Palette
Q = entries 3 (0 ∷ 0 ∷ 0 ∷ 6 ∷ 8 ∷ 0 ∷ 3 ∷ 4 ∷ 0 ∷ [])

abbrev Q' : Palette
Q' = entries 3 (0 ∷ 0 ∷ 0 ∷ 6 ∷ 8 ∷ 0 ∷ 6 ∷ 4 ∷ 0 ∷ [])

-- a centre of 2 in a sheet of 0, and the sheet without it
abbrev spot : Sheet
spot = sheet 3 3 (0 ∷ 0 ∷ 0 ∷ 0 ∷ 2 ∷ 0 ∷ 0 ∷ 0 ∷ 0 ∷ [])

abbrev spot_kept : Outcome
spot_kept = cleaned_to (0 ∷ 0 ∷ 0 ∷ 0 ∷ 2 ∷ 0 ∷ 0 ∷ 0 ∷ 0 ∷ []) 0

-- one cell of 0
abbrev single : Sheet
single = sheet 1 1 (0 ∷ [])

-- a line of the darkest colour in a fixed palette, where padding is allowed or not
abbrev dark_line : Bool → Drawing
dark_line allowed = record { outline = Auto (whole 0); allow_pad = allowed; fixed_palette = true }

-- ---- the examples

unfoldable pub cases : List Case
cases =
    -- M1 to M8: cleaning; M3 with one pass and with two
    case (cleans 5 Q (at_limits 2 25) spot) (cleaned_to (0 ∷ 0 ∷ 0 ∷ 0 ∷ 0 ∷ 0 ∷ 0 ∷ 0 ∷ 0 ∷ []) 1)
    ∷ case (cleans 5 Q (at_limits 2 5) spot) spot_kept
    ∷ case (cleans 1 Q (at_limits 2 25) (sheet 1 4 (0 ∷ 0 ∷ 1 ∷ 2 ∷ []))) (cleaned_to (0 ∷ 0 ∷ 0 ∷ 2 ∷ []) 1)
    ∷ case (cleans 2 Q (at_limits 2 25) (sheet 1 4 (0 ∷ 0 ∷ 1 ∷ 2 ∷ []))) (cleaned_to (0 ∷ 0 ∷ 0 ∷ 0 ∷ []) 2)
    ∷ case (cleans 5 Q (at_limits 1 25) spot) spot_kept
    ∷ case (cleans 5 Q (at_limits 2 25) single) (cleaned_to (0 ∷ []) 0)
    ∷ case (cleans 5 Q (at_limits 2 25) (sheet 1 5 (0 ∷ 0 ∷ 2 ∷ 1 ∷ 1 ∷ []))) (cleaned_to (0 ∷ 0 ∷ 0 ∷ 1 ∷ 1 ∷ []) 1)
    ∷ case (cleans 5 Q' (at_limits 2 25) (sheet 1 5 (0 ∷ 0 ∷ 2 ∷ 1 ∷ 1 ∷ []))) (cleaned_to (0 ∷ 0 ∷ 1 ∷ 1 ∷ 1 ∷ []) 1)
    ∷ case (cleans 5 Q (at_limits 2 25) (sheet 0 7 [])) (cleaned_to [] 0)
    -- M9 and M10: corners
    ∷ case (trims (sheet 4 4 (0 ∷ 0 ∷ 0 ∷ 1 ∷ 0 ∷ 1 ∷ 1 ∷ 0 ∷ 0 ∷ 1 ∷ 0 ∷ 0 ∷ 1 ∷ 0 ∷ 0 ∷ 0 ∷ [])))
    (trimmed (map pos (0 ∷ 0 ∷ 0 ∷ 1 ∷ 0 ∷ 0 ∷ 1 ∷ 0 ∷ 0 ∷ 1 ∷ 0 ∷ 0 ∷ 1 ∷ 0 ∷ 0 ∷ 0 ∷ [])))
    ∷ case (trims (sheet 3 4 (0 ∷ 0 ∷ 0 ∷ 1 ∷ 0 ∷ 1 ∷ 1 ∷ 0 ∷ 0 ∷ 1 ∷ 0 ∷ 0 ∷ [])))
    (trimmed (map pos (0 ∷ 0 ∷ 0 ∷ 1 ∷ 0 ∷ 1 ∷ 1 ∷ 0 ∷ 0 ∷ 1 ∷ 0 ∷ 0 ∷ [])))
    -- M11 and M12: outlines, padded and not
    ∷ case (outlines (dark_line true) Q single)
    (outlined 3 3 (negsuc 0 ∷ pos 0 ∷ negsuc 0 ∷ pos 0 ∷ pos 0 ∷ pos 0 ∷ negsuc 0 ∷ pos 0 ∷ negsuc 0 ∷ []) (Some 0) false)
    ∷ case (outlines (dark_line false) Q single) (outlined 1 1 (pos 0 ∷ []) None true)
    ∷ []
