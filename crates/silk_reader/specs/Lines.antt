-- The lines that the program reads, and the head that fourteen of them make. Definitions only. Assumes nothing.
use Rattle.std.specs.Prelude.{ℕ, ◌||◌, [], ◌∷◌, ltb, pos, Float}
use Rattle.base.specs.Refusals.{row, refusal, unless}
use Rattle.base.specs.declared.Refusal.TheVariants.{SideTooLong, WrongLength}
use Rattle.base.specs.Doubles.{◌⊘◌, decimal}
use Rattle.hex_colour.specs.Hex.{hex_to_rgb8}
use Rattle.color.specs.declared.Rgb8.{Rgb8}
use Rattle.rules.specs.declared.Outline.{Outline}
use Rattle.rules.specs.declared.Outline as outline
use Rattle.silk_reader.specs.declared.head.OutlineKind.{OutlineKind}
use Rattle.silk_reader.specs.declared.head.OutlineKind as kind
use Rattle.silk_reader.specs.declared.head.Sizes.{Sizes}
use Rattle.silk_reader.specs.declared.head.Passes.{Passes}
use Rattle.silk_reader.specs.declared.head.LastSettings.{LastSettings}
use Rattle.silk_reader.specs.declared.head.Head.{Head}
use Rattle.silk_reader.specs.Reader.{got, refused, Reader, ◌>>=◌, ◌>>◌, give, ◌or◌, codes, bytes, newline, span, in_line, number_line, switch_line}
use Rattle.silk_reader.specs.Answers.{answer}

-- ---- values

-- hundredths, divided once
abbrev pub hundredths : ℕ → Float
hundredths n = decimal n 0 ⊘ decimal 100 0

-- the rest of a line, read as a hex colour once its byte 10 is read
unfoldable pub hex_line : Reader Rgb8
hex_line = do
  value ← span in_line
  bytes newline
  answer (hex_to_rgb8 value)

-- a line of the palette
abbrev pub colour_line : Reader Rgb8
colour_line = bytes (codes "colour=") >> hex_line

-- none, auto or hex
unfoldable pub outline_value : Reader OutlineKind
outline_value =
    (bytes (codes "none\n") >> give kind.TheVariants.Nothing)
    or (bytes (codes "auto\n") >> give kind.TheVariants.Auto)
    or (hex_line >>= λ c. give (kind.TheVariants.Explicit c))

-- the outline's line
abbrev pub outline_line : Reader OutlineKind
outline_line = bytes (codes "outline=") >> outline_value

-- darken is dropped unless the outline is auto
abbrev pub outline_with : OutlineKind → ℕ → Outline
outline_with kind.TheVariants.Nothing darken = outline.TheVariants.None
outline_with kind.TheVariants.Auto darken = outline.TheVariants.Auto (hundredths darken)
outline_with (kind.TheVariants.Explicit c) darken = outline.TheVariants.Rgb c.r c.g c.b

-- ---- the fourteen lines of the head

-- height, width and colours
unfoldable pub sizes : Reader Sizes
sizes = do
  height ← number_line (codes "height=")
  width ← number_line (codes "width=")
  colours ← number_line (codes "colours=")
  give (record { height = height; width = width; colours = colours })

-- the lines before the outline's
unfoldable pub passes : Reader Passes
passes = do
  beta ← number_line (codes "beta=")
  orphans ← switch_line (codes "orphans=")
  min ← number_line (codes "min=")
  delta ← number_line (codes "delta=")
  jaggies ← switch_line (codes "jaggies=")
  give (record { beta = hundredths beta; orphans = orphans; min = pos min; delta = decimal delta 0; jaggies = jaggies })

-- the lines after the outline's
unfoldable pub last_settings : Reader LastSettings
last_settings = do
  darken ← number_line (codes "darken=")
  tileset ← switch_line (codes "tileset=")
  margin ← number_line (codes "margin=")
  saturated ← switch_line (codes "saturated=")
  fixed ← switch_line (codes "fixed=")
  give (record { darken = darken; tileset = tileset; margin = pos margin; saturated = saturated; fixed = fixed })

-- the head that its four parts make
abbrev pub head_of : Sizes → Passes → OutlineKind → LastSettings → Head
head_of s p kind last =
    record {
      height = s.height;
      width = s.width;
      colours = s.colours;
      config =
          record {
            saturation_beta = p.beta;
            remove_orphans = p.orphans;
            orphan_min_region = p.min;
            orphan_max_delta = p.delta;
            fix_jaggies = p.jaggies;
            outline = outline_with kind last.darken;
            tileset = last.tileset;
          };
      margin = last.margin;
      saturated = last.saturated;
      fixed = last.fixed;
    }

-- judged once the head is read: more than 40 rows or columns, more than 256 colours
unfoldable pub checked_head : Head → Reader Head
checked_head h text =
    unless (refusal (row SideTooLong (ltb 40 h.height || ltb 40 h.width) ∷ row WrongLength (ltb 256 h.colours) ∷ [])) refused (got h text)

-- the rest of the head, after the outline's line
abbrev pub head_end : Sizes → Passes → OutlineKind → Reader Head
head_end s p kind = last_settings >>= λ last. checked_head (head_of s p kind last)

-- all fourteen lines
unfoldable pub head : Reader Head
head = do
  s ← sizes
  p ← passes
  kind ← outline_line
  head_end s p kind
