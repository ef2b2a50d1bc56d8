-- The outline: padding, the ring, its colour and the palette entry that carries it. Definitions only. Assumes nothing.
use Rattle.std.specs.Prelude.{ℕ, ◌+◌, ◌-◌, ◌*◌, ◌/◌, ◌%◌, Bool, true, false, not, ◌&&◌, cond, eqb, leb, ltb, ℤ, pos, negsuc, Float, None, Some, Option}
use Rattle.base.specs.Places.{table, any}
use Rattle.color.specs.declared.Lab.{Lab}
use Rattle.color.specs.declared.Rgb8.{Rgb8}
use Rattle.base.specs.Doubles.{◌⊖◌, ◌⊗◌, decimal}
use Rattle.color.specs.Lab.{distance, rgb8_to_lab, lab_to_rgb8}
use Rattle.rules.specs.declared.Outline.{Outline}
use Rattle.rules.specs.declared.Outline.TheVariants.{None, Auto, Rgb}
use Rattle.rules.specs.declared.Drawing.{Drawing}
use Rattle.rules.specs.Sheet.{Sheet, area}
use Rattle.rules.specs.Grid.{four, on_edge}
use Rattle.rules.specs.Regions.{at, opaque}
use Rattle.rules.specs.Palette.{Palette, colour, recoloured, first_least, first_where}

-- ---- padding

-- an opaque cell touches an edge
unfoldable pub touches : Sheet → Bool
touches s = any (area s) (λ p. opaque s.cells p && on_edge s.height s.width p)

-- an outline is asked for
unfoldable pub asked : Outline → Bool
asked None = false
asked (Auto d) = true
asked (Rgb r g b) = true

-- padding applies: it is allowed, an outline is asked for, and an edge is touched
unfoldable pub pads : Drawing → Sheet → Bool
pads how s = how.allow_pad && asked how.outline && touches s

-- the cell at p of the sheet with one cell of -1 on every side
unfoldable pub padded_at : Sheet → ℕ → ℤ
padded_at s p =
    let y = p / (s.width + 2) in
    let x = p % (s.width + 2) in
    cond (leb 1 y && leb y s.height && leb 1 x && leb x s.width) (at s.cells ((y - 1) * s.width + (x - 1))) (negsuc 0)

unfoldable pub padded : Sheet → Sheet
padded s =
    record {
      cells = table ((s.height + 2) * (s.width + 2)) (padded_at s);
      height = s.height + 2;
      width = s.width + 2;
    }

-- the sheet, padded if padding applies
unfoldable pub canvas : Bool → Sheet → Sheet
canvas padding s = cond padding (padded s) s

-- ---- the ring

-- p is transparent, with an opaque cell above, below, left or right
unfoldable pub ring : Sheet → ℕ → Bool
ring s p = not (opaque s.cells p) && any (area s) (λ q. four s.width p q && opaque s.cells q)

unfoldable pub has_ring : Sheet → Bool
has_ring s = any (area s) (ring s)

-- the ring's cells take an index, all others stay
unfoldable pub inked : Sheet → ℕ → Sheet
inked s i =
    record {
      cells = table (area s) (λ p. cond (ring s p) (pos i) (at s.cells p));
      height = s.height;
      width = s.width;
    }

-- ---- its colour

-- the first entry of least L, 0 where there is none
unfoldable pub darkest : Palette → ℕ
darkest palette = elim (first_least (λ i. true) (λ i. (colour palette i).l) palette.count) [ None ↦ 0 | Some i ↦ i ]

-- each part times 1 - d
unfoldable pub darkened : Float → Lab → Lab
darkened d c =
    let f = decimal 1 0 ⊖ d in
    record { l = c.l ⊗ f; a = c.a ⊗ f; b = c.b ⊗ f }

unfoldable pub line_colour : Palette → Outline → Lab
line_colour palette None = colour palette 0
line_colour palette (Auto d) = darkened d (colour palette (darkest palette))
line_colour palette (Rgb r g b) = rgb8_to_lab (record { r = r; g = g; b = b })

-- ---- its palette entry

-- of the entries that may be chosen the nearest to a colour, the lowest on ties, 0 where there is none
unfoldable pub nearest_entry : (ℕ → Bool) → Palette → Lab → ℕ
nearest_entry may palette c =
    elim (first_least may (λ i. distance (colour palette i) c) palette.count) [ None ↦ 0 | Some i ↦ i ]

unfoldable pub same_rgb8 : Rgb8 → Rgb8 → Bool
same_rgb8 x y = eqb x.r y.r && eqb x.g y.g && eqb x.b y.b

-- how the outline's colour gets an entry: one there is serves, a new one is appended, or one is written over
pub data Choice : Type 0 where
  reuse : ℕ → Choice
  append : Choice
  replace : ℕ → Choice

-- A fixed palette serves with its nearest entry; else the first entry of the same RGB8 serves, else there is room, else the nearest of
-- the entries that may be written over goes
unfoldable pub choice : (ℕ → Bool) → Bool → Palette → Lab → Choice
choice may true palette c = reuse (nearest_entry (λ i. true) palette c)
choice may false palette c =
    elim (first_where (λ i. same_rgb8 (lab_to_rgb8 (colour palette i)) (lab_to_rgb8 c)) palette.count) [
      | Some i ↦ reuse i
      | None ↦ cond (ltb palette.count 256) append (replace (nearest_entry may palette c))
    ]

-- the index that a choice gives, and the palette after it
unfoldable pub chosen_index : Palette → Choice → ℕ
chosen_index palette (reuse i) = i
chosen_index palette append = palette.count
chosen_index palette (replace i) = i

unfoldable pub chosen_palette : Palette → Lab → Choice → Palette
chosen_palette palette c (reuse i) = palette
chosen_palette palette c append = record { lab = recoloured palette.lab palette.count c; count = palette.count + 1 }
chosen_palette palette c (replace i) = record { lab = recoloured palette.lab i c; count = palette.count }

-- ---- all of it

pub record Outlined : Type 0 where
  pub sheet : Sheet
  pub palette : Palette
  pub index : Option ℕ
  pub clipped : Bool

-- An outline on the sheet `on`, which is padded already: the ring takes the index that the choice gives; an empty one takes none and keeps
-- the palette
unfoldable pub drawn : (ℕ → Bool) → Drawing → Palette → Bool → Sheet → Outlined
drawn may how palette clipped on =
    let c = line_colour palette how.outline in
    let ch = choice may how.fixed_palette palette c in
    cond (has_ring on)
    (record {
      sheet = inked on (chosen_index palette ch);
      palette = chosen_palette palette c ch;
      index = Some (chosen_index palette ch);
      clipped = clipped;
    })
    (record { sheet = on; palette = palette; index = None; clipped = clipped })

-- an outline call: padding where it applies, then the ring. Clipped: an edge is touched and padding is not allowed.
unfoldable pub outline : (ℕ → Bool) → Drawing → Palette → Sheet → Outlined
outline may how palette s = drawn may how palette (touches s && not how.allow_pad) (canvas (pads how s) s)
