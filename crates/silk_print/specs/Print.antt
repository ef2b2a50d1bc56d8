-- The text that the program prints. Definitions only. Assumes nothing.
use Rattle.std.specs.Prelude.{ℕ, zero, suc, ◌+◌, ◌*◌, ◌/◌, ◌%◌, ◌≤◌, ◌≡◌, Bool, true, false, ◌&&◌, cond, ltb, leb, eqb, ℤ, pos, negsuc, Float, length, get_or, Option, None, Some, Result, Ok, Err}
use mathlib.Core.List.{List, [], ◌∷◌, ◌++◌, flat_map}
use Rattle.base.specs.Places.{table}
use Rattle.base.specs.declared.Refusal.{Refusal}
use Rattle.base.specs.declared.Refusal.TheVariants.{ListTooShort}
use Rattle.color.specs.Lab.{entry, lab_to_rgb8}
use Rattle.color.specs.declared.Rgb8.{Rgb8}
use Rattle.rules.specs.declared.Facts.{Facts}
use Rattle.rules.specs.Entries.{SizesInRange}
use Rattle.rules.specs.Sheet.{over}
use Rattle.silk_reader.specs.Reader.{codes, newline}
use Rattle.silk_text.specs.Answers.{laid}
use Rattle.silk_print.specs.declared.Printer.{Printer}

-- ---- numbers and colours

-- the decimal digits of n, at most k of them
unfoldable pub digits_in : ℕ → ℕ → List ℕ
digits_in zero n = []
digits_in (suc k) n = elim (ltb n 10) [ true ↦ (48 + n) ∷ [] | false ↦ digits_in k (n / 10) ++ (48 + n % 10) ∷ [] ]

-- a number in decimal: it has no more than n + 1 digits
unfoldable pub numeral : ℕ → List ℕ
numeral n = digits_in (suc n) n

-- a cell in decimal, after a minus if it is below 0
unfoldable pub signed_numeral : ℤ → List ℕ
signed_numeral (pos n) = numeral n
signed_numeral (negsuc n) = 45 ∷ numeral (suc n)

-- 0 to 9, a to f
unfoldable pub hex_digit : ℕ → ℕ
hex_digit d = cond (ltb d 10) (48 + d) (87 + d)

-- two hex digits, the high one first
unfoldable pub hex_byte : ℕ → List ℕ
hex_byte b = hex_digit (b / 16) ∷ hex_digit (b % 16) ∷ []

-- six hex digits: red, green, blue
unfoldable pub hex_colour : Rgb8 → List ℕ
hex_colour c = hex_byte c.r ++ hex_byte c.g ++ hex_byte c.b

-- ---- lines

-- f 0, f 1, .., f (n - 1), one after the other
unfoldable pub each : ℕ → (ℕ → List ℕ) → List ℕ
each n f = flat_map (λ l. l) (table n f)

-- a line of a key and a number
unfoldable pub number_text : List ℕ → ℕ → List ℕ
number_text key n = key ++ numeral n ++ newline

-- the line of the outline's index
unfoldable pub index_text : Option ℕ → List ℕ
index_text None = codes "outline_index=none\n"
index_text (Some i) = number_text (codes "outline_index=") i

-- the line that tells whether the outline was clipped
unfoldable pub clipped_text : Bool → List ℕ
clipped_text true = codes "outline_clipped=1\n"
clipped_text false = codes "outline_clipped=0\n"

-- the first three heads
unfoldable pub sizes_text : Facts → List ℕ
sizes_text facts =
    number_text (codes "height=") facts.height
    ++ number_text (codes "width=") facts.width
    ++ number_text (codes "colours=") facts.colours

-- the five heads
unfoldable pub head_text : Facts → List ℕ
head_text facts = sizes_text facts ++ index_text facts.outline_index ++ clipped_text facts.outline_clipped

-- the line of a colour
unfoldable pub colour_text : Rgb8 → List ℕ
colour_text c = codes "colour=" ++ hex_colour c ++ newline

-- the cell of column x, after a comma unless it is the first
unfoldable pub cell_text : ℕ → ℤ → List ℕ
cell_text x c = cond (eqb x 0) (signed_numeral c) (44 ∷ signed_numeral c)

-- the w cells from a place on
unfoldable pub cells_text : List ℤ → ℕ → ℕ → List ℕ
cells_text cells from w = each w (λ x. cell_text x (get_or cells (from + x) (pos 0)))

-- the line of the w cells from a place on
unfoldable pub row_text : List ℤ → ℕ → ℕ → List ℕ
row_text cells from w = codes "row=" ++ cells_text cells from w ++ newline

-- the lines of h rows of w cells
unfoldable pub rows_text : List ℤ → ℕ → ℕ → List ℕ
rows_text cells h w = each h (λ y. row_text cells (y * w) w)

-- the lines of the first k colours of a palette
unfoldable pub colours_text : List Float → ℕ → List ℕ
colours_text palette k = each k (λ i. colour_text (lab_to_rgb8 (entry palette i)))

-- ---- what is printed

-- a result: its heads, its colours, its rows
unfoldable pub result_text : Facts → List Float → List ℤ → List ℕ
result_text facts palette cells =
    head_text facts ++ colours_text palette facts.colours ++ rows_text cells facts.height facts.width

-- a refusal: its number
unfoldable pub refusal_text : ℕ → List ℕ
refusal_text n = number_text (codes "refused=") n

-- ---- where it is printed

-- room for any result with these facts: the heads, 14 bytes a colour, and for each row 5 and 12 a cell
unfoldable pub room_for : Facts → ℕ
room_for facts = 97 + 14 * facts.colours + facts.height * (5 + 12 * facts.width)

-- whether a result is printed: its sides and colours are in range, and so many doubles, cells and bytes are enough
unfoldable pub lengths_fit : Facts → ℕ → ℕ → ℕ → Bool
lengths_fit facts doubles cells room =
    leb facts.height 514
    && leb facts.width 514
    && leb facts.colours 256
    && leb (3 * facts.colours) doubles
    && leb (facts.height * facts.width) cells
    && leb (room_for facts) room

-- whether a result is printed, by its lists and the buffer
unfoldable pub result_fits : Facts → List Float → List ℤ → List ℕ → Bool
result_fits facts palette cells out = lengths_fit facts (length palette) (length cells) (length out)

-- twelve bytes hold any refusal
unfoldable pub refusal_fits : List ℕ → Bool
refusal_fits out = leb 12 (length out)

-- the answer: how many bytes were put, or that the lists are too short
unfoldable pub printed_answer : Bool → List ℕ → Result ℕ Refusal
printed_answer fits text = cond fits (Ok (length text)) (Err ListTooShort)

-- the buffer: the text at its front, or as it was
unfoldable pub printed_buffer : Bool → List ℕ → List ℕ → List ℕ
printed_buffer fits text out = cond fits (over text out) out

-- room for n more bytes
abbrev pub HasRoom : ℕ → Printer → Type 0
HasRoom n p = p.at + n ≤ length p.out.now

-- a text of at most n bytes is put, and the place after it comes next; the buffer is the one that was lent
pub record Put (n : ℕ) (text : List ℕ) (old new : Printer) : Type 0 where
  pub short : length text ≤ n
  pub list : new.out.now ≡ laid old.at text old.out.now
  pub next : new.at ≡ old.at + length text
  pub kept : length new.out.now ≡ length old.out.now
  pub same : new.out.ghost_name ≡ old.out.ghost_name

-- a result with sizes in range, with lists that hold it and room for it
pub record Printable (facts : Facts) (palette : List Float) (cells : List ℤ) (p : Printer) : Type 0 where
  pub sizes : SizesInRange facts
  pub entries : 3 * facts.colours ≤ length palette
  pub sheet : facts.height * facts.width ≤ length cells
  pub room : HasRoom (room_for facts) p
