-- What reading makes of a printed text, and how much room a printed sheet takes. Definitions only. Assumes nothing.
use Rattle.std.specs.Prelude.{ℕ, Some, ◌+◌, ◌*◌, ◌^◌, ◌≤◌, ◌<◌, ◌≡◌, ℤ, pos, nat_abs, Float, length, get_or, take, drop}
use mathlib.Core.List.{List, ◌++◌, flat_map}
use Rattle.base.specs.Places.{table}
use Rattle.color.specs.Lab.{entry, lab_to_rgb8}
use Rattle.color.specs.declared.Rgb8.{Rgb8}
use Rattle.rules.specs.declared.Facts.{Facts}
use Rattle.rules.specs.Entries.{SizesInRange}
use Rattle.silk_reader.specs.Reader.{got, Reader, number_line}
use Rattle.silk_reader.specs.Lines.{colour_line}
use Rattle.silk_text.specs.Format.{doubles, colour_lines, row_line, row_lines, lists}
use Rattle.silk_reader.specs.declared.head.Head.{Head}
use Rattle.silk_print.specs.Print.{number_text, colour_text, colours_text, row_text, rows_text, result_text, room_for}

-- a reader takes x from the front of whatever begins with the text
unfoldable pub Reread : {A : Type 0} → Reader A → List ℕ → A → Type 0
Reread p text x = (rest : List ℕ) → p (text ++ rest) ≡ got x rest

-- three bytes
pub record InBytes (c : Rgb8) : Type 0 where
  pub red : c.r < 256
  pub green : c.g < 256
  pub blue : c.b < 256

-- cells of at most nine digits
pub record NineDigits (cells : List ℤ) : Type 0 where
  pub nine : (p : ℕ) → nat_abs (get_or cells p (pos 0)) < 10 ^ 9

-- a number of at most nine digits is read back
unfoldable pub NumberReread : Type 0
NumberReread = (key : List ℕ) (n : ℕ) → n < 10 ^ 9 → Reread (number_line key) (number_text key n) n

-- a colour is read back
unfoldable pub ColourReread : Type 0
ColourReread = (c : Rgb8) → InBytes c → Reread colour_line (colour_text c) c

-- the w cells of a row are read back
unfoldable pub RowReread : Type 0
RowReread =
    (cells : List ℤ) (from w : ℕ) → NineDigits cells → from + w ≤ length cells → Reread (row_line w) (row_text cells from w) (take w (drop from cells))

-- the printed colours of a palette are read as the LAB of the bytes that were printed
unfoldable pub ColoursReread : Type 0
ColoursReread =
    (palette : List Float) (k : ℕ) → Reread (colour_lines k) (colours_text palette k) (flat_map doubles (table k (λ i. lab_to_rgb8 (entry palette i))))

-- the cells of all rows are read back
unfoldable pub RowsReread : Type 0
RowsReread =
    (cells : List ℤ) (h w : ℕ) → NineDigits cells → h * w ≤ length cells → Reread (row_lines h w) (rows_text cells h w) (take (h * w) cells)

-- and so are all colours and rows of a result, as the lines after a head
unfoldable pub ListsReread : Type 0
ListsReread =
    (head : Head) (palette : List Float) (cells : List ℤ) → NineDigits cells → head.height * head.width ≤ length cells →
    Reread (lists head) (colours_text palette head.colours ++ rows_text cells head.height head.width)
    (record {
      head = head;
      palette = flat_map doubles (table head.colours (λ i. lab_to_rgb8 (entry palette i)));
      cells = take (head.height * head.width) cells;
    })

-- cells and an index of at most ten digits, as 32 bits hold them
pub record TenDigits (facts : Facts) (cells : List ℤ) : Type 0 where
  pub index : (i : ℕ) → facts.outline_index ≡ Some i → i < 10 ^ 10
  pub cell : (p : ℕ) → nat_abs (get_or cells p (pos 0)) < 10 ^ 10

-- the room that is asked for holds the text
unfoldable pub RoomEnough : Type 0
RoomEnough =
    (facts : Facts) (palette : List Float) (cells : List ℤ) → SizesInRange facts → TenDigits facts cells → length (result_text facts palette cells) ≤ room_for facts

-- a sheet of 40 by 40 cells that was padded, with 256 colours, is printed into 32,768 bytes
unfoldable pub SheetRoom : Type 0
SheetRoom = (facts : Facts) → facts.height ≤ 42 → facts.width ≤ 42 → facts.colours ≤ 256 → room_for facts ≤ 32768
