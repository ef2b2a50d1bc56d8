-- How long printed texts are: the room that is asked for holds them. Assumes nothing.
use Prim.Native.Nat.{ℕ, zero, suc, ◌+◌, ◌*◌, ◌^◌, ◌≤◌, ◌<◌}
use mathlib.Core.Path.{◌≡◌, refl}
use mathlib.Core.Bool.{true, false}
use mathlib.Core.List.{List, ◌++◌, flat_map}
use native.Mathlib.Nat.{suc-mul, mul-le-mul}
use native.Mathlib.Omega.{arith}
use lib.Dec.{eqb}
use lib.IntN.{ℤ, pos, negsuc, nat_abs}
use lib.ListN.{length, get_or, length-append}
use Rattle.std.specs.Prelude.{Option, None, Some}
use Rattle.base.specs.Places.{table_from, table}
use Rattle.base.proofs.Counting.{case}
use Rattle.color.specs.Lab.{entry, lab_to_rgb8}
use Rattle.color.specs.declared.Rgb8.{Rgb8}
use Rattle.rules.specs.declared.Facts.{Facts}
use Rattle.rules.specs.Entries.{SizesInRange}
use Rattle.silk_reader.specs.Reader.{codes, newline}
use Rattle.silk_print.specs.Print.{numeral, signed_numeral, hex_byte, hex_colour, each, number_text, index_text, clipped_text, sizes_text, head_text, colour_text, cell_text, cells_text, row_text, rows_text, colours_text, result_text, room_for}
use Rattle.silk_print.specs.Claims.{RoomEnough, SheetRoom}
use Rattle.silk_print.proofs.Digits.{numeral_short}

-- two texts, one after the other
both : (m n : ℕ) (s t : List ℕ) → length s ≤ m → length t ≤ n → length (s ++ t) ≤ m + n
both m n s t h k = omega (arith, length-append s t)

from_short : (f : ℕ → List ℕ) (m : ℕ) → ((i : ℕ) → length (f i) ≤ m) → (n i : ℕ) → length (flat_map (λ l. l) (table_from i n f)) ≤ n * m
unfolding flat_map table_from
from_short f m h zero i = omega arith
from_short f m h (suc n) i =
    rw (suc-mul n m) (omega (arith, both m (n * m) (f i) (flat_map (λ l. l) (table_from (suc i) n f)) (h i) (from_short f m h n (suc i))))

each_short : (f : ℕ → List ℕ) (m n : ℕ) → ((i : ℕ) → length (f i) ≤ m) → length (each n f) ≤ n * m
unfolding each table
each_short f m n h = from_short f m h n 0

number_text_lem : (key : List ℕ) (n : ℕ) → n < 10 ^ 10 → length (number_text key n) ≤ length key + 11
unfolding number_text newline
number_text_lem key n h =
    omega (arith, both (length key + 10) 1 (key ++ numeral n) newline (both (length key) 10 key (numeral n) (omega arith) (numeral_short 9 n h)) (omega arith))

index_text_lem : (l : Option ℕ) → ((i : ℕ) → l ≡ Some i → i < 10 ^ 10) → length (index_text l) ≤ 25
unfolding index_text codes
index_text_lem None h = omega arith
index_text_lem (Some i) h = number_text_lem (codes "outline_index=") i (h i refl)

clipped_text_lem : (b : _) → length (clipped_text b) ≤ 18
unfolding clipped_text codes
clipped_text_lem true = omega arith
clipped_text_lem false = omega arith

head_text_lem : (facts : Facts) → SizesInRange facts → ((i : ℕ) → facts.outline_index ≡ Some i → i < 10 ^ 10) → length (head_text facts) ≤ 97
unfolding head_text sizes_text codes
head_text_lem facts s h =
    let height = number_text (codes "height=") facts.height in
    let width = number_text (codes "width=") facts.width in
    let colours = number_text (codes "colours=") facts.colours in
    let a = both 18 17 height width (number_text_lem (codes "height=") facts.height (omega (arith, s.high))) (number_text_lem (codes "width=") facts.width (omega (arith, s.wide))) in
    let b = both 35 19 (height ++ width) colours a (number_text_lem (codes "colours=") facts.colours (omega (arith, s.few))) in
    both 79 18 (sizes_text facts ++ index_text facts.outline_index) (clipped_text facts.outline_clipped)
    (both 54 25 (sizes_text facts) (index_text facts.outline_index) b (index_text_lem facts.outline_index h))
    (clipped_text_lem facts.outline_clipped)

colour_text_lem : (c : Rgb8) → length (colour_text c) ≤ 14
unfolding colour_text hex_colour hex_byte codes newline
colour_text_lem c = omega arith

signed_text : (z : ℤ) → nat_abs z < 10 ^ 10 → length (signed_numeral z) ≤ 11
unfolding signed_numeral
signed_text (pos n) h = omega (arith, numeral_short 9 n h)
signed_text (negsuc n) h = omega (arith, numeral_short 9 (suc n) h)

cell_text_lem : (x : ℕ) (z : ℤ) → nat_abs z < 10 ^ 10 → length (cell_text x z) ≤ 12
unfolding cell_text
cell_text_lem x z h = case (eqb x 0) (λ y. rw y (omega (arith, signed_text z h))) (λ n. rw n (omega (arith, signed_text z h)))

row_text_lem : (cells : List ℤ) → ((p : ℕ) → nat_abs (get_or cells p (pos 0)) < 10 ^ 10) → (from w : ℕ) → length (row_text cells from w) ≤ 5 + 12 * w
unfolding row_text cells_text codes newline
row_text_lem cells d from w =
    let s = each_short (λ x. cell_text x (get_or cells (from + x) (pos 0))) 12 w (λ x. cell_text_lem x (get_or cells (from + x) (pos 0)) (d (from + x))) in
    omega (arith, both (4 + w * 12) 1 (codes "row=" ++ cells_text cells from w) newline (both 4 (w * 12) (codes "row=") (cells_text cells from w) (omega arith) s) (omega arith))

pub room_enough : RoomEnough
unfolding RoomEnough result_text colours_text rows_text room_for
room_enough facts palette cells s d =
    let k = facts.colours in
    let rows = 5 + 12 * facts.width in
    let c = each_short (λ i. colour_text (lab_to_rgb8 (entry palette i))) 14 k (λ i. colour_text_lem (lab_to_rgb8 (entry palette i))) in
    let r = each_short (λ y. row_text cells (y * facts.width) facts.width) rows facts.height (λ y. row_text_lem cells d.cell (y * facts.width) facts.width) in
    omega (arith, both (97 + k * 14) (facts.height * rows) (head_text facts ++ colours_text palette k) (rows_text cells facts.height facts.width) (both 97 (k * 14) (head_text facts) (colours_text palette k) (head_text_lem facts s d.index) c) r)

pub sheet_room : SheetRoom
unfolding SheetRoom room_for
sheet_room facts h w k = omega (arith, mul-le-mul {n₁ = _} {m₁ = 5 + 12 * facts.width} {n₂ = 42} {m₂ = 509} h (omega arith))
