-- Reading gives back what was printed: numbers, colours and rows, one by one and all of a result. Assumes nothing.
use Prim.Native.Nat.{ℕ, zero, suc, ◌+◌, ◌*◌, ◌≤◌, ◌<◌}
use mathlib.Core.Path.{◌≡◌, refl, sym, ap, ◌∙◌}
use mathlib.Core.List.{List, ◌++◌, append_assoc, flat_map}
use native.Mathlib.Nat.{add-zero, add-suc, add_comm, zero-mul, suc-mul}
use native.Mathlib.Omega.{arith}
use lib.IntN.{ℤ, pos}
use lib.Ieee.{Float, le, nan}
use lib.ListN.{length, get_or, take, drop}
use lib.Seq.{drop-cons, drop-drop, take-add}
use Rattle.base.specs.Places.{table_from, table}
use Rattle.base.proofs.Counting.{count_le}
use Rattle.channel.specs.Channel.{threshold_of, byte_of}
use Rattle.color.specs.Lab.{entry, lab_to_rgb8, mat_vec, rgb_from_xyz, xyz_of_lab}
use Rattle.color.specs.declared.Lab.{Lab}
use Rattle.silk_reader.specs.Reader.{got, Reader, newline, codes, series, decimal_number, cell_at, key_line, number_line}
use Rattle.silk_reader.specs.Lines.{colour_line}
use Rattle.silk_text.specs.Format.{colour_lines, row_line, row_lines}
use Rattle.silk_print.specs.Print.{numeral, cell_text, cells_text, number_text, colour_text, colours_text, row_text, rows_text, each}
use Rattle.silk_print.specs.Claims.{Reread, InBytes, NumberReread, ColourReread, RowReread, ColoursReread, RowsReread, ListsReread}
use Rattle.silk_reader.proofs.Chaining.{line_yes}
use Rattle.silk_print.proofs.Printing.{each_from}
use Rattle.silk_print.proofs.Rereading.{Stops, number-back, cell-at-back, comma_stops, line_stops, bytes_back, colour-back}
use Rattle.silk_text.proofs.Whole.{row_fits, lists_yes}

-- ---- lines

line-back : {A : Type 0} (key s : List ℕ) (p : Reader A) (x : A) → ((rest : List ℕ) → Stops rest → p (s ++ rest) ≡ got x rest) → Reread (key_line key p) (key ++ s ++ newline) x
unfolding Reread
line-back key s p x back rest =
    rw (append_assoc (key ++ s) newline rest, append_assoc key s (newline ++ rest))
    (line_yes key p (key ++ (s ++ (newline ++ rest))) (bytes_back key (s ++ (newline ++ rest))) (back (newline ++ rest) (line_stops rest)) (bytes_back newline rest))

pub number_reread : NumberReread
unfolding NumberReread number_line number_text
number_reread key n h = line-back key (numeral n) decimal_number n (number-back n h)

pub colour_reread : ColourReread
unfolding ColourReread Reread
colour_reread c h rest = colour-back c h rest

-- ---- one after the other

-- the texts f i, .., n of them, are read as g i, ..; what follows a text meets P
module _ {A : Type 0} (P : List ℕ → Type 0) (p : ℕ → Reader A) (f : ℕ → List ℕ) (g : ℕ → A) (m : ℕ)
    (back : (i : ℕ) → i < m → (rest : List ℕ) → P rest → p i (f i ++ rest) ≡ got (g i) rest)
    (next : (i : ℕ) (rest : List ℕ) → P (f (suc i) ++ rest)) where
  follows : (i n : ℕ) (rest : List ℕ) → P rest → P (each_from (suc i) n f ++ rest)
  unfolding each_from flat_map table_from
  follows i zero rest q = q
  follows i (suc n) rest q = rw (append_assoc (f (suc i)) (each_from (suc (suc i)) n f) rest) (next i (each_from (suc (suc i)) n f ++ rest))

  series-back : (n i : ℕ) → i + n ≤ m → (rest : List ℕ) → P rest → series i n p (each_from i n f ++ rest) ≡ got (table_from i n g) rest
  unfolding each_from flat_map table_from series
  series-back zero i h rest q = refl
  series-back (suc n) i h rest q =
      rw (append_assoc (f i) (each_from (suc i) n f) rest, back i (omega arith) (each_from (suc i) n f ++ rest) (follows i n rest q), series-back n (suc i) (omega arith) rest q)

-- ---- cells

cells_are : (cells : List ℤ) (from n i : ℕ) → from + i + n ≤ length cells → table_from i n (λ x. get_or cells (from + x) (pos 0)) ≡ take n (drop (from + i) cells)
unfolding table_from
cells_are cells from zero i h = refl
cells_are cells from (suc n) i h =
    rw (drop-cons cells (from + i) (pos 0) (omega arith), cells_are cells from n (suc i) (omega arith), add-suc from i)

pub row_reread : RowReread
unfolding RowReread row_line row_text cells_text each each_from table
row_reread cells from w d h =
    line-back (codes "row=") (cells_text cells from w) (series 0 w cell_at) (take w (drop from cells))
    (λ rest s. series-back Stops cell_at (λ x. cell_text x (get_or cells (from + x) (pos 0))) (λ x. get_or cells (from + x) (pos 0)) w
    (λ x l. cell-at-back x (get_or cells (from + x) (pos 0)) (d.nine (from + x)))
    (λ x. comma_stops x (get_or cells (from + suc x) (pos 0)))
    w 0 (omega arith) rest s
    ∙ ap (λ (l : List ℤ). got l rest) (cells_are cells from w 0 (omega arith) ∙ ap (λ (k : ℕ). take w (drop k cells)) (add-zero from)))

rows_are : (cells : List ℤ) (w n y : ℕ) → flat_map (λ r. r) (table_from y n (λ i. take w (drop (i * w) cells))) ≡ take (n * w) (drop (y * w) cells)
unfolding flat_map table_from
rows_are cells w zero y = rw (zero-mul w)
rows_are cells w (suc n) y =
    let l = drop (y * w) cells in
    let e : drop (suc y * w) cells ≡ drop w l = ap (λ (k : ℕ). drop k cells) (suc-mul y w) ∙ sym (drop-drop w (y * w) cells) in
    rw (rows_are cells w n (suc y), e, suc-mul n w, add_comm (n * w) w) (sym (take-add w (n * w) l))

pub rows_reread : RowsReread
unfolding RowsReread RowReread Reread row_lines rows_text each each_from table
rows_reread cells h w d fits rest =
    rw (
      series-back (λ _. Unit) (λ y. row_line w) (λ y. row_text cells (y * w) w) (λ y. take w (drop (y * w) cells)) h
          (λ y l rest q. row_reread cells (y * w) w d (row_fits h w (length cells) y fits l) rest)
          (λ y rest. tt)
          h 0 (omega arith) rest tt,
      rows_are cells w h 0,
      zero-mul w,
    )

-- ---- colours

byte_small : (x : Float) → byte_of x < 256
unfolding byte_of
byte_small x = omega (arith, count_le 255 (λ i. le (threshold_of (i + 1)) x))

in_bytes : (c : Lab) → InBytes (lab_to_rgb8 c)
unfolding lab_to_rgb8
in_bytes c =
    let v = mat_vec rgb_from_xyz (xyz_of_lab c) in
    record { red = byte_small (get_or v 0 nan); green = byte_small (get_or v 1 nan); blue = byte_small (get_or v 2 nan) }

pub colours_reread : ColoursReread
unfolding ColoursReread Reread colour_lines colours_text each each_from table
colours_reread palette k rest =
    rw (series-back (λ _. Unit) (λ i. colour_line) (λ i. colour_text (lab_to_rgb8 (entry palette i))) (λ i. lab_to_rgb8 (entry palette i)) k
    (λ i l rest q. colour-back (lab_to_rgb8 (entry palette i)) (in_bytes (entry palette i)) rest)
    (λ i rest. tt)
    k 0 (omega arith) rest tt)

-- ---- all of a result

pub lists_reread : ListsReread
unfolding ListsReread ColoursReread RowsReread Reread
lists_reread head palette cells d fits rest =
    rw (append_assoc (colours_text palette head.colours) (rows_text cells head.height head.width) rest)
    (lists_yes head _ (colours_reread palette head.colours (rows_text cells head.height head.width ++ rest)) (rows_reread cells head.height head.width d fits rest))
