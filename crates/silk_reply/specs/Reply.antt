-- What the program `silk` prints for the bytes of its standard input. Definitions only. Assumes nothing.
use Rattle.std.specs.Prelude.{ℕ, ◌*◌, List, ◌≡◌, Float, ℤ, pos, length, replicate, Result, Ok, Err}
use Rattle.base.specs.Doubles.{decimal}
use Rattle.base.specs.Numbers.{number}
use Rattle.base.specs.declared.Refusal.{Refusal}
use Rattle.rules.specs.Entries.{run_answer, run_cells, run_palette}
use Rattle.rules.specs.Calls.{RunCall}
use Rattle.rules.specs.Palette.{palette_of}
use Rattle.rules.specs.Sheet.{lent_sheet, over}
use Rattle.rules.specs.declared.Processed.{Processed}
use Rattle.silk_text.specs.Answers.{lent}
use Rattle.silk_text.specs.Format.{File, parse}
use Rattle.silk_print.specs.Print.{result_text, refusal_text}
use Rattle.silk_reader.specs.Reader.{Got, got, refused}
use Rattle.silk_reader.specs.declared.head.Head.{Head}

-- ---- the lists that the program lends

-- a palette of 256 entries
unfoldable pub no_colours : List Float
no_colours = replicate (3 * 256) (decimal 0 0)

-- a sheet of 40 by 40 cells, with room for its padding
unfoldable pub no_cells : List ℤ
no_cells = replicate (42 * 42) (pos 0)

-- the length of the work area
abbrev pub work_size : ℕ
work_size = 8 * (42 * 42)

-- ---- what is printed

-- the call of `run` that a head, a palette and cells make
unfoldable pub call_of : Head → List Float → List ℤ → RunCall
call_of h palette cells =
    record {
      lent = lent_sheet cells h.height h.width work_size;
      palette = palette_of palette h.colours;
      config = h.config;
      saturated = h.saturated;
      fixed = h.fixed;
      margin = h.margin;
    }

-- an answer of `run`, with the palette and the cells that it left
unfoldable pub answer_text : Result Processed Refusal → List Float → List ℤ → List ℕ
answer_text (Ok done) palette cells = result_text done.facts palette cells
answer_text (Err e) palette cells = refusal_text (number e)

-- `run` on a sheet that was read
unfoldable pub sheet_text : Head → List Float → List ℤ → List ℕ
sheet_text h palette cells = let c = call_of h palette cells in answer_text (run_answer c) (run_palette c) (run_cells c)

-- what reading came to
unfoldable pub got_text : Got File → List ℕ
got_text (got f rest) = sheet_text f.head f.palette f.cells
got_text (refused e) = refusal_text (number e)

-- the text is read into the lent lists, its sheet is run, and the result or the refusal is printed
unfoldable pub silk_text : List ℕ → List ℕ
silk_text text = got_text (lent no_colours no_cells (parse text))

-- ---- the code's parts

-- a call of `run` on the lent lists: its answer, and the palette and the cells that it left
pub record Ran (c : RunCall) (answer : Result Processed Refusal) (palette : List Float) (cells : List ℤ) : Type 0 where
  pub answers : answer ≡ run_answer c
  pub colours : palette ≡ run_palette c
  pub sheet : cells ≡ run_cells c
  pub lent : length c.lent.cells ≡ 1764

-- a text stands at the front of a buffer, and how many bytes it has is told
pub record Front (text old new : List ℕ) (count : ℕ) : Type 0 where
  pub list : new ≡ over text old
  pub size : count ≡ length text
