-- The text that the program reads: the head, colours and rows, and what they say. Definitions only. Assumes nothing.
use Rattle.std.specs.Prelude.{ℕ, take, drop, ℤ, Float}
use mathlib.Core.List.{List, [], ◌∷◌, ◌++◌, flat_map}
use Rattle.base.specs.declared.Refusal.TheVariants.{Malformed}
use Rattle.color.specs.Lab.{rgb8_to_lab}
use Rattle.color.specs.declared.Rgb8.{Rgb8}
use Rattle.silk_reader.specs.declared.head.Head.{Head}
use Rattle.silk_reader.specs.Reader.{Got, got, refused, Reader, chain, ◌>>=◌, give, series, codes, cell_at, key_line}
use Rattle.silk_reader.specs.Lines.{head, colour_line}

-- ---- colours and rows

-- the three doubles of a colour
unfoldable pub doubles : Rgb8 → List Float
doubles c = (rgb8_to_lab c).l ∷ (rgb8_to_lab c).a ∷ (rgb8_to_lab c).b ∷ []

-- k colour lines
unfoldable pub colour_lines : ℕ → Reader (List Float)
colour_lines k = do
  cs ← series 0 k (λ i. colour_line)
  give (flat_map doubles cs)

-- w cells
unfoldable pub row_line : ℕ → Reader (List ℤ)
row_line w = key_line (codes "row=") (series 0 w cell_at)

-- h rows of w cells
unfoldable pub row_lines : ℕ → ℕ → Reader (List ℤ)
row_lines h w = do
  rs ← series 0 h (λ y. row_line w)
  give (flat_map (λ r. r) rs)

-- ---- the whole text

-- what a text says
pub record File : Type 0 where
  pub head : Head
  pub palette : List Float
  pub cells : List ℤ

-- the lines after the head's
unfoldable pub lists : Head → Reader File
lists h = do
  palette ← colour_lines h.colours
  cells ← row_lines h.height h.width
  give (record { head = h; palette = palette; cells = cells })

-- the head and the lines after it
unfoldable pub file : Reader File
file = head >>= lists

-- nothing may follow the last row
unfoldable pub ended : File → Reader File
ended f [] = got f []
ended f (c ∷ cs) = refused Malformed

-- how many bytes are read at most
unfoldable pub max_bytes : ℕ
max_bytes = 65536

-- bytes beyond those follow the last row, or keep a line from its end
unfoldable pub parse : List ℕ → Got File
parse text = chain (file (take max_bytes text)) (λ f rest. ended f (rest ++ drop max_bytes text))
