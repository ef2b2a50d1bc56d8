-- What is claimed of the lent lists. Definitions only. Assumes nothing.
use Rattle.std.specs.Prelude.{◌≡◌, Bool, false, length}
use Rattle.rules.specs.Palette.{palette_of}
use Rattle.rules.specs.Rows.{too_large, too_short, cramped, bad_palette}
use Rattle.rules.specs.Sheet.{needed}
use Rattle.silk_text.specs.Format.{File}
use Rattle.silk_reply.specs.Reply.{work_size}

-- Rows 1 to 4 of `run` do not apply to what was read into the lent lists, whether or not padding does
pub record Suffices (f : File) : Type 0 where
  pub sides : (too_large f.head.height f.head.width).applies ≡ false
  pub cells : (pads : Bool) → (too_short (length f.cells) (needed f.head.height f.head.width pads)).applies ≡ false
  pub work : (pads : Bool) → (cramped work_size (needed f.head.height f.head.width pads)).applies ≡ false
  pub palette : (bad_palette (palette_of f.palette f.head.colours)).applies ≡ false
