-- By the outline's cases. Assumes nothing.
use Prim.Native.Nat.{ℕ}
use mathlib.Core.Path.{ap, ◌∙◌}
use native.Mathlib.Omega.{arith}
use Rattle.color.specs.declared.Lab.{Lab}
use Rattle.rules.specs.Palette.{palette_of, colour}
use Rattle.rules.specs.Outline.{darkened, line_colour}
use Rattle.outline_entry.proofs.Scans.{darkest-below}
use Rattle.outline_entry.proofs.outline_color_lab.Goals as goal

pub entry-requires-in-Auto : goal.entry-requires-in-Auto
entry-requires-in-Auto c =
    omega (arith, c.darkest-i.ensures, darkest-below (palette_of c.args.palette.now c.args.k) c.requires.1)

pub returns-in-None : goal.returns-in-None
unfolding line_colour colour
returns-in-None c = rw c.in-None.is c.entry.ensures

pub returns-in-Auto : goal.returns-in-Auto
unfolding line_colour colour
returns-in-Auto c =
    rw c.in-Auto.is
    (c.darkened.ensures
    ∙ ap (λ (x : Lab). darkened c.in-Auto.darken x) (c.entry-in-Auto.ensures ∙ ap (λ (i : ℕ). colour (palette_of c.args.palette.now c.args.k) i) c.darkest-i.ensures))

pub returns-in-Rgb : goal.returns-in-Rgb
unfolding line_colour
returns-in-Rgb c = rw c.in-Rgb.is c.rgb8_to_lab_one.ensures
