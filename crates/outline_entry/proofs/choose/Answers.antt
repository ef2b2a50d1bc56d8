-- By the ways in which a colour gets an entry. Assumes nothing.
use mathlib.Core.Bool.{true}
use mathlib.Core.List.{List}
use mathlib.Core.Path.{◌≡◌, sym, ap, ◌∙◌}
use Prim.Native.Nat.{ℕ}
use native.Mathlib.Omega.{arith}
use Rattle.std.specs.Prelude.{Option}
use lib.Ieee.{Float}
use Rattle.color.specs.declared.Lab.{Lab}
use Rattle.color.specs.declared.Rgb8.{Rgb8}
use Rattle.color.specs.Lab.{lab_to_rgb8}
use Rattle.rules.specs.Palette.{palette_of, first_where}
use Rattle.outline_entry.proofs.Scans.{same, nearest-below}
use Rattle.outline_entry.proofs.Choosing.{chose_fixed, chose_same, chose_append, chose_replace}
use Rattle.outline_entry.proofs.choose.Goals as goal

-- the first entry of the colour's RGB8
first : (l : List Float) (k : ℕ) (c : Lab) {x : Rgb8} {o : Option ℕ} → x ≡ lab_to_rgb8 c → o ≡ first_where (same l k x) k → first_where (same l k (lab_to_rgb8 c)) k ≡ o
first l k c d e = sym (e ∙ ap (λ (y : Rgb8). first_where (same l k y) k) d)

pub returns-then-fixed : goal.returns-then-fixed
returns-then-fixed c = rw c.if-fixed.true (chose_fixed _ _ _ c.nearest_entry-index.ensures)

pub returns-in-Some : goal.returns-in-Some
returns-in-Some c = rw c.if-fixed.false (chose_same _ _ _ (first _ _ _ c.lab_to_rgb8_one.ensures c.first_same.ensures ∙ c.in-Some.is))

pub returns-then-k-lt-ENTRIES : goal.returns-then-k-lt-ENTRIES
returns-then-k-lt-ENTRIES c =
    rw c.if-fixed.false (chose_append _ _ (first _ _ _ c.lab_to_rgb8_one.ensures c.first_same.ensures ∙ c.in_default.is) _ c.if-k-lt-ENTRIES.true c.recolour.ensures)

pub recolour-requires-2 : goal.recolour-requires-2
recolour-requires-2 c =
    omega (arith, c.nearest_entry-index-2.ensures, nearest-below (λ i. true) (palette_of c.args.palette.now c.args.k) c.args.c c.requires.1)

pub returns : goal.returns
returns c =
    rw c.if-fixed.false (chose_replace _ _ (first _ _ _ c.lab_to_rgb8_one.ensures c.first_same.ensures ∙ c.in_default.is) _ _ c.if-k-lt-ENTRIES.false c.nearest_entry-index-2.ensures c.recolour-2.ensures)
