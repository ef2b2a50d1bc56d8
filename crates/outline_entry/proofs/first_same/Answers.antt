-- The first entry that has the RGB8 is found. Assumes nothing.
use mathlib.Core.Path.{◌≡◌, sym}
use mathlib.Core.Bool.{true, false, ◌&&◌, and_assoc}
use lib.Dec.{eqb}
use Rattle.std.proofs.Common.{rules}
use Rattle.std.proofs.lemmas.Iterator.{first_from_Range}
use borrow.Author.Tests.{tests}
use Rattle.color.specs.declared.Rgb8.{Rgb8}
use Rattle.rules.specs.Outline.{same_rgb8}
use Rattle.outline_entry.proofs.Scans.{same, found}
use Rattle.outline_entry.proofs.first_same.Goals as goal

-- equal bytes are the same RGB8
bytes : (x y : Rgb8) → (eqb x.r y.r && (eqb x.g y.g && eqb x.b y.b)) ≡ same_rgb8 x y
unfolding same_rgb8
bytes x y = sym (and_assoc (eqb x.r y.r) (eqb x.g y.g) (eqb x.b y.b))

pub returns : goal.returns
returns c =
    let e = c.args.entries in
    let t = same e.lab.now e.k c.args.rgb in
    found t e.k c.find.result
    (first_from_Range _ _ _ _ (λ i. t i ≡ true) (λ i. t i ≡ false) c.find.ensures.ran (λ x q k. search (rules, tests, bytes)) (λ x q k. search (rules, tests, bytes)))
