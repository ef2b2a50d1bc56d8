-- `surely_in_range`, test by test. Assumes nothing.
use Rattle.std.proofs.Common.{◌≡◌, Bool, true, false, ◌&&◌, ◌||◌, sym, ◌∙◌}
use lib.Ieee.{of_bits, neg, round}
use Rattle.base.specs.Doubles.{decimal}
use Rattle.base.proofs.Counting.{or_left}
use Rattle.refusals.specs.Near.{near}
use Rattle.saturation.specs.Near.{surely_in_range}
use Rattle.saturation.proofs.scaling.surely_in_range.Goals as goal

-- where the first test fails, the second decides whether a third is made
third : {a b v r : Bool} → a ≡ false → b ≡ true → r ≡ v → r ≡ (a || (b && v))
third z y e = rw (z, y) e

none : {a b r : Bool} (v : Bool) → a ≡ false → b ≡ false → r ≡ false → r ≡ (a || (b && v))
none v z y e = rw (z, y) e

pub returns-then-between : goal.returns-then-between
unfolding surely_in_range near decimal round of_bits neg
returns-then-between c = sym (or_left _ (sym c.between.ensures ∙ c.if-between.true))

pub returns-then-between-2 : goal.returns-then-between-2
unfolding surely_in_range near decimal round of_bits neg
returns-then-between-2 c =
    third (sym c.between.ensures ∙ c.if-between.false) (sym c.between-2.ensures ∙ c.if-between-2.true) c.all_near.ensures

pub returns-else-between-2 : goal.returns-else-between-2
unfolding surely_in_range near decimal round of_bits neg
returns-else-between-2 c =
    none _ (sym c.between.ensures ∙ c.if-between.false) (sym c.between-2.ensures ∙ c.if-between-2.false) c.if-between-2.false
