-- Setting by setting. Assumes nothing.
use Rattle.std.proofs.Common.{◌≡◌, ◌∙◌, true, false, not, sym, ap, rules}
use lib.Ieee.{of_bits, round}
use Rattle.base.specs.Doubles.{decimal}
use Rattle.rules.specs.Palette.{between}
use Rattle.rules.specs.Entries.{bad_ranges}
use Rattle.run_refusals.proofs.bad_ranges.Goals as goal

pub returns-then-not-between : goal.returns-then-not-between
unfolding bad_ranges between decimal round of_bits
returns-then-not-between c =
    let z : c.between.result ≡ false = search rules in
    rw (ap not (sym c.between.ensures ∙ z))

pub returns-then-not-limit_in_range : goal.returns-then-not-limit_in_range
unfolding bad_ranges between decimal round of_bits
returns-then-not-limit_in_range c =
    let y : c.between.result ≡ true = search rules in
    let z : c.limit_in_range.result ≡ false = search rules in
    rw (ap not (sym c.between.ensures ∙ y), ap not (sym c.limit_in_range.ensures ∙ z))

pub returns : goal.returns
unfolding bad_ranges between decimal round of_bits
returns c =
    let y : c.between.result ≡ true = search rules in
    let z : c.limit_in_range.result ≡ true = search rules in
    rw (ap not (sym c.between.ensures ∙ y), ap not (sym c.limit_in_range.ensures ∙ z)) c.bad_darkening.ensures
