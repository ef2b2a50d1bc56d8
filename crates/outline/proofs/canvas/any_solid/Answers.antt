-- Some of the cells is opaque, or none is. Assumes nothing.
use Rattle.std.proofs.Common.{◌≡◌, ℕ, ◌+◌, ◌*◌, true, false, rules, arith, refl}
use borrow.Author.Tests.{tests}
use Rattle.std.proofs.lemmas.Iterator.{cases_from_any, YieldsList-from_range}
use Rattle.rules.specs.Regions.{opaque}
use Rattle.base.proofs.Ranges.{any-from_range}
use Rattle.outline.proofs.canvas.any_solid.Goals as goal

pub returns : goal.returns
returns c =
    let seen = λ (i : ℕ). opaque c.args.cells.now (c.args.from + i * c.args.step) in
    any-from_range c.args.count seen _ (cases_from_any _ _ _ (λ i. seen i ≡ true) (λ i. seen i ≡ false) c.any.ensures.ran (YieldsList-from_range 0 c.args.count c.args.count refl (omega arith)) (λ x q k. search (rules, tests)) (λ x q k. search (rules, tests)))
