-- No columns, or a row that has a ring cell, or none. Assumes nothing.
use Rattle.std.proofs.Common.{◌≡◌, ℕ, ◌+◌, ◌*◌, true, false, rules, sym, ◌∙◌, arith, refl}
use borrow.Author.Tests.{tests}
use Rattle.std.proofs.lemmas.Iterator.{cases_from_any, YieldsList-from_range}
use Rattle.base.specs.Places.{any}
use Rattle.rules.specs.Outline.{ring}
use Rattle.base.proofs.Ranges.{any-from_range}
use Rattle.outline.specs.Standing.{sheet_on}
use Rattle.outline.proofs.Rings.{no_columns, rows_ring}
use Rattle.outline.proofs.canvas.Lent.has_ring.Goals as goal

pub returns-then-self-eq0 : goal.returns-then-self-eq0
returns-then-self-eq0 c = sym (no_columns _ _ _ c.if-self-eq0.true)

pub returns : goal.returns
returns c =
    let on = c.args.self in
    let row = λ (y : ℕ). any on.w (λ x. ring (sheet_on on) (y * on.w + x)) in
    any-from_range on.h row _ (cases_from_any _ _ _ (λ y. row y ≡ true) (λ y. row y ≡ false) c.any.ensures.ran (YieldsList-from_range 0 on.h on.h refl (omega arith)) (λ x q k. search (rules, tests)) (λ x q k. search (rules, tests)))
    ∙ rows_ring _ _ _
