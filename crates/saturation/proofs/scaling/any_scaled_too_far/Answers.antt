-- A part of one of the colours is carried out of range. Assumes nothing.
use Rattle.std.proofs.Common.{◌≡◌, ◌∙◌, true, false, refl, sym, rules, arith, tests}
use Rattle.std.proofs.lemmas.Iterator.{cases_from_any, YieldsList-from_range}
use Rattle.base.proofs.Ranges.{any-from_range}
use Rattle.rules.specs.Palette.{colour}
use Rattle.saturation.proofs.Tones.{colour_far, colours_far, too_far-any}
use Rattle.saturation.proofs.scaling.any_scaled_too_far.Goals as goal

pub returns : goal.returns
unfolding colour_far colour
returns c =
    let lab = c.args.entries.lab.now in
    let k = c.args.entries.k in
    let far = colour_far lab c.args.beta in
    any-from_range k far c.any.result
    (cases_from_any _ _ _ (λ x. far x ≡ true) (λ x. far x ≡ false) c.any.ensures.ran (YieldsList-from_range 0 k k refl (omega arith)) (λ x q h. search (rules, tests)) (λ x q h. search (rules, tests)))
    ∙ colours_far lab c.args.beta k
    ∙ sym (too_far-any lab c.args.beta k)
