-- `hex_to_rgb8`: the steps of the definition in turn. Assumes nothing.
use Rattle.std.proofs.Common.{ℕ, List, reverse, ap, ◌∙◌}
use Rattle.std.specs.Option.{ok_or}
use Rattle.base.specs.declared.Refusal.TheVariants.{NotHex}
use Rattle.hex_colour.specs.Hex.{space, mark, drop_while, stripped, six_digits, hex_to_rgb8}
use Rattle.hex_colour.proofs.hex_to_rgb8.Goals as goal

pub returns : goal.returns
unfolding stripped hex_to_rgb8
returns c =
    let a = c.without_leading.ensures space (λ x r k. k) in
    let b = c.without_trailing_space-trimmed.ensures in
    let d = c.without_leading-2.ensures mark (λ x r k. k) in
    c.ok_or.ensures.value ∙ ap (λ o. ok_or o NotHex) (c.six_digits.ensures ∙ ap six_digits (d ∙ ap (drop_while mark) (b ∙ ap (λ (l : List ℕ). reverse (drop_while space (reverse l))) a)))
