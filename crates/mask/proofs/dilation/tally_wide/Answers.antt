-- `tally_wide`: three stretches side by side. Assumes nothing.
use Rattle.std.proofs.Common.{ℕ, ◌∙◌, ap, rules, arith}
use lib.ListN.{replicate}
use Rattle.mask.specs.Lines.{set_in}
use Rattle.mask.proofs.Lines.{count_with_margin-is}
use Rattle.mask.proofs.dilation.tally_wide.Goals as goal

pub returns : goal.returns
returns c =
    count_with_margin-is (set_in c.args.row.now) c.args.r _ _ _ _ _ (c.fill.ensures.after (search rules) ∙ ap (λ (n : ℕ). replicate n 0) (omega arith))
    c.tally-sum.ensures.counts_after c.tally-sum.ensures.value (c.fill-2.ensures.after (search rules) ∙ ap (λ (n : ℕ). replicate n c.tally-sum.result) (omega arith))
