-- `verdicts::target::unanimous`. Assumes nothing.
use Rattle.std.proofs.Common.{ap, ap₂, ◌∙◌}
use Rattle.std.specs.Float.Ieee.{lt}
use Rattle.color.specs.declared.Lab.{Lab}
use Rattle.color.specs.Lab.{distance}
use Rattle.verdicts.specs.Targets.{entry_distance, candidate, verdict_on, decision}
use Rattle.verdicts.proofs.target.unanimous.Goals as goal

pub returns : goal.returns
unfolding entry_distance candidate decision
returns c =
    c.decide.ensures ∙ ap (verdict_on c.args.c) (c.closer_than-near.ensures ∙ ap₂ (λ (p q : Lab). lt (distance p q) c.args.judge.now.by.max_delta) c.entry.ensures c.entry-2.ensures)
