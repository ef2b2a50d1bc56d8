-- What a judge goes by. Definitions only. Assumes nothing.
use Rattle.rules.specs.Pass.{Rule}
use Rattle.verdicts.specs.declared.Judge.{Judge}
use Rattle.verdicts.specs.Judging.{rule_of}

-- what a judge goes by
abbrev pub rule_by : Judge → Rule
rule_by judge = rule_of judge.grid judge.by judge.palette.now
