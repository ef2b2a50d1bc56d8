-- `orphans::passing::later_passes`: the passes so far. Assumes nothing.
use Rattle.verdicts.specs.Judging.{rule_of}
use Rattle.orphans.proofs.Continuing.{LaterPasses}
use Rattle.orphans.proofs.passing.later_passes.Given as goal

abbrev pub invariant-loop-made : goal.invariant-loop-made
invariant-loop-made l = LaterPasses (rule_of l.judge.grid l.judge.by l.judge.palette.now) l.judge.grid l.judge.by.k l.left l.begin l.end l.fn.work l.work l.made
