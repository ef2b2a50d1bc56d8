-- `verdicts::agreeing::agreed`: the places so far. Assumes nothing.
use Rattle.std.proofs.Common.{◌≡◌}
use Rattle.verdicts.specs.Agreeing.{asked_around}
use Rattle.verdicts.proofs.agreeing.agreed.Given as goal

abbrev pub invariant-loop-p : goal.invariant-loop-p
invariant-loop-p l = l.found ≡ asked_around l.grid l.work l.fn.span.from l.p-index
