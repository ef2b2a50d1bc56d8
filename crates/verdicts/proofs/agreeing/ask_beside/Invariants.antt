-- `verdicts::agreeing::ask_beside`: the steps so far. Assumes nothing.
use Rattle.std.proofs.Common.{◌≡◌, ◌≤◌}
use Rattle.grid.specs.Steps.{steps_of}
use Rattle.verdicts.specs.Agreeing.{asked_beside}
use Rattle.verdicts.proofs.agreeing.ask_beside.Given as goal

abbrev pub invariant-loop-s : goal.invariant-loop-s
invariant-loop-s l = (l.found ≡ asked_beside l.grid l.work l.p l.s l.fn.so_far) × (l.s ≤ steps_of l.grid.near)
