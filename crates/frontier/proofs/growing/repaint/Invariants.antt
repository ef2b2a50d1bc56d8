-- `frontier::growing::repaint`: the places of the group so far. Assumes nothing.
use Rattle.frontier.proofs.Setting.{Repainting}
use Rattle.frontier.proofs.growing.repaint.Given as goal

abbrev pub invariant-loop-i : goal.invariant-loop-i
invariant-loop-i l = Repainting l.n l.at l.paint l.i l.fn.work l.work
