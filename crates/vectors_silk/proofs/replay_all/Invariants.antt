-- No more cases were met, or differ, than the buffer has bytes.
use Rattle.std.proofs.Common.{◌≤◌, ◌+◌, length}
use Rattle.vectors_silk.proofs.replay_all.Given as goal

abbrev pub invariant-loop-cases : goal.invariant-loop-cases
invariant-loop-cases g l =
    record {
      cases : l.total.cases + length l.cases.0.now ≤ length l.initial.cases.0.now;
      differing : l.total.differing ≤ l.total.cases;
    }

abbrev pub decreases-loop-cases : goal.decreases-loop-cases
decreases-loop-cases g l = length l.cases.0.now
