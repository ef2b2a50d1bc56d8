-- Each turn leaves less of the cases.
use Rattle.std.proofs.Common.{◌≤◌, length}
use Rattle.vectors_silk.proofs.Cases.line.Given as goal

abbrev pub invariant-loop-byte : goal.invariant-loop-byte
invariant-loop-byte l = length l.self.0.now ≤ length l.initial.self.0.now

abbrev pub decreases-loop-byte : goal.decreases-loop-byte
decreases-loop-byte l = length l.self.0.now
