-- The length is right, and no element so far differs.
use Rattle.replay.proofs.Elements.{AlikeSoFar}
use Rattle.replay.proofs.lists.After.agrees.Given as goal

abbrev pub invariant-loop-i : goal.invariant-loop-i
invariant-loop-i g l = AlikeSoFar g.K.Kind.read g.K.Kind.bits l.list l.self l.i l.same
