-- The first elements are written.
use Rattle.std.proofs.Common.{◌≡◌}
use Rattle.base.specs.Outputs.{filled}
use Rattle.replay.specs.Lists.{element}
use Rattle.replay.proofs.lists.Stored.lend.Given as goal

abbrev pub invariant-loop-i : goal.invariant-loop-i
invariant-loop-i g l = l.list ≡ filled l.i (λ j. g.K.Kind.read (element l.self j)) l.initial.list
