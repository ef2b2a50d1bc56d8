-- The numbers of the rest of the text, the one that is being read first, are those of the whole.
use Rattle.std.proofs.Common.{◌≡◌, length}
use Rattle.replay.specs.Texts.{numbers_in, numbers_after}
use Rattle.replay.proofs.text.NumeralsIterator.next.Given as goal

abbrev pub invariant-loop-c : goal.invariant-loop-c
invariant-loop-c l = numbers_in l.initial.self.0.now ≡ numbers_after l.value l.self.0.now

abbrev pub decreases-loop-c : goal.decreases-loop-c
decreases-loop-c l = length l.self.0.now
