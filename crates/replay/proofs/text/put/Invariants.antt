-- The numbers so far stand at the front.
use Rattle.replay.specs.Texts.{numbers_in}
use Rattle.replay.proofs.Texts.{Placed}
use Rattle.replay.proofs.text.put.Given as goal

abbrev pub invariant-loop-n : goal.invariant-loop-n
invariant-loop-n l =
    record {
      can : goal.iterator-loop-n.can_next l.n-iterator;
      finite : goal.iterator-loop-n.is_finite l.n-iterator;
      placed : Placed (numbers_in l.text) l.initial.numbers (numbers_in l.n-iterator.0.now) l.numbers l.count;
    }
