-- No more cases were met, or differ, than the stream has numbers.
use Rattle.std.proofs.Common.{◌≤◌, ◌+◌, ◌-◌}
use Rattle.vectors_c.proofs.replay_cases.Given as goal

abbrev pub invariant-loop-case : goal.invariant-loop-case
invariant-loop-case g l =
    record {
      can : (goal.iterator-loop-case g).can_next l.case-iterator;
      finite : (goal.iterator-loop-case g).is_finite l.case-iterator;
      cases : l.total.cases + (l.case-iterator.0.end - l.case-iterator.0.at) ≤ l.initial.case-iterator.0.end;
      differing : l.total.differing ≤ l.total.cases;
    }
