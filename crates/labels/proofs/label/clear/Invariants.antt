-- `clear`: the words of the places before p are there. Assumes nothing.
use Rattle.std.proofs.Common.{◌≡◌, ℕ, ◌<◌, get_or}
use Rattle.labels.specs.Filling.{word_of}
use Rattle.labels.proofs.label.clear.Given as goal

abbrev pub invariant-loop-p : goal.invariant-loop-p
invariant-loop-p l = (k : ℕ) → k < l.p → get_or l.code-items k 0 ≡ word_of (get_or l.paints k 0)
