-- `paint`: the plane is painted as far as the loop has come. Assumes nothing.
use Rattle.std.proofs.Common.{◌≡◌, ℕ, ◌<◌, get_or}
use Rattle.mask.specs.Lines.{bit_of}
use Rattle.mask.proofs.label.paint.Given as goal

abbrev pub invariant-loop-p : goal.invariant-loop-p
invariant-loop-p l = (k : ℕ) → k < l.p → get_or l.plane k 0 ≡ bit_of (get_or l.mask k 0)
