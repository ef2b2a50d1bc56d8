use Rattle.silk_reader.proofs.Scanning.{Valued}
use Rattle.silk_reader.proofs.value.Given as goal

abbrev pub invariant-loop-d : goal.invariant-loop-d
invariant-loop-d l = Valued l.digits l.v l.d-index
