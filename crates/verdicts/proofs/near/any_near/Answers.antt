-- `verdicts::near::any_near`: a neighbour stands in one of the three rows. Assumes nothing.
use Rattle.std.proofs.Common.{false, arith}
use Rattle.verdicts.proofs.Nearby.{near-each}
use Rattle.verdicts.proofs.near.any_near.Goals as goal
use Rattle.verdicts.proofs.near.any_near.Goals.{then-any_in_row, else-any_in_row, then-any_in_row-2, else-any_in_row-2}

pub returns : goal.returns
returns g c = λ z. elim c.if-any_in_row-2.branch [
  | then-any_in_row-2 w ↦ absurd (cc)
  | else-any_in_row-2 w ↦ elim c.if-any_in_row.branch [
    | then-any_in_row v ↦ absurd (cc)
    | else-any_in_row v ↦ near-each (λ q. goal.F-post g c.args.is q false) c.args.w c.args.p (omega arith) (c.any_in_row.ensures (cc)) (v.any_in_row-else-any_in_row.ensures (cc)) (w.any_in_row-else-any_in_row-2.ensures (cc))
  ]
]
