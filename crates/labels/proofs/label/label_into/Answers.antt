-- `label_into`: labels made, then handed out. Assumes nothing.
use Rattle.std.proofs.Common.{arith}
use Rattle.labels.proofs.Answers.{plane_out}
use Rattle.labels.proofs.label.label_into.Goals as goal

pub returns-clause-labels_after : goal.returns-clause-labels_after
returns-clause-labels_after c =
    let e = c.label_planes-t.ensures in
    plane_out _ _ _ c.label_planes-t.new.work _ _ c.copy.ensures (omega arith) (omega (arith, c.requires.sized.0.planes, e.planes_kept.size)) e.labelled.labels
