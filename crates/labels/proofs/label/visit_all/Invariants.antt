-- `visit_all`: k steps from the place are taken. Assumes nothing.
use Rattle.std.proofs.Common.{◌*◌, ◌≤◌}
use Rattle.grid.specs.Steps.{steps_of}
use Rattle.labels.specs.Filling.{seen, Coded}
use Rattle.labels.proofs.Flooding.{Turn}
use Rattle.labels.proofs.label.visit_all.Given as goal

abbrev pub invariant-loop-k : goal.invariant-loop-k
invariant-loop-k l =
    let n = l.g.h * l.g.w in
    Turn l.g.h l.g.w l.g.near (seen n l.fn.work) l.fn.from l.head l.p l.k (seen n l.work) l.t × Coded n l.work × (l.k ≤ steps_of l.g.near)
