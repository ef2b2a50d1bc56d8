-- `label_planes`: the places before s are passed. Assumes nothing.
use Rattle.std.proofs.Common.{◌*◌}
use Rattle.labels.specs.Filling.{seen, Coded, Filled, Shut, LabelledTo, PlanesKept}
use Rattle.labels.proofs.label.label_planes.Given as goal

abbrev pub invariant-loop-s : goal.invariant-loop-s
invariant-loop-s l =
    let n = l.g.h * l.g.w in
    Filled l.g.h l.g.w l.g.near (seen n l.work) l.t.regions l.t Shut × LabelledTo l.g.h l.g.w l.g.near (seen n l.work) l.t l.s × PlanesKept n (seen n l.initial.work) (seen n l.work) × Coded n l.work
