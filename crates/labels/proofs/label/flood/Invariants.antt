-- `flood`: what waits from head on is one region's. Assumes nothing.
use Rattle.std.proofs.Common.{◌≡◌, ◌-◌, ◌*◌}
use Rattle.labels.specs.Filling.{seen, Coded, Flood, Tinted, Since}
use Rattle.labels.proofs.label.flood.Given as goal

abbrev pub invariant-loop-head : goal.invariant-loop-head
invariant-loop-head l =
    let n = l.g.h * l.g.w in
    (Flood l.g.h l.g.w l.g.near (seen n l.work) l.head l.t × Coded n l.work × Tinted n (seen n l.work) l.head l.t.taken (l.code.word - 264196)) × Since n (seen n l.fn.work) (seen n l.work)
    × (l.t.regions ≡ l.fn.from.regions)

abbrev pub decreases-loop-head : goal.decreases-loop-head
decreases-loop-head l = l.g.h * l.g.w - l.head
