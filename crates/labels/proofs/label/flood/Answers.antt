-- `flood`: the region of what waits, whole. Assumes nothing.
use Rattle.std.proofs.Common.{◌∙◌, refl, arith}
use Rattle.grid.proofs.Places.{area}
use Rattle.labels.proofs.Filling.{since_refl, since_trans}
use Rattle.labels.proofs.Flooding.{whole}
use Rattle.labels.proofs.label.flood.Goals as goal

pub loop-head-init : goal.loop-head-init
loop-head-init c = (c.requires, since_refl _, refl)

pub overflow_add-head : goal.overflow_add-head
overflow_add-head c =
    let f = c.loop-head.invariant.0.0.filled in
    omega (arith, f.order.free, c.loop-head-test.true, area _ _ f.sized.rows f.sized.cols)

pub loop-head-smaller : goal.loop-head-smaller
loop-head-smaller c = omega (arith, c.loop-head.invariant.0.0.filled.order.free, c.loop-head-test.true)

pub loop-head-preserved : goal.loop-head-preserved
loop-head-preserved c =
    let i = c.loop-head.invariant in
    let e = c.visit_all-t.ensures in
    (e.flood_2, since_trans i.1 e.since, e.regions_value.0 ∙ i.2)

pub returns : goal.returns
returns c =
    let i = c.loop-head.invariant in
    record { filled = (whole i.0.0 c.loop-head-test.false, i.0.1); since = i.1; regions_value = i.2 }
