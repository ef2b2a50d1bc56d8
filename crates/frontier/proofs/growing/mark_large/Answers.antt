-- `frontier::growing::mark_large`: the groups. Assumes nothing.
use Rattle.std.proofs.Common.{arith}
use Rattle.frontier.proofs.Repaints.{enlarged_group, enlarged_end, wide_start, wide_more, wide_same, wide_all}
use Rattle.frontier.proofs.growing.mark_large.Goals as goal
use Rattle.frontier.proofs.growing.mark_large.Goals.{then-limit-size, else-limit-size}

pub loop-at-init : goal.loop-at-init
loop-at-init c = record { done = wide_start c.args.n c.args.limit c.args.work.now; high = omega arith }

pub region_size-size-requires : goal.region_size-size-requires
region_size-size-requires c =
    let u = c.loop-at.invariant.done in
    (record { few = c.requires.planes.few; room = rw u.kept.len c.requires.planes.room }, enlarged_group u (c.requires.by_index c.loop-at.at c.loop-at-test.true))

pub set_region-requires-clause-group : goal.set_region-requires-clause-group
set_region-requires-clause-group c = enlarged_group c.loop-at.invariant.done (c.requires.by_index c.loop-at.at c.loop-at-test.true)

pub loop-at-preserved : goal.loop-at-preserved
loop-at-preserved c =
    let u = c.loop-at.invariant.done in
    let group = c.requires.by_index c.loop-at.at c.loop-at-test.true in
    let size = enlarged_end u group in
    record {
      done = elim c.if-limit-size.branch [
        | then-limit-size w ↦ rw w.work-is (wide_more u (omega (arith, size.0, size.1, c.region_size-size.ensures, w.if-limit-size.true)) w.set_region.ensures)
        | else-limit-size w ↦ rw w.work-is (wide_same u (λ z. omega (arith, size.0, size.1, c.region_size-size.ensures, w.if-limit-size.false)))
      ];
      high = omega arith;
    }

pub returns : goal.returns
returns c = wide_all c.loop-at.invariant.done c.loop-at.invariant.high c.loop-at-test.false
