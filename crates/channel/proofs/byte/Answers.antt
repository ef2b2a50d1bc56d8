-- `byte`: each turn halves the gap, by the threshold half way. Assumes nothing.
use Rattle.std.proofs.Common.{◌≡◌, ◌∙◌, arith}
use Rattle.roots.proofs.Units.{no_nan_bits}
use Rattle.channel.proofs.Thresholds.{passes_by, sought_start, sought_end, halves, gap_at, half_at, half_hit, half_miss, half_inside}
use Rattle.channel.proofs.byte.Goals as goal
use Rattle.channel.proofs.byte.Goals.{then-thresholds-n, else-thresholds-n}

pub loop-half-init : goal.loop-half-init
unfolding halves gap_at
loop-half-init c = sought_start c.args.c

pub bounds-thresholds-n : goal.bounds-thresholds-n
unfolding halves
bounds-thresholds-n c = half_inside c.loop-half.invariant (half_at _ c.loop-half-test.true)

pub float_from_bits-thresholds : goal.float_from_bits-thresholds
unfolding halves
float_from_bits-thresholds c = no_nan_bits _ (c.threshold_table-thresholds.ensures.fits _ (half_inside c.loop-half.invariant (half_at _ c.loop-half-test.true)))

pub loop-half-preserved : goal.loop-half-preserved
unfolding halves
loop-half-preserved c =
    let s = c.loop-half.invariant in
    let h = half_at c.loop-half.half-index c.loop-half-test.true in
    let e = passes_by c.threshold_table-thresholds.ensures c.args.c _ (half_inside s h) in
    elim c.if-thresholds-n.branch [
      | then-thresholds-n w ↦ rw w.n-is (half_hit s h (e ∙ w.if-thresholds-n.true))
      | else-thresholds-n w ↦ rw w.n-is (half_miss s h (e ∙ w.if-thresholds-n.false))
    ]

pub returns : goal.returns
unfolding halves gap_at
returns c =
    let e : c.loop-half.half-index ≡ 8 = omega arith in
    sought_end c.args.c c.loop-half.n (rw e at c.loop-half.invariant)
