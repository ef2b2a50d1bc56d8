-- The entries so far are multiplied, and one more. Assumes nothing.
use Rattle.std.proofs.Common.{◌≡◌, arith}
use Rattle.saturation.proofs.Tones.{saturates_start, saturates_step, saturates_end}
use Rattle.saturation.proofs.scaling.saturate.Goals as goal

pub loop-i-init : goal.loop-i-init
loop-i-init c = saturates_start _ _

pub loop-i-preserved : goal.loop-i-preserved
loop-i-preserved c = saturates_step _ _ c.loop-i.i c.loop-i.invariant (omega arith) c.scale.ensures c.scale-in-loop-i.ensures

pub returns : goal.returns
returns c =
    let e : c.loop-i.i ≡ c.args.k = omega arith in
    saturates_end _ _ c.args.k (rw e at c.loop-i.invariant)
