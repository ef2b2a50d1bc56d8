-- One cell more is painted. Assumes nothing.
use Rattle.std.proofs.Common.{◌<◌, length, arith, to_z-of_z}
use Rattle.rules.proofs.Reading.{read_at}
use Rattle.outline.proofs.Inking.{painted, inks_start, inks_step, inks_end}
use Rattle.outline.proofs.ring.ink.Goals as goal

pub loop-p-init : goal.loop-p-init
loop-p-init c = inks_start _ _ _

pub loop-p-preserved : goal.loop-p-preserved
loop-p-preserved c =
    let i = c.loop-p.invariant in
    let within : c.loop-p.p < length c.args.cells.now = omega (arith, i.size) in
    let read = read_at c.loop-p.cells c.loop-p.p (omega (arith, i.size)) in
    inks_step i within _ (grind (arith, to_z-of_z, read, c.tinted.ensures))

pub returns : goal.returns
unfolding painted
returns c = inks_end c.loop-p.invariant (omega (arith, c.loop-p.invariant.size))
