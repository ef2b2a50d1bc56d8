-- `verdicts::target::nearest`: the nearest so far. Assumes nothing.
use Rattle.std.proofs.Common.{Some, ap, ap₂, ◌∙◌, sym}
use Rattle.std.specs.Prelude.{Float}
use Rattle.color.specs.Lab.{distance}
use Rattle.color.specs.declared.least.Least.{Least}
use Rattle.color.specs.Least.{lowered}
use Rattle.verdicts.specs.Targets.{entry_distance, candidate}
use Rattle.verdicts.proofs.Choosing.{nearest-start, nearest-more, nearest-same, first-counts}
use Rattle.verdicts.proofs.target.nearest.Goals as goal
use Rattle.verdicts.proofs.target.nearest.Goals.{then-votes-m, else-votes-m}

pub loop-index-init : goal.loop-index-init
loop-index-init c = nearest-start _ _ _

pub loop-index-preserved : goal.loop-index-preserved
unfolding entry_distance candidate
loop-index-preserved c =
    let l = c.args.counts.now in
    let i = c.loop-index.index in
    let far = entry_distance c.args.judge.now.palette.now c.args.own in
    let read = first-counts l c.args.judge.now.by.k i c.loop-index-test.true in
    elim c.if-votes-m.branch [
      | then-votes-m w ↦ w.best-is
          ∙ ap (λ (x : Least). Some x) (w.lower.ensures ∙ ap (λ (d : Float). lowered c.loop-index.best (candidate i d)) (w.distance-value.ensures ∙ ap₂ distance c.entry-from.ensures w.entry.ensures))
          ∙ nearest-more far l c.args.m i c.loop-index.best c.loop-index.invariant (sym read ∙ w.if-votes-m.true)
      | else-votes-m w ↦ w.best-is ∙ nearest-same far l c.args.m i c.loop-index.best c.loop-index.invariant (λ z. w.if-votes-m.false (read ∙ z))
    ]
