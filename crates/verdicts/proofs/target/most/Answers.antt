-- `verdicts::target::most`: the greatest of the counts so far. Assumes nothing.
use Rattle.std.proofs.Common.{◌∙◌}
use Rattle.verdicts.proofs.Choosing.{peak-start, peak-more, first-counts}
use Rattle.verdicts.proofs.target.most.Goals as goal

pub loop-votes-init : goal.loop-votes-init
loop-votes-init c = peak-start _

pub loop-votes-preserved : goal.loop-votes-preserved
loop-votes-preserved c =
    let l = c.args.counts.now in
    let i = c.loop-votes.votes-index in
    c.max-best.ensures ∙ peak-more l i c.loop-votes.best _ c.loop-votes.invariant (first-counts l c.args.k i c.loop-votes-test.true)
