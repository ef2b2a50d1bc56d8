-- `verdicts::voting::vote_all`: the steps from a place. Assumes nothing.
use Rattle.std.proofs.Common.{sym, ◌∙◌, arith}
use Rattle.grid.proofs.Places.{steps_most}
use Rattle.verdicts.proofs.Stepping.{walk_turn}
use Rattle.verdicts.proofs.Keeping.{sheet_polled}
use Rattle.verdicts.proofs.Votes.{reach-start, reach-on, reach_all}
use Rattle.verdicts.proofs.voting.vote_all.Goals as goal

pub loop-s-init : goal.loop-s-init
loop-s-init c = (reach-start c.args.grid c.args.mark.word c.args.p (λ e. omega arith) c.args.work.now c.args.counts.now c.requires.tallied, omega arith)

pub vote-requires-clause-grouped_sheet : goal.vote-requires-clause-grouped_sheet
vote-requires-clause-grouped_sheet c =
    let r = c.requires.grouped_sheet in
    (sheet_polled (λ e. omega (arith, c.args.mark.set)) c.loop-s.invariant.0 r.0, (walk_turn {grid = c.args.grid} {s = c.loop-s.s} r.1 c.on_edge-border.ensures (omega (arith, c.steps-steps.ensures))).one)

pub loop-s-preserved : goal.loop-s-preserved
loop-s-preserved c =
    let r = c.requires.grouped_sheet in
    let turn = walk_turn {grid = c.args.grid} {s = c.loop-s.s} r.1 c.on_edge-border.ensures (omega (arith, c.steps-steps.ensures)) in
    (reach-on c.args.grid c.args.mark.word c.args.p (λ e. omega arith) c.loop-s.counts _ c.loop-s.s c.loop-s.invariant.0 (rw turn.lands at c.vote.ensures), omega (arith, c.steps-steps.ensures))

pub returns-then-s-steps : goal.returns-then-s-steps
returns-then-s-steps c =
    reach_all c.args.grid c.args.mark.word c.args.p (λ e. omega arith) c.loop-s.s (sym (c.if-s-steps.true ∙ c.steps-steps.ensures)) c.loop-s.invariant.0

pub returns : goal.returns
returns c =
    reach_all c.args.grid c.args.mark.word c.args.p (λ e. omega arith) c.loop-s.s (omega (arith, steps_most c.args.grid.near)) c.loop-s.invariant.0
