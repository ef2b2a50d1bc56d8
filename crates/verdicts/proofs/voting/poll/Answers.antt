-- `verdicts::voting::poll`: the neighbours of the places of a span. Assumes nothing.
use Rattle.std.proofs.Common.{◌≡◌, arith}
use Rattle.verdicts.proofs.Keeping.{sheet-few, sheet_polled}
use Rattle.verdicts.proofs.Spans.{span_turn}
use Rattle.verdicts.proofs.Votes.{beside_start, beside_on}
use Rattle.verdicts.proofs.voting.poll.Goals as goal

pub loop-i-init : goal.loop-i-init
loop-i-init c = beside_start c.args.grid c.args.mark.word c.args.span.from (λ e. omega arith) c.args.work.now c.args.counts.now c.requires.tallied

pub vote_all-requires-clause-grouped_sheet : goal.vote_all-requires-clause-grouped_sheet
vote_all-requires-clause-grouped_sheet c =
    let r = c.requires.grouped_sheet in
    let kept = c.loop-i.invariant.kept in
    (sheet_polled (λ e. omega (arith, c.args.mark.set)) c.loop-i.invariant r.0, (span_turn (sheet-few r.0) r.0.room r.1 kept.len (λ q l. kept.same 2 q (λ z. absurd (omega arith)) l) c.loop-i.auto.i c.loop-i-test.true).place)

pub loop-i-preserved : goal.loop-i-preserved
loop-i-preserved c =
    let r = c.requires.grouped_sheet in
    let kept = c.loop-i.invariant.kept in
    let turn = span_turn (sheet-few r.0) r.0.room r.1 kept.len (λ q l. kept.same 2 q (λ z. absurd (omega arith)) l) c.loop-i.auto.i c.loop-i-test.true in
    beside_on c.args.grid c.args.mark.word c.args.span.from (λ e. omega arith) c.loop-i.counts _ c.loop-i.i _ c.loop-i.auto.i turn.is c.loop-i.invariant c.vote_all.ensures

pub returns : goal.returns
returns c =
    let e : c.loop-i.i ≡ c.args.span.to = omega (arith, c.requires.grouped_sheet.1.rises) in
    rw e at c.loop-i.invariant
