-- `verdicts::Judge::verdict`, way out by way out. Assumes nothing.
use Rattle.std.proofs.Common.{ap, arith}
use Rattle.verdicts.specs.Targets.{as_number}
use Rattle.verdicts.proofs.Keeping.{sheet-planes}
use Rattle.verdicts.proofs.Spans.{group-stretch}
use Rattle.verdicts.proofs.Agrees.{one_paint_lem, one_some, one_most}
use Rattle.verdicts.proofs.Verdicts.{judged-done, first_in, paint_some, paint_most, judged_big, judged_agreed, judged_polled, none_voted, judged_silent}
use Rattle.verdicts.proofs.Judge.verdict.Goals as goal
use Rattle.verdicts.proofs.Judge.verdict.Goals.{then-large-via-then-large, then-large-via-else-large+then-not-large_around}

pub returns-then-decided : goal.returns-then-decided
unfolding as_number
returns-then-decided c = let r = c.requires in judged-done _ _ r.grouped_sheet.0 r.sound.0 r.grouped_sheet.1 c.if-decided.true

pub returns-then-large : goal.returns-then-large
unfolding as_number
returns-then-large c =
    let r = c.requires in
    let span = c.region_span-span in
    elim c.then-large.branch [
      | then-large-via-then-large w ↦ judged_big _ _ r.grouped_sheet.0 r.sound.0 r.grouped_sheet.1 span.result span.ensures w.if-large.true
      | then-large-via-else-large+then-not-large_around w ↦ judged_silent _ _ r.grouped_sheet.0 r.sound.0 r.grouped_sheet.1 span.result span.ensures c.if-decided.false w.if-large.false r.indexed r.sound.1 (w.large_around.ensures w.if-not-large_around.true)
    ]

pub returns-in-Some : goal.returns-in-Some
returns-in-Some c =
    let r = c.requires in
    let sheet = r.grouped_sheet.0 in
    let span = c.region_span-span in
    let s = group-stretch r.grouped_sheet.1 span.ensures in
    judged_agreed _ _ sheet r.sound.0 r.grouped_sheet.1 span.result span.ensures c.if-decided.false c.if-large.false r.indexed
    (one_paint_lem c.args.self.now.grid c.args.work.now sheet span.result.from span.result.to c.in-Some.paint s.rises c.in-Some.ensures)
    (ap as_number c.unanimous.ensures)

pub returns : goal.returns
returns c =
    let r = c.requires in
    judged_polled _ _ r.grouped_sheet.0 r.sound.0 r.grouped_sheet.1 c.region_span-span.result c.region_span-span.ensures c.if-decided.false c.if-large.false r.indexed r.sound.1 c.poll.ensures (ap as_number c.by_votes.ensures)

pub bounds-work-n-3 : goal.bounds-work-n-3
bounds-work-n-3 c =
    let r = c.requires in
    let l = first_in _ _ r.grouped_sheet.0 r.sound.0 r.grouped_sheet.1 c.region_span-span.result c.region_span-span.ensures in
    omega arith

pub bounds-work-first : goal.bounds-work-first
bounds-work-first c =
    let r = c.requires in
    let l = first_in _ _ r.grouped_sheet.0 r.sound.0 r.grouped_sheet.1 c.region_span-span.result c.region_span-span.ensures in
    omega arith

pub overflow_sub-own : goal.overflow_sub-own
overflow_sub-own c =
    let r = c.requires in
    let l = paint_some _ _ r.grouped_sheet.0 r.sound.0 r.grouped_sheet.1 c.region_span-span.result c.region_span-span.ensures in
    omega arith

pub large_around-requires : goal.large_around-requires
large_around-requires c =
    let r = c.requires in
    (sheet-planes r.grouped_sheet.0, r.grouped_sheet.0.cols, group-stretch r.grouped_sheet.1 c.region_span-span.ensures)

pub agreed-requires : goal.agreed-requires
agreed-requires c = (c.requires.grouped_sheet.0, group-stretch c.requires.grouped_sheet.1 c.region_span-span.ensures)

pub overflow_sub-c : goal.overflow_sub-c
overflow_sub-c c =
    let sheet = c.requires.grouped_sheet.0 in
    let s = group-stretch c.requires.grouped_sheet.1 c.region_span-span.ensures in
    let l = one_some sheet (one_paint_lem c.args.self.now.grid c.args.work.now sheet c.region_span-span.result.from c.region_span-span.result.to c.in-Some.paint s.rises c.in-Some.ensures) in
    omega arith

pub unanimous-requires : goal.unanimous-requires
unanimous-requires c =
    let r = c.requires in
    let sheet = r.grouped_sheet.0 in
    let span = c.region_span-span in
    let s = group-stretch r.grouped_sheet.1 span.ensures in
    let u = one_paint_lem c.args.self.now.grid c.args.work.now sheet span.result.from span.result.to c.in-Some.paint s.rises c.in-Some.ensures in
    let o = paint_most _ _ sheet r.sound.0 r.grouped_sheet.1 span.result span.ensures r.indexed in
    let l = one_most r.indexed u in
    let m = one_some sheet u in
    (omega (arith, paint_some _ _ sheet r.sound.0 r.grouped_sheet.1 span.result span.ensures, r.indexed.few), omega (arith, r.indexed.few))

pub poll-requires-clause-grouped_sheet : goal.poll-requires-clause-grouped_sheet
poll-requires-clause-grouped_sheet c = (c.requires.grouped_sheet.0, group-stretch c.requires.grouped_sheet.1 c.region_span-span.ensures)

pub poll-requires-clause-tallied : goal.poll-requires-clause-tallied
poll-requires-clause-tallied c =
    let r = c.requires in
    none_voted _ _ r.grouped_sheet.0 r.sound.0 r.grouped_sheet.1 c.region_span-span.result c.region_span-span.ensures c.if-decided.false c.if-large.false r.indexed r.sound.1

pub by_votes-requires : goal.by_votes-requires
by_votes-requires c =
    let r = c.requires in
    let span = c.region_span-span in
    let some = paint_some _ _ r.grouped_sheet.0 r.sound.0 r.grouped_sheet.1 span.result span.ensures in
    let most = paint_most _ _ r.grouped_sheet.0 r.sound.0 r.grouped_sheet.1 span.result span.ensures r.indexed in
    (r.indexed.few, omega arith)
