-- `frontier::judging::judge_frontier`: the groups of the log. Assumes nothing.
use Rattle.std.proofs.Common.{sym, ap, ◌∙◌, suc, inl, inr, ⊎_elim, arith}
use Rattle.verdicts.proofs.Spans.{within_more, within-to}
use Rattle.frontier.proofs.Progress.{met_none, met_more, met_as, met_group, met_log}
use Rattle.frontier.proofs.judging.judge_frontier.Goals as goal

pub loop-i-init : goal.loop-i-init
loop-i-init c = record { met = met_none c.requires.stage (λ q l z. omega (arith, z.1, z.2)); low = omega arith }

pub judge_around-mid-requires-clause-group : goal.judge_around-mid-requires-clause-group
judge_around-mid-requires-clause-group c =
    let u = c.loop-i.invariant in
    met_group u.met (met_log c.requires.stage u.met c.loop-i-test.true (c.requires.by_index _ u.low c.loop-i-test.true)).group

pub loop-i-preserved : goal.loop-i-preserved
loop-i-preserved c =
    let u = c.loop-i.invariant in
    let turn = met_log c.requires.stage u.met c.loop-i-test.true (c.requires.by_index _ u.low c.loop-i-test.true) in
    record {
      met = met_more c.requires.stage (λ q l z. ⊎_elim inl (λ y. inr (y.0, y.1, u.met.same 1 y.0 (omega arith) y.1 ∙ y.2 ∙ ap suc (sym turn.is), y.3)) (within_more z)) u.met c.judge_around-mid.ensures;
      low = omega arith;
    }

pub returns : goal.returns
returns c = met_as (λ q l z. within-to c.loop-i-test.false z) c.loop-i.invariant.met
