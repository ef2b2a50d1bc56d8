-- `frontier::judging::judge_all`: the groups. Assumes nothing.
use Rattle.std.proofs.Common.{inl, inr, arith}
use Rattle.std.proofs.Math.Decide.{ℕ_discrete}
use Rattle.frontier.proofs.Progress.{met_start, met_step, met_fewer, met_group}
use Rattle.frontier.proofs.judging.judge_all.Goals as goal

pub loop-at-init : goal.loop-at-init
loop-at-init c = record { met = met_fewer (λ l z. absurd (omega arith)) (met_start c.requires.stage); made = omega arith }

pub judge_region-end-requires-clause-group : goal.judge_region-end-requires-clause-group
judge_region-end-requires-clause-group c = met_group c.loop-at.invariant.met (c.requires.by_index c.loop-at.at c.loop-at-test.true)

pub loop-at-preserved : goal.loop-at-preserved
loop-at-preserved c =
    let u = c.loop-at.invariant.met in
    record {
      met = met_fewer (λ l z. elim (ℕ_discrete l c.loop-at.at) [ yes y ↦ inr y | no y ↦ inl (omega arith) ])
          (met_step c.requires.stage u (met_group u (c.requires.by_index c.loop-at.at c.loop-at-test.true)) c.judge_region-end.ensures);
      made = omega arith;
    }

pub returns : goal.returns
returns c = met_fewer (λ l z. omega (arith, c.loop-at-test.false)) c.loop-at.invariant.met
