-- `verdicts::target::by_votes`, way out by way out. Assumes nothing.
use Rattle.std.proofs.Common.{Some, None, sym, ◌∙◌, arith}
use Rattle.verdicts.specs.Targets.{entry_distance, decision}
use Rattle.verdicts.proofs.Choosing.{nearest-below, by_votes_none, by_votes_some, decision_none}
use Rattle.verdicts.proofs.target.by_votes.Goals as goal

pub returns-then-m-eq0 : goal.returns-then-m-eq0
returns-then-m-eq0 c =
    by_votes_none (entry_distance c.args.judge.now.palette.now c.args.own) c.args.counts.now c.args.judge.now.by.k c.most-m.result c.args.judge.now.by.max_delta c.most-m.ensures c.if-m-eq0.true

pub decide-requires : goal.decide-requires
decide-requires c =
    let l = nearest-below (entry_distance c.args.judge.now.palette.now c.args.own) c.args.counts.now c.most-m.result c.args.judge.now.by.k c.in-Some.target (sym c.in-Some.ensures) in
    omega arith

pub returns-in-Some : goal.returns-in-Some
unfolding decision
returns-in-Some c =
    c.decide.ensures
    ∙ by_votes_some (entry_distance c.args.judge.now.palette.now c.args.own) c.args.counts.now c.args.judge.now.by.k c.most-m.result c.args.judge.now.by.max_delta c.most-m.ensures c.if-m-eq0.false (Some c.in-Some.target) c.in-Some.ensures

pub returns-in-None : goal.returns-in-None
returns-in-None c =
    decision_none c.args.judge.now.by.max_delta
    ∙ by_votes_some (entry_distance c.args.judge.now.palette.now c.args.own) c.args.counts.now c.args.judge.now.by.k c.most-m.result c.args.judge.now.by.max_delta c.most-m.ensures c.if-m-eq0.false None c.in-None.ensures
