-- `frontier::judging::judge_beside`: the steps from a place. Assumes nothing.
use Rattle.std.proofs.Common.{◌≡◌, ℕ, ◌+◌, ◌<◌, ◌⊎◌, inl, inr, ⊎_elim, ◌∙◌, arith}
use Rattle.std.specs.Prelude.{Some}
use Rattle.grid.proofs.Places.{steps_most}
use Rattle.verdicts.specs.Steps.{area_of, landing}
use Rattle.verdicts.proofs.Stepping.{step_at, walk_turn}
use Rattle.verdicts.proofs.Votes.{Reached, reached_more, all_reached}
use Rattle.frontier.proofs.Progress.{met_none, met_more, met_as, met_found, met_unfound}
use Rattle.frontier.proofs.judging.judge_beside.Goals as goal
use Rattle.frontier.proofs.judging.judge_beside.Goals.{in-Some, in_default}

pub loop-s-preserved : goal.loop-s-preserved
loop-s-preserved c =
    let grid = c.args.judge.now.grid in
    let p = c.args.p in
    let s = c.loop-s.s in
    let walk = walk_turn {grid = grid} {s = s} c.requires.p_bound c.on_edge-border.ensures (omega arith) in
    let more : (q : ℕ) → q < area_of grid → Reached grid p (s + 1) q → Reached grid p s q ⊎ (landing grid (step_at p s c.on_edge-border.result) ≡ Some q) =
    (λ q l y. ⊎_elim inl (λ e. inr (walk.lands ∙ e)) (reached_more grid p s y)) in
    let u = c.loop-s.invariant.met in
    record {
      met = elim c.match-small_found.branch [
        | in-Some w ↦ rw (w.work-is, w.end-is) (met_more c.requires.stage more u (met_found u.stage _ w.in-Some.ensures w.judge_region-end.ensures))
        | in_default w ↦ rw (w.work-is, w.end-is) (met_more c.requires.stage more u (met_unfound u.stage _ w.in_default.ensures))
      ];
      made = omega arith;
    }

pub loop-s-init : goal.loop-s-init
loop-s-init c = record { met = met_none c.requires.stage (λ q l z. let i = z.1 in absurd (omega arith)); made = omega arith }

pub small_found-requires : goal.small_found-requires
small_found-requires c =
    let walk = walk_turn {grid = c.args.judge.now.grid} {s = c.loop-s.s} c.requires.p_bound c.on_edge-border.ensures (omega arith) in
    (c.loop-s.invariant.met.stage.sheet, walk.one)

pub judge_region-end-requires-clause-group : goal.judge_region-end-requires-clause-group
judge_region-end-requires-clause-group c = let s = c.in-Some.ensures in c.loop-s.invariant.met.stage.sheet.groups s.place _ s.bound s.label

pub returns-then-s-steps : goal.returns-then-s-steps
returns-then-s-steps c = met_as (λ q l. all_reached c.args.judge.now.grid c.args.p c.loop-s.s (omega arith) l) c.loop-s.invariant.met

pub returns : goal.returns
returns c = met_as (λ q l. all_reached c.args.judge.now.grid c.args.p c.loop-s.s (omega (arith, steps_most c.args.judge.now.grid.near)) l) c.loop-s.invariant.met
