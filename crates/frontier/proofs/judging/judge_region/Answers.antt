-- `frontier::judging::judge_region`, way out by way out. Assumes nothing.
use Rattle.std.proofs.Common.{◌≡◌, ◌+◌, ◌*◌, ap, sym, ◌∙◌, add-one, length-set, arith}
use Rattle.verdicts.specs.Steps.{area_of}
use Rattle.verdicts.specs.Targets.{as_number}
use Rattle.verdicts.proofs.Keeping.{sheet-few, group-alike}
use Rattle.frontier.proofs.Stages.{stage_room}
use Rattle.frontier.proofs.Notes.{noted_still, six_alike, noted_froze, noted_logged, noted_room}
use Rattle.frontier.proofs.judging.judge_region.Goals as goal

pub returns-in-Stays : goal.returns-in-Stays
unfolding as_number
returns-in-Stays c = noted_still _ _ c.args.at _ _ _ c.requires.group.label (stage_room c.requires.stage c.requires.group).0 (rw c.in-Stays.is at c.verdict-verdict.ensures)

pub returns-in-Frozen : goal.returns-in-Frozen
unfolding as_number
returns-in-Frozen c =
    let n = area_of c.args.judge.now.grid in
    let frozen : as_number c.verdict-verdict.result ≡ c.as_number.result = ap as_number c.in-Frozen.is ∙ sym c.as_number.ensures in
    let u = rw frozen at c.verdict-verdict.ensures in
    noted_froze _ n c.args.at c.args.end _ _ c.requires.group.label (stage_room c.requires.stage c.requires.group).0 _ u (λ z. let o : c.as_number.result ≡ 1 = c.as_number.ensures in omega arith)
    (6 * n + c.args.at) (omega arith) (omega (arith, c.verdict-verdict.ensures.kept.len, c.requires.group.label)) c.as_number.ensures _ c.set_region.ensures

pub returns-in-Takes : goal.returns-in-Takes
unfolding as_number
returns-in-Takes c =
    let n = area_of c.args.judge.now.grid in
    let v : c.as_number-in-Takes.result ≡ c.in-Takes.field-0 + 2 = c.as_number-in-Takes.ensures ∙ ap as_number c.in-Takes.is in
    let u = rw (← c.as_number-in-Takes.ensures) at c.verdict-verdict.ensures in
    let some : c.as_number-in-Takes.result ≡ 0 → ⊥ = (λ z. omega arith) in
    let room = noted_room c.requires.stage c.requires.group u some in
    rw (add-one c.args.end)
    (noted_logged _ n c.args.at c.args.end _ _ c.requires.group.label (stage_room c.requires.stage c.requires.group).0 _ u some
    (6 * n + c.args.at) (omega arith) (omega (arith, c.verdict-verdict.ensures.kept.len, c.requires.group.label)) (λ z. omega arith) room
    (7 * n + c.args.end) (omega arith) (simp length-set (omega (arith, c.verdict-verdict.ensures.kept.len))))

pub set_region-requires-clause-group : goal.set_region-requires-clause-group
unfolding as_number
set_region-requires-clause-group c =
    let n = area_of c.args.judge.now.grid in
    let few = sheet-few c.requires.stage.sheet in
    let frozen : as_number c.verdict-verdict.result ≡ c.as_number.result = ap as_number c.in-Frozen.is ∙ sym c.as_number.ensures in
    let u = rw frozen at c.verdict-verdict.ensures in
    group-alike (six_alike _ n c.args.at c.args.end _ _ c.requires.group.label (stage_room c.requires.stage c.requires.group).0 _ u (λ z. let o : c.as_number.result ≡ 1 = c.as_number.ensures in omega arith)
    (6 * n + c.args.at) (omega arith) (omega (arith, c.verdict-verdict.ensures.kept.len, c.requires.group.label))) c.args.at c.requires.group

pub bounds-work-n-in-Takes-2 : goal.bounds-work-n-in-Takes-2
unfolding as_number
bounds-work-n-in-Takes-2 c =
    let v : c.as_number-in-Takes.result ≡ c.in-Takes.field-0 + 2 = c.as_number-in-Takes.ensures ∙ ap as_number c.in-Takes.is in
    let u = rw (← c.as_number-in-Takes.ensures) at c.verdict-verdict.ensures in
    let room = noted_room c.requires.stage c.requires.group u (λ z. omega arith) in
    simp length-set (omega (arith, c.verdict-verdict.ensures.kept.len))
