-- `orphans::clean_planes`: the planes at the start, the first pass, and the passes after it. Assumes nothing.
use Rattle.std.proofs.Common.{refl, sym, ◌∙◌, arith}
use Rattle.grid.proofs.Places.{area}
use Rattle.verdicts.specs.Judging.{rule_of}
use Rattle.orphans.proofs.Cleaning.{wiped_unfrozen, unfrozen_known, same_size}
use Rattle.orphans.proofs.AtStart.{Labelling, labelling, labelled_groups, labelled-few, passed_still, start_groups, start_unfrozen, at-start}
use Rattle.orphans.proofs.Continuing.{cleaned_none, cleaned_still, cleaned-first, cleaned-more}
use Rattle.orphans.proofs.clean_planes.Goals.{After-label_planes-t}
use Rattle.orphans.proofs.clean_planes.Goals as goal

-- the planes once the regions are labelled
labelled : (c : After-label_planes-t) → Labelling c.args.judge.grid c.args.judge.by c.args.work.now c.label_planes-t.new.work c.label_planes-t.result.regions
labelled c = labelling c.requires.sized c.requires.indexed c.label_planes-t.result c.wipe.ensures c.label_planes-t.ensures.labelled c.label_planes-t.ensures.planes_kept

pub returns : goal.returns
unfolding rule_of
returns c =
    let u = labelled (goal.at.returns c).After-label_planes-t in
    cleaned-more _ _ _ _ refl (start_unfrozen u c.wipe-2.ensures c.mark_large.ensures) c.requires.indexed (omega (arith, c.if-max_passes-eq0.false)) c.first_pass-end.ensures (omega (arith, c.if-end-eq0.false)) c.later_passes-more.ensures.0

pub overflow_mul-n : goal.overflow_mul-n
overflow_mul-n c = omega (arith, area c.args.judge.grid.h c.args.judge.grid.w c.requires.sized.rows c.requires.sized.cols)

pub returns-then-max_passes-eq0 : goal.returns-then-max_passes-eq0
unfolding rule_of
returns-then-max_passes-eq0 c = cleaned_none _ _ _ _ refl c.if-max_passes-eq0.true c.requires.indexed c.wipe.ensures

pub label_planes-t-requires : goal.label_planes-t-requires
label_planes-t-requires c =
    let i = unfrozen_known (wiped_unfrozen c.wipe.ensures) c.requires.indexed in
    record { sized = same_size c.requires.sized c.wipe.ensures.len; by_index = λ p l. omega (arith, i.below p l, i.few) }

pub any_small-requires : goal.any_small-requires
any_small-requires c =
    let u = labelled (goal.at.any_small-requires c).After-label_planes-t in
    let few = area c.args.judge.grid.h c.args.judge.grid.w c.requires.sized.rows c.requires.sized.cols in
    record { planes = record { few = few; room = omega (arith, u.unfrozen.len, c.requires.sized.planes) }; by_index = labelled_groups u }

pub returns-then-not-any_small : goal.returns-then-not-any_small
unfolding rule_of
returns-then-not-any_small c =
    let u = labelled (goal.at.returns-then-not-any_small c).After-label_planes-t in
    cleaned_still _ _ _ _ refl u.unfrozen (omega (arith, c.if-max_passes-eq0.false)) (passed_still u _ (sym c.any_small.ensures ∙ c.if-not-any_small.true))

pub wipe-requires-2 : goal.wipe-requires-2
wipe-requires-2 c =
    let u = labelled (goal.at.wipe-requires-2 c).After-label_planes-t in
    omega (arith, u.unfrozen.len, labelled-few u, c.requires.sized.planes)

pub mark_large-requires : goal.mark_large-requires
mark_large-requires c =
    let u = labelled (goal.at.mark_large-requires c).After-label_planes-t in
    let few = area c.args.judge.grid.h c.args.judge.grid.w c.requires.sized.rows c.requires.sized.cols in
    record { planes = record { few = few; room = omega (arith, c.wipe-2.ensures.len, u.unfrozen.len, c.requires.sized.planes) }; by_index = start_groups u c.wipe-2.ensures }

pub first_pass-end-requires : goal.first_pass-end-requires
first_pass-end-requires c =
    let u = labelled (goal.at.first_pass-end-requires c).After-label_planes-t in
    at-start u c.wipe-2.ensures c.mark_large.ensures

pub returns-then-end-eq0 : goal.returns-then-end-eq0
unfolding rule_of
returns-then-end-eq0 c =
    let u = labelled (goal.at.returns-then-end-eq0 c).After-label_planes-t in
    cleaned-first _ _ _ _ refl (start_unfrozen u c.wipe-2.ensures c.mark_large.ensures) c.requires.indexed (omega (arith, c.if-max_passes-eq0.false)) c.first_pass-end.ensures c.if-end-eq0.true

pub later_passes-more-requires : goal.later_passes-more-requires
later_passes-more-requires c = c.first_pass-end.ensures.next (omega (arith, c.if-end-eq0.false))

pub overflow_add-result : goal.overflow_add-result
overflow_add-result c = omega (arith, c.later_passes-more.ensures.1, c.ranges.max_passes)
