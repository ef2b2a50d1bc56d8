-- `frontier::growing::absorb`, way out by way out. Assumes nothing.
use Rattle.std.proofs.Common.{◌+◌, ◌-◌, ◌*◌, ap, sym, ◌∙◌, add-one, arith}
use Rattle.std.specs.Prelude.{Some}
use Rattle.base.proofs.Counting.{case}
use Rattle.grid.specs.Planes.{plane}
use Rattle.grid.proofs.Places.{some_inj, none_some}
use Rattle.grid.proofs.Planes.{plane_read}
use Rattle.verdicts.specs.Steps.{area_of}
use Rattle.verdicts.specs.Judging.{large_of}
use Rattle.frontier.proofs.Turns.{step_read}
use Rattle.frontier.proofs.Gains.{gained_none, gained_start, grown_room, gained_one}
use Rattle.frontier.proofs.growing.absorb.Goals as goal

pub returns-in_default : goal.returns-in_default
returns-in_default c =
    gained_none _ _ _ _ c.requires.0 (λ x l z. absurd (none_some (sym c.in_default.is ∙ c.reached.ensures ∙ z.0)))

pub offset_bounds-work-q : goal.offset_bounds-work-q
offset_bounds-work-q c = let seen = step_read c.args.step c.requires.0.sheet (sym c.in-Some.ensures) in omega arith

pub bounds-work-q : goal.bounds-work-q
bounds-work-q c = let seen = step_read c.args.step c.requires.0.sheet (sym c.in-Some.ensures) in omega arith

pub returns-then-other : goal.returns-then-other
returns-then-other c =
    let n = area_of c.args.grid in
    let a = c.args.work.now in
    let q = c.in-Some.q in
    let cell = sym c.in-Some.ensures in
    gained_none _ _ _ _ c.requires.0 (λ x l z y. absurd (c.if-other.true (plane_read n 0 q q a (omega arith) ∙ ap (plane n 0 a) (some_inj (sym cell ∙ z.0)) ∙ z.1)))

pub small_region-requires : goal.small_region-requires
small_region-requires c = let seen = step_read c.args.step c.requires.0.sheet (sym c.in-Some.ensures) in (record { few = seen.few; room = seen.room }, seen.bound)

pub returns-in_default-small_region : goal.returns-in_default-small_region
returns-in_default-small_region c =
    let n = area_of c.args.grid in
    let a = c.args.work.now in
    let cell = sym c.in-Some.ensures in
    gained_start _ _ _ _ c.requires.0
    (λ x l z y. case (large_of n a x) (λ t. t)
    (λ t. absurd (c.in_default-small_region.ensures (plane n 1 a x - 1) (record { place = x; named = some_inj (sym z.0 ∙ cell); bound = l; little = t; label = omega arith }))))

pub set_region-requires-clause-group : goal.set_region-requires-clause-group
set_region-requires-clause-group c = let s = c.in-Some-small_region.ensures in c.requires.0.sheet.groups s.place _ s.bound s.label

pub overflow_cast-work : goal.overflow_cast-work
overflow_cast-work c =
    let s = c.in-Some-small_region.ensures in
    let g = c.requires.0.sheet.groups s.place _ s.bound s.label in
    let seen = step_read c.args.step c.requires.0.sheet (sym c.in-Some.ensures) in
    omega (arith, g.label)

pub bounds-work-n : goal.bounds-work-n
bounds-work-n c =
    let s = c.in-Some-small_region.ensures in
    let room = grown_room c.args.grid c.args.end c.args.work.now c.requires.0 s.place _ s.bound s.label s.little in
    let seen = step_read c.args.step c.requires.0.sheet (sym c.in-Some.ensures) in
    omega (arith, c.set_region.ensures.len)

pub returns : goal.returns
returns c =
    let n = area_of c.args.grid in
    let a = c.args.work.now in
    let q = c.in-Some.q in
    let s = c.in-Some-small_region.ensures in
    let cell = sym c.in-Some.ensures in
    let seen = step_read c.args.step c.requires.0.sheet cell in
    let room = grown_room c.args.grid c.args.end a c.requires.0 s.place _ s.bound s.label s.little in
    let paint = ap (plane n 0 a) s.named ∙ sym (plane_read n 0 q q a (omega arith)) ∙ c.if-other.false in
    rw (add-one c.args.end)
    (gained_one c.args.grid c.args.end a c.requires.0 s.place c.in-Some-small_region.at s.bound s.label s.little c.set_region.new.work c.set_region.ensures
    (7 * n + c.args.end) (omega arith) (omega (arith, c.set_region.ensures.len)) _ (cell ∙ ap Some (sym s.named), paint) (λ x y. some_inj (sym y.0 ∙ cell) ∙ sym s.named))
