-- `visit`: one step. Assumes nothing.
use Rattle.std.proofs.Common.{◌≡◌, ℕ, ◌+◌, ◌-◌, ◌*◌, ◌/◌, ◌%◌, ◌<◌, ◌≤◌, Some, List, sym, ◌∙◌, subst, arith}
use lib.Dec.{eqb}
use Rattle.base.proofs.Counting.{count_some, yes_eqb}
use Rattle.rules.specs.Grid.{step_to}
use Rattle.grid.specs.declared.Grid.{Grid}
use Rattle.grid.specs.declared.Move.{Move}
use Rattle.grid.specs.Planes.{plane}
use Rattle.grid.proofs.Places.{area, step_sound, some_inj, none_some}
use Rattle.grid.proofs.Planes.{plane_read}
use Rattle.labels.specs.Filling.{seen, blanks, Visited}
use Rattle.labels.proofs.Seen.{seen-joined, Fresh, code_kept, code-fresh, coded_joined}
use Rattle.labels.proofs.label.visit.Goals as goal

-- what a step finds is on the grid
on_grid : (g : Grid) (m : Move) {q : ℕ} → step_to g.h g.w (m.p / g.w) (m.p % g.w) m.dy m.dx ≡ Some q → (q < g.h * g.w) × (g.h * g.w ≤ 264196)
on_grid g m is = ((step_sound _ _ _ _ _ _ _ is).inside, area g.h g.w g.range.0 g.range.1)

-- a cell without a label leaves room in the order
left : (n q taken : ℕ) (work : List ℕ) → taken + blanks n work ≤ n → q < n → plane n 1 work q ≡ 0 → taken < n
unfolding blanks
left n q taken work l on free = omega (arith, count_some n (λ p. eqb (plane n 1 work p) 0) q on (yes_eqb free))

pub returns-in_default-clause-visited : goal.returns-in_default-clause-visited
returns-in_default-clause-visited c =
    Visited.kept (λ q f same free. none_some (sym c.in_default.is ∙ c.reached.ensures ∙ f))

pub overflow_add-n : goal.overflow_add-n
overflow_add-n c = omega (arith, on_grid c.args.g c.args.m (sym c.reached.ensures ∙ c.in-Some.is))

pub offset_bounds-work-n : goal.offset_bounds-work-n
offset_bounds-work-n c = omega (arith, on_grid c.args.g c.args.m (sym c.reached.ensures ∙ c.in-Some.is))

pub bounds-work-n : goal.bounds-work-n
bounds-work-n c = omega (arith, c.requires.p_bound.1, on_grid c.args.g c.args.m (sym c.reached.ensures ∙ c.in-Some.is))

pub returns-then-work-n-clause-visited : goal.returns-then-work-n-clause-visited
returns-then-work-n-clause-visited c =
    let a = c.args in
    let n = a.g.h * a.g.w in
    let at = sym c.reached.ensures ∙ c.in-Some.is in
    Visited.kept (λ r f same free.
    let is : r ≡ c.in-Some.q = some_inj (sym f ∙ at) in
    code_kept c.requires.coded a.code.beyond r (omega (arith, on_grid a.g a.m at)) (λ z. c.if-work-n.true (plane_read n 1 r (n + c.in-Some.q) a.work.now (omega arith) ∙ z)) same free)

pub overflow_cast-work : goal.overflow_cast-work
overflow_cast-work c = omega (arith, on_grid c.args.g c.args.m (sym c.reached.ensures ∙ c.in-Some.is))

pub returns : goal.returns
returns c =
    let a = c.args in
    let n = a.g.h * a.g.w in
    let q = c.in-Some.q in
    let w = a.work.now in
    let t = a.t in
    let b = c.requires.work_bound in
    let at = sym c.reached.ensures ∙ c.in-Some.is in
    let on = (on_grid a.g a.m at).0 in
    let f : Fresh n w a.code.word q = code-fresh c.requires.coded a.code.beyond q on (sym (plane_read n 1 q (n + q) w (omega arith)) ∙ c.if-work-n.false) in
    let l = left n q t.taken (seen n w) b.0 on f.free in
    record {
      visited =
          subst (λ (l : List ℕ). Visited n (step_to a.g.h a.g.w (a.m.p / a.g.w) (a.m.p % a.g.w) a.m.dy a.m.dx) (a.code.word - 264196) (seen n w) t l (record { regions = t.regions; taken = t.taken + 1 }))
          (sym (seen-joined n q t.regions t.taken w on l b.2 c.requires.p_bound.1)) (Visited.took q at f.paint f.free);
      coded_2 = coded_joined c.requires.coded q t.regions t.taken on l b.1 b.2 c.requires.p_bound.1;
    }
