-- `Grid::neighbour` is `step_to`: what the step finds along the rows, then along the columns. Assumes nothing.
use Rattle.std.proofs.Common.{◌≡◌, ℕ, ℤ, Option, sym, ◌∙◌, refl, arith, rules}
use lib.IntN.{pos, ◌+ℤ◌}
use mir.Syntax.{w32}
use mir.Val.{SFits, of_z, to_z}
use mir.Facts.{to_z-of_z}
use Rattle.rules.specs.Grid.{on_side, place_of, step_to}
use Rattle.grid.proofs.Places.{both_in}
use Rattle.grid.proofs.Grid.neighbour.Goals as goal

-- what a step of d finds along a side; the machine reads d back from its bits
found : (len a : ℕ) {d : ℤ} {o r : Option ℕ} → SFits w32 d → o ≡ on_side len (pos a +ℤ to_z w32 (of_z w32 d)) → o ≡ r → on_side len (pos a +ℤ d) ≡ r
found len a f e is = sym (rw (to_z-of_z f) at e) ∙ is

pub returns-in_err-row : goal.returns-in_err-row
unfolding step_to place_of
returns-in_err-row c = rw (found c.args.self.h c.args.y c.ranges.dy c.along.ensures c.in_err-row.was) (search rules)

pub returns-in_err-col : goal.returns-in_err-col
unfolding step_to place_of
returns-in_err-col c =
    let a = c.args in
    rw (found a.self.h a.y c.ranges.dy c.along.ensures c.in_ok-row.was, found a.self.w a.x c.ranges.dx c.along-2.ensures c.in_err-col.was) (search rules)

pub overflow_mul-result : goal.overflow_mul-result
overflow_mul-result c =
    let a = c.args in
    omega (arith, both_in _ _ a.y a.x (to_z w32 (of_z w32 a.dy)) (to_z w32 (of_z w32 a.dx)) a.self.range.0 a.self.range.1 (sym c.along.ensures ∙ c.in_ok-row.was) (sym c.along-2.ensures ∙ c.in_ok-col.was))

pub overflow_add-result : goal.overflow_add-result
overflow_add-result c =
    let a = c.args in
    omega (arith, both_in _ _ a.y a.x (to_z w32 (of_z w32 a.dy)) (to_z w32 (of_z w32 a.dx)) a.self.range.0 a.self.range.1 (sym c.along.ensures ∙ c.in_ok-row.was) (sym c.along-2.ensures ∙ c.in_ok-col.was))

pub returns : goal.returns
unfolding step_to place_of
returns c =
    let a = c.args in
    rw (found a.self.h a.y c.ranges.dy c.along.ensures c.in_ok-row.was, found a.self.w a.x c.ranges.dx c.along-2.ensures c.in_ok-col.was) refl
