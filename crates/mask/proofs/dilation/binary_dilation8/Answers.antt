-- `binary_dilation8`: rows 1 to 3, row 6, then the mask is dilated. Assumes nothing.
use Rattle.std.proofs.Common.{◌≡◌, Err, refl, ◌∙◌, rules, arith}
use Rattle.base.proofs.Refusing.{some_unless, none_unless, some_answered, none_answered, answered_some, answered_none}
use Rattle.rules.specs.Masks.{dilation_answer, dilation_out}
use Rattle.refusals.proofs.Rows.{grid_room}
use Rattle.mask.proofs.Answers.{filled_nothing, reach-small, sizes_refused, iterations_refused, none_refused}
use Rattle.mask.proofs.dilation.binary_dilation8.Goals as goal

pub returns-in_err-grid_refusal-clause-value : goal.returns-in_err-grid_refusal-clause-value
unfolding dilation_answer
returns-in_err-grid_refusal-clause-value c =
    let r : c.from_residual.result ≡ Err c.in_err-grid_refusal.field-0.0 = search rules in
    r ∙ some_answered _ (sizes_refused _ _ _ _ _ _ (answered_some _ c.in_err-grid_refusal.ensures refl))

pub returns-in_err-grid_refusal-clause-out_after : goal.returns-in_err-grid_refusal-clause-out_after
unfolding dilation_out
returns-in_err-grid_refusal-clause-out_after c = some_unless _ _ (sizes_refused _ _ _ _ _ _ (answered_some _ c.in_err-grid_refusal.ensures refl))

pub returns-then-iterations-gt-MOST_ITERATIONS : goal.returns-then-iterations-gt-MOST_ITERATIONS
unfolding dilation_answer dilation_out
returns-then-iterations-gt-MOST_ITERATIONS c =
    let e = iterations_refused _ _ _ _ _ _ (answered_none _ c.in_ok-grid_refusal.ensures refl) c.if-iterations-gt-MOST_ITERATIONS.true in
    record { value = some_answered _ e; out_after = some_unless _ _ e }

pub overflow_mul-h : goal.overflow_mul-h
overflow_mul-h c = omega (arith, (grid_room (answered_none _ c.in_ok-grid_refusal.ensures refl)).0.few)

pub dilate-requires : goal.dilate-requires
dilate-requires c =
    let a = c.args in
    let f = grid_room (answered_none _ c.in_ok-grid_refusal.ensures refl) in
    let r = reach-small a.h a.w a.iterations f.0.high f.0.wide c.if-iterations-gt-MOST_ITERATIONS.false in
    record { h_bound = (f.0.high, f.0.wide, c.if-h-w-gt0.true, omega (arith, r, c.reach-k.ensures)); w_in_bounds = (f.0.long, f.1, f.0.free) }

pub returns-then-h-w-gt0 : goal.returns-then-h-w-gt0
unfolding dilation_answer dilation_out
returns-then-h-w-gt0 c =
    let e = none_refused _ _ _ _ _ _ (answered_none _ c.in_ok-grid_refusal.ensures refl) c.if-iterations-gt-MOST_ITERATIONS.false in
    record { value = none_answered _ e refl; out_after = none_unless _ _ e (rw c.reach-k.ensures at c.dilate.ensures) }

pub returns-else-h-w-gt0 : goal.returns-else-h-w-gt0
unfolding dilation_answer dilation_out
returns-else-h-w-gt0 c =
    let e = none_refused _ _ _ _ _ _ (answered_none _ c.in_ok-grid_refusal.ensures refl) c.if-iterations-gt-MOST_ITERATIONS.false in
    record { value = none_answered _ e refl; out_after = none_unless _ _ e (filled_nothing _ _ _ c.if-h-w-gt0.false) }
