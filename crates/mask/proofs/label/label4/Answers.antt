-- `label4`: rows 1 to 3, then the mask is painted and labelled. Assumes nothing.
use Rattle.std.proofs.Common.{◌≡◌, ◌*◌, Err, refl, sym, ◌∙◌, rules, arith}
use Rattle.base.proofs.Refusing.{some_unless, none_unless, some_answered, none_answered, answered_some, answered_none}
use lib.Seq.{length-take-le}
use Rattle.rules.specs.Masks.{mask_refusal, mask_answer, mask_labels}
use Rattle.refusals.proofs.Rows.{grid_room}
use Rattle.grid.proofs.Places.{neighbours-four}
use Rattle.labels.proofs.Answers.{painted-regions, painted_labels}
use Rattle.mask.proofs.Cells.{front-size, front_small, front_painted}
use Rattle.mask.proofs.label.label4.Goals as goal

pub returns-in_err-grid_refusal-clause-value : goal.returns-in_err-grid_refusal-clause-value
unfolding mask_answer mask_refusal
returns-in_err-grid_refusal-clause-value c =
    let r : c.from_residual.result ≡ Err c.in_err-grid_refusal.field-0.0 = search rules in
    r ∙ some_answered _ (answered_some _ c.in_err-grid_refusal.ensures refl)

pub returns-in_err-grid_refusal-clause-labels_after : goal.returns-in_err-grid_refusal-clause-labels_after
unfolding mask_labels mask_refusal
returns-in_err-grid_refusal-clause-labels_after c = some_unless _ _ (answered_some _ c.in_err-grid_refusal.ensures refl)

pub overflow_mul-n : goal.overflow_mul-n
overflow_mul-n c = omega (arith, (grid_room (answered_none _ c.in_ok-grid_refusal.ensures refl)).0.few)

pub slice_bounds-paint-end : goal.slice_bounds-paint-end
slice_bounds-paint-end c =
    let f = grid_room (answered_none _ c.in_ok-grid_refusal.ensures refl) in
    sym (length-take-le (c.args.h * c.args.w) c.args.mask.now f.0.long)

pub slice_bounds-paint-end-2 : goal.slice_bounds-paint-end-2
slice_bounds-paint-end-2 c =
    let f = grid_room (answered_none _ c.in_ok-grid_refusal.ensures refl) in
    omega (arith, f.0.free)

pub slice_bounds-paint-end-3 : goal.slice_bounds-paint-end-3
slice_bounds-paint-end-3 c =
    let f = grid_room (answered_none _ c.in_ok-grid_refusal.ensures refl) in
    sym (length-take-le (c.args.h * c.args.w) c.args.work.now (omega (arith, f.0.free)))

pub paint-requires : goal.paint-requires
paint-requires c =
    let f = grid_room (answered_none _ c.in_ok-grid_refusal.ensures refl) in
    length-take-le (c.args.h * c.args.w) c.args.mask.now f.0.long ∙ sym (length-take-le (c.args.h * c.args.w) c.args.work.now (omega (arith, f.0.free)))

pub invariant_of-grid : goal.invariant_of-grid
invariant_of-grid c =
    let f = grid_room (answered_none _ c.in_ok-grid_refusal.ensures refl) in
    record { range = (omega (arith, f.0.high), omega (arith, f.0.wide)) }

pub label_into-requires : goal.label_into-requires
label_into-requires c =
    let a = c.args in
    let f = grid_room (answered_none _ c.in_ok-grid_refusal.ensures refl) in
    let size = front-size a.mask.now a.work.now _ (a.h * a.w) f.0.long c.paint.ensures (omega (arith, f.0.free)) in
    record {
      sized = (record { rows = omega (arith, f.0.high); cols = omega (arith, f.0.wide); planes = omega (arith, f.0.free, size) }, f.1);
      by_index = front_small a.mask.now a.work.now _ (a.h * a.w) f.0.long c.paint.ensures;
    }

pub returns : goal.returns
unfolding mask_answer mask_labels mask_refusal
returns c =
    let a = c.args in
    let z = answered_none _ c.in_ok-grid_refusal.ensures refl in
    let s = front_painted a.mask.now a.work.now _ (a.h * a.w) (grid_room z).0.long c.paint.ensures in
    record {
      value = none_answered _ z (c.label_into.ensures.value ∙ painted-regions s (neighbours-four a.w));
      labels_after = none_unless _ _ z (c.label_into.ensures.labels_after ∙ painted_labels s (neighbours-four a.w) _);
    }
