-- `run`: a call that a row refuses, and the steps of one that none does, each from what the steps before it ensured. Assumes nothing.
use mathlib.Core.Path.{◌≡◌, refl}
use Rattle.std.specs.Prelude.{Option, None, Ok, Err}
use Rattle.std.proofs.Common.{rules, to_z-of_z, w32}
use Rattle.base.specs.declared.Refusal.{Refusal}
use Rattle.base.specs.Refusals.{answered}
use Rattle.base.proofs.Refusing.{answered_some, answered_none}
use Rattle.postprocess.proofs.Chain.{met_refused, in_doubles, first_fit, trim_room, line_room, line_palette, second_fit, met_processed}
use Rattle.postprocess.proofs.run.Goals as goal

-- no row refuses
accepted : {o : Option Refusal} → Ok (tt {0}) ≡ answered o tt → o ≡ None
accepted e = answered_none (tt {0}) e refl

pub returns-in_err-run_refusal : goal.returns-in_err-run_refusal
returns-in_err-run_refusal c =
    let r : c.from_residual.result ≡ Err c.in_err-run_refusal.field-0.0 = search rules in
    let m = to_z-of_z {w = w32} c.ranges.outline_margin in
    rw r (met_refused _ _ (answered_some (tt {0}) (rw m at c.in_err-run_refusal.ensures) refl))

pub returns : goal.returns
returns c =
    let m = to_z-of_z {w = w32} c.ranges.outline_margin in
    let again = c.clean_again-again.ensures in
    rw m at (met_processed _ (accepted c.in_ok-run_refusal.ensures) c.kept.ensures c.tone_unless.ensures c.clean_if-passes.ensures.cells_after c.trim_if.ensures c.drawing-how.ensures c.outline_if-facts.ensures
    c.clean_if-passes.ensures.value again.value again.cells_after)

pub tone_unless-requires : goal.tone_unless-requires
tone_unless-requires c = in_doubles _ (accepted c.in_ok-run_refusal.ensures)

pub clean_if-passes-requires : goal.clean_if-passes-requires
clean_if-passes-requires c = first_fit _ (accepted c.in_ok-run_refusal.ensures) c.kept.ensures c.tone_unless.ensures

pub trim_if-requires : goal.trim_if-requires
trim_if-requires c =
    trim_room _ (accepted c.in_ok-run_refusal.ensures) c.kept.ensures c.tone_unless.ensures c.clean_if-passes.ensures.cells_after (search rules)

pub outline_if-facts-requires : goal.outline_if-facts-requires
outline_if-facts-requires c =
    let ok = accepted c.in_ok-run_refusal.ensures in
    record {
      room = line_room _ ok c.kept.ensures c.tone_unless.ensures c.clean_if-passes.ensures.cells_after c.trim_if.ensures c.drawing-how.ensures (search rules);
      palette_len = line_palette _ ok c.kept.ensures c.tone_unless.ensures c.clean_if-passes.ensures.cells_after c.trim_if.ensures c.drawing-how.ensures;
    }

pub clean_again-again-requires : goal.clean_again-again-requires
clean_again-again-requires c =
    second_fit _ (accepted c.in_ok-run_refusal.ensures) c.kept.ensures c.tone_unless.ensures c.clean_if-passes.ensures.cells_after c.trim_if.ensures c.drawing-how.ensures c.outline_if-facts.ensures (search rules)
