-- `fix_jaggies`: rows 1 to 3, then the sheet is trimmed. Assumes nothing.
use Rattle.std.proofs.Common.{refl, ◌∙◌, ◌≡◌, rules, []}
use Rattle.std.specs.Prelude.{Err}
use Rattle.base.proofs.Refusing.{some_unless, none_unless, some_answered, none_answered, answered_some, answered_none}
use Rattle.rules.specs.Sheet.{needed}
use Rattle.rules.specs.Entries.{jaggies_refusal, jaggies_answer, jaggies_cells}
use Rattle.refusals.proofs.Rows.{sheet_room}
use Rattle.jaggies.proofs.fix_jaggies.Goals as goal

pub returns-in_err-sheet_refusal : goal.returns-in_err-sheet_refusal
unfolding jaggies_refusal jaggies_answer jaggies_cells needed
returns-in_err-sheet_refusal c =
    let r : c.from_residual.result ≡ Err c.in_err-sheet_refusal.field-0.0 = search rules in
    let e = answered_some _ c.in_err-sheet_refusal.ensures refl in
    (r ∙ some_answered _ e, some_unless _ _ e)

pub trim_sheet-requires : goal.trim_sheet-requires
unfolding needed
trim_sheet-requires c =
    let r = (sheet_room [] (answered_none _ c.in_ok-sheet_refusal.ensures refl)).0 in (r.high, r.wide, r.long, r.free)

pub returns : goal.returns
unfolding jaggies_refusal jaggies_answer jaggies_cells needed
returns c =
    let e = answered_none _ c.in_ok-sheet_refusal.ensures refl in
    (none_answered _ e refl, none_unless _ _ e c.trim_sheet.ensures)
