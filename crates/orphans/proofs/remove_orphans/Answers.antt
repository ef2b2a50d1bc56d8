-- `orphans::remove_orphans`: rows 1 to 3, rows 4 to 6, row 7, then the sheet is cleaned. Assumes nothing.
use mir.Facts.{to_z-of_z}
use Rattle.std.proofs.Common.{◌≡◌, [], refl, sym, ◌∙◌, rules, arith}
use Rattle.std.specs.Prelude.{Err}
use Rattle.base.proofs.Refusing.{answered_some, answered_none}
use Rattle.rules.specs.Sheet.{needed}
use Rattle.rules.specs.Entries.{bad_limits}
use Rattle.refusals.proofs.Rows.{sheet_room, palette_room}
use Rattle.orphans.proofs.Refusing.{met_refused, met_cleaned, by_sheet, by_palette, by_index, accepted, fits}
use Rattle.orphans.proofs.remove_orphans.Goals as goal

pub returns : goal.returns
unfolding bad_limits
returns c =
    let one = answered_none (tt {0}) c.in_ok-sheet_refusal.ensures refl in
    let two = answered_none (tt {0}) c.in_ok-palette_refusal.ensures refl in
    let index = rw (to_z-of_z c.ranges.orphan_min_region) at c.bad_index.ensures in
    met_cleaned _ (accepted _ one c.bad_limits.ensures two (sym index ∙ c.if-bad_index.false)) _ _
    (rw (to_z-of_z c.ranges.orphan_min_region) at c.clean_sheet.ensures.value) (rw (to_z-of_z c.ranges.orphan_min_region) at c.clean_sheet.ensures.cells_after)

pub returns-in_err-sheet_refusal : goal.returns-in_err-sheet_refusal
returns-in_err-sheet_refusal c =
    let r : c.from_residual.result ≡ Err c.in_err-sheet_refusal.field-0.0 = search rules in
    rw r (met_refused _ _ (by_sheet _ (answered_some (tt {0}) c.in_err-sheet_refusal.ensures refl)))

pub returns-in_err-palette_refusal : goal.returns-in_err-palette_refusal
unfolding bad_limits
returns-in_err-palette_refusal c =
    let one = answered_none (tt {0}) c.in_ok-sheet_refusal.ensures refl in
    let r : c.from_residual-in_err-palette_refusal.result ≡ Err c.in_err-palette_refusal.field-0.0 = search rules in
    rw r (met_refused _ _ (by_palette _ one c.bad_limits.ensures (answered_some (tt {0}) c.in_err-palette_refusal.ensures refl)))

pub overflow_mul-h : goal.overflow_mul-h
overflow_mul-h c =
    let room = (sheet_room [] (answered_none (tt {0}) c.in_ok-sheet_refusal.ensures refl)).0 in
    omega (arith, room.few)

pub bad_index-requires : goal.bad_index-requires
unfolding needed
bad_index-requires c =
    let room = (sheet_room [] (answered_none (tt {0}) c.in_ok-sheet_refusal.ensures refl)).0 in
    ((palette_room [] (answered_none (tt {0}) c.in_ok-palette_refusal.ensures refl)).0.few, room.long)

pub returns-then-bad_index : goal.returns-then-bad_index
unfolding bad_limits
returns-then-bad_index c =
    let one = answered_none (tt {0}) c.in_ok-sheet_refusal.ensures refl in
    let two = answered_none (tt {0}) c.in_ok-palette_refusal.ensures refl in
    let index = rw (to_z-of_z c.ranges.orphan_min_region) at c.bad_index.ensures in
    met_refused _ _ (by_index _ one c.bad_limits.ensures two (sym index ∙ c.if-bad_index.true))

pub clean_sheet-requires : goal.clean_sheet-requires
unfolding bad_limits
clean_sheet-requires c =
    let one = answered_none (tt {0}) c.in_ok-sheet_refusal.ensures refl in
    let two = answered_none (tt {0}) c.in_ok-palette_refusal.ensures refl in
    let index = rw (to_z-of_z c.ranges.orphan_min_region) at c.bad_index.ensures in
    rw (to_z-of_z c.ranges.orphan_min_region) (fits _ one c.bad_limits.ensures two (sym index ∙ c.if-bad_index.false))
