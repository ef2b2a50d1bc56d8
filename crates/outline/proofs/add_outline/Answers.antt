-- The rows in their order, then the outline. Assumes nothing.
use mathlib.Core.Path.{◌≡◌, refl, sym, ap, ◌∙◌}
use mathlib.Core.Bool.{Bool, true, false, ◌&&◌}
use mathlib.Core.List.{List, []}
use Rattle.std.specs.Prelude.{None, Some, Result, Ok, Err}
use Rattle.std.proofs.Common.{rules}
use lib.ListN.{length}
use Rattle.base.specs.declared.Refusal.{Refusal}
use Rattle.base.specs.declared.Refusal.TheVariants.{NoEntries}
use Rattle.base.specs.Refusals.{Row, refusal, answered}
use Rattle.base.proofs.Refusing.{row_hit, row_last, rows_hit, rows_pass, answered_some, answered_none}
use Rattle.rules.specs.Sheet.{Sheet, lent_sheet, sheet_in, needed}
use Rattle.rules.specs.Palette.{palette_of}
use Rattle.rules.specs.Outline.{touches, pads, canvas}
use Rattle.rules.specs.Rows.{sheet_rows, palette_rows, no_entry}
use Rattle.rules.specs.Calls.{OutlineCall}
use Rattle.rules.specs.Entries.{lent_rows, bad_outline, outline_refusal}
use Rattle.refusals.specs.Room.{SheetFits, Usable}
use Rattle.refusals.proofs.Rows.{sheet_room, palette_room}
use Rattle.outline.specs.Room.{present}
use Rattle.outline.proofs.Refusing.{padded_rows, padded-is, seated, pad_touches}
use Rattle.outline.proofs.Drawn.{met_refused, met_drawn}
use Rattle.outline.proofs.add_outline.Goals.{In_ok-palette_refusal}
use Rattle.outline.proofs.add_outline.Goals as goal

module _ (call : OutlineCall) where
  abbrev came : Sheet
  came = sheet_in call.lent

  abbrev pads_it : Bool
  pads_it = pads call.how came

  module _ {padded : Bool} (is : padded ≡ (present call.lent.height call.lent.width (length call.lent.cells) && pads_it)) where
    -- rows 1 to 3 refuse, or not
    abbrev Sheet_rows : List Row
    Sheet_rows = sheet_rows call.lent.height call.lent.width (needed call.lent.height call.lent.width padded) (length call.lent.cells) call.lent.work

    by_sheet : {n : Refusal} → ◌≡◌ {A = Result (Unit {0}) Refusal} (Err n) (answered (refusal Sheet_rows) tt) → outline_refusal call ≡ Some n
    unfolding outline_refusal
    by_sheet e =
        rows_hit _ _ (sym (padded_rows call.how call.lent.cells call.lent.height call.lent.width call.lent.work is) ∙ answered_some (tt {0}) e refl)

    module _ (first : ◌≡◌ {A = Result (Unit {0}) Refusal} (Ok tt) (answered (refusal Sheet_rows) tt)) where
      sheet_passes : refusal (lent_rows call.lent pads_it) ≡ None
      sheet_passes = sym (padded_rows call.how call.lent.cells call.lent.height call.lent.width call.lent.work is) ∙ answered_none (tt {0}) first refl

      padding-is : padded ≡ pads_it
      padding-is = padded-is call.how call.lent.cells call.lent.height call.lent.width call.lent.work is sheet_passes

      module _ {bad : Bool} (told : bad ≡ bad_outline call.how.outline) where
        -- rows 4 to 6
        by_palette : {n : Refusal} → ◌≡◌ {A = Result (Unit {0}) Refusal} (Err n) (answered (refusal (palette_rows call.palette bad)) tt) → outline_refusal call ≡ Some n
        unfolding outline_refusal
        by_palette e =
            rows_pass _ _ sheet_passes
            ∙ rows_hit _ _ (ap (λ (b : Bool). refusal (palette_rows call.palette b)) (sym told) ∙ answered_some (tt {0}) e refl)

        module _ (second : ◌≡◌ {A = Result (Unit {0}) Refusal} (Ok tt) (answered (refusal (palette_rows call.palette bad)) tt)) where
          palette_passes : refusal (palette_rows call.palette (bad_outline call.how.outline)) ≡ None
          palette_passes = ap (λ (b : Bool). refusal (palette_rows call.palette b)) (sym told) ∙ answered_none (tt {0}) second refl

          room : SheetFits call.lent.height call.lent.width (needed call.lent.height call.lent.width pads_it) (length call.lent.cells) call.lent.work
          room = (sheet_room _ sheet_passes).0

          usable : Usable call.palette (bad_outline call.how.outline)
          usable = (palette_room _ palette_passes).0

          touched : padded ≡ true → touches came ≡ true
          touched y = pad_touches call.how came (sym padding-is ∙ y)

          -- row 8
          module _ {r : Bool} (e : r ≡ (no_entry call.how (palette_of [] call.palette.count) (canvas padded came)).applies) where
            eighth : r ≡ (no_entry call.how call.palette (canvas pads_it came)).applies
            unfolding no_entry
            eighth = e ∙ ap (λ (b : Bool). (no_entry call.how call.palette (canvas b came)).applies) padding-is

            by_entry : r ≡ true → outline_refusal call ≡ Some NoEntries
            unfolding outline_refusal no_entry
            by_entry y = rows_pass _ _ sheet_passes ∙ rows_pass _ _ palette_passes ∙ row_hit _ _ (sym eighth ∙ y)

            accepted : r ≡ false → outline_refusal call ≡ None
            unfolding outline_refusal
            accepted z = rows_pass _ _ sheet_passes ∙ rows_pass _ _ palette_passes ∙ row_last _ (sym eighth ∙ z)

pub returns-in_err-sheet_refusal : goal.returns-in_err-sheet_refusal
returns-in_err-sheet_refusal c =
    let r : c.from_residual.result ≡ Err c.in_err-sheet_refusal.field-0.0 = search rules in
    rw r (met_refused _ _ (by_sheet _ c.padding-padding.ensures c.in_err-sheet_refusal.ensures))

pub returns-in_err-palette_refusal : goal.returns-in_err-palette_refusal
returns-in_err-palette_refusal c =
    let r : c.from_residual-in_err-palette_refusal.result ≡ Err c.in_err-palette_refusal.field-0.0 = search rules in
    rw r (met_refused _ _ (by_palette _ c.padding-padding.ensures c.in_ok-sheet_refusal.ensures c.bad_outline.ensures c.in_err-palette_refusal.ensures))

pub returns-then-no_entry : goal.returns-then-no_entry
returns-then-no_entry c =
    met_refused _ _
    (by_entry _ c.padding-padding.ensures c.in_ok-sheet_refusal.ensures c.bad_outline.ensures c.in_ok-palette_refusal.ensures c.no_entry.ensures c.if-no_entry.true)

pub returns : goal.returns
returns c =
    met_drawn _
    (accepted _ c.padding-padding.ensures c.in_ok-sheet_refusal.ensures c.bad_outline.ensures c.in_ok-palette_refusal.ensures c.no_entry.ensures c.if-no_entry.false)
    c.outline_sheet.ensures

-- the call that the arguments make
abbrev called : In_ok-palette_refusal → OutlineCall
called c =
    let a = c.args in
    record {
      lent = lent_sheet a.cells.now a.h a.w (length a.work.now);
      palette = palette_of a.palette.now a.k;
      how = record { outline = a.outline; allow_pad = a.allow_pad; fixed_palette = a.fixed_palette };
    }

pub invariant_of-on : goal.invariant_of-on
invariant_of-on c =
    record { present = seated _ c.args.cells.now (room (called (goal.at.invariant_of-on c).In_ok-palette_refusal) c.padding-padding.ensures c.in_ok-sheet_refusal.ensures c.bad_outline.ensures c.in_ok-palette_refusal.ensures) }

pub no_entry-requires : goal.no_entry-requires
no_entry-requires c =
    touched (called (goal.at.no_entry-requires c).In_ok-palette_refusal) c.padding-padding.ensures c.in_ok-sheet_refusal.ensures c.bad_outline.ensures c.in_ok-palette_refusal.ensures

pub outline_sheet-requires : goal.outline_sheet-requires
outline_sheet-requires c =
    let x = called (goal.at.outline_sheet-requires c).In_ok-palette_refusal in
    let u = usable x c.padding-padding.ensures c.in_ok-sheet_refusal.ensures c.bad_outline.ensures c.in_ok-palette_refusal.ensures in
    record {
      room = room x c.padding-padding.ensures c.in_ok-sheet_refusal.ensures c.bad_outline.ensures c.in_ok-palette_refusal.ensures;
      palette_len = (u.whole, u.few);
    }
