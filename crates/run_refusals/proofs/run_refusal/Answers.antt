-- Rows 1 to 3, rows 4 to 6, and the two that read the cells. Assumes nothing.
use Prim.Native.Nat.{◌≤◌}
use mathlib.Core.Path.{◌≡◌, refl, sym, ap, ◌∙◌}
use mathlib.Core.Bool.{Bool, true, false, ◌&&◌, ◌||◌}
use mathlib.Core.List.{List, [], ◌∷◌}
use Rattle.std.specs.Prelude.{None, Some, Result, Ok, Err}
use Rattle.std.proofs.Common.{rules}
use lib.ListN.{length}
use Rattle.base.specs.declared.Refusal.{Refusal}
use Rattle.base.specs.declared.Refusal.TheVariants.{NoSuchEntry, NoEntries}
use Rattle.base.specs.Refusals.{Row, refusal, answered}
use Rattle.base.proofs.Refusing.{row_hit, row-pass, row_last, rows_hit, rows_pass, some_answered, none_answered, answered_some, answered_none}
use Rattle.rules.specs.declared.Drawing.{Drawing}
use Rattle.rules.specs.Sheet.{lent_sheet, sheet_in, needed}
use Rattle.rules.specs.Palette.{palette_of}
use Rattle.rules.specs.Outline.{touches, pads, canvas}
use Rattle.rules.specs.Calls.{RunCall}
use Rattle.rules.specs.Run.{pad_allowed, drawing_of}
use Rattle.rules.specs.Rows.{sheet_rows, palette_rows, bad_index, no_entry}
use Rattle.rules.specs.Entries.{lent_rows, bad_config, run_refusal}
use Rattle.refusals.specs.Room.{SheetFits}
use Rattle.refusals.proofs.Rows.{sheet_room, palette_room}
use Rattle.outline.specs.Room.{present}
use Rattle.outline.proofs.Refusing.{padded_rows, padded-is, seated, pad_touches}
use Rattle.run_refusals.proofs.Refusing.{padding}
use Rattle.run_refusals.proofs.run_refusal.Goals.{In_ok-settings_refusal}
use Rattle.run_refusals.proofs.run_refusal.Goals as goal

module _ (k : RunCall) {how : Drawing} (drawn : how ≡ record { outline = k.config.outline; allow_pad = pad_allowed k.config k.margin; fixed_palette = k.fixed }) where
  -- how its outline is drawn
  as_drawn : how ≡ drawing_of k
  unfolding drawing_of
  as_drawn = drawn

  -- ---- rows 1 to 3
  module _ {padded : Bool} (is : padded ≡ (present k.lent.height k.lent.width (length k.lent.cells) && pads how (sheet_in k.lent))) where
    as_padded : padded ≡ (present k.lent.height k.lent.width (length k.lent.cells) && padding k)
    as_padded = is ∙ ap (λ (d : Drawing). present k.lent.height k.lent.width (length k.lent.cells) && pads d (sheet_in k.lent)) as_drawn

    abbrev Sheet_rows : List Row
    Sheet_rows = sheet_rows k.lent.height k.lent.width (needed k.lent.height k.lent.width padded) (length k.lent.cells) k.lent.work

    by_sheet : {n : Refusal} → ◌≡◌ {A = Result (Unit {0}) Refusal} (Err n) (answered (refusal Sheet_rows) tt) → run_refusal k ≡ Some n
    unfolding run_refusal
    by_sheet e =
        rows_hit _ _ (sym (padded_rows (drawing_of k) k.lent.cells k.lent.height k.lent.width k.lent.work as_padded) ∙ answered_some (tt {0}) e refl)

    module _ (first : ◌≡◌ {A = Result (Unit {0}) Refusal} (Ok tt) (answered (refusal Sheet_rows) tt)) where
      sheet_passes : refusal (lent_rows k.lent (padding k)) ≡ None
      sheet_passes = sym (padded_rows (drawing_of k) k.lent.cells k.lent.height k.lent.width k.lent.work as_padded) ∙ answered_none (tt {0}) first refl

      padding-is : padded ≡ padding k
      padding-is = padded-is (drawing_of k) k.lent.cells k.lent.height k.lent.width k.lent.work as_padded sheet_passes

      -- ---- rows 4 to 6
      abbrev Settings : List Row
      Settings = palette_rows k.palette (bad_config k.config (k.saturated || k.fixed) k.palette)

      by_settings : {n : Refusal} → ◌≡◌ {A = Result (Unit {0}) Refusal} (Err n) (answered (refusal Settings) tt) → run_refusal k ≡ Some n
      unfolding run_refusal
      by_settings e = rows_pass _ _ sheet_passes ∙ rows_hit _ _ (answered_some (tt {0}) e refl)

      module _ (second : ◌≡◌ {A = Result (Unit {0}) Refusal} (Ok tt) (answered (refusal Settings) tt)) where
        settings_pass : refusal Settings ≡ None
        settings_pass = answered_none (tt {0}) second refl

        few : k.palette.count ≤ 256
        few = (palette_room _ settings_pass).0.few

        room : SheetFits k.lent.height k.lent.width (needed k.lent.height k.lent.width (padding k)) (length k.lent.cells) k.lent.work
        room = (sheet_room _ sheet_passes).0

        touched : padded ≡ true → touches (sheet_in k.lent) ≡ true
        touched y = pad_touches (drawing_of k) (sheet_in k.lent) (sym padding-is ∙ y)

        -- ---- rows 7 and 8
        abbrev seventh : Row
        seventh = bad_index k.config.remove_orphans k.config.orphan_min_region k.palette (sheet_in k.lent)

        abbrev eighth : Row
        eighth = no_entry (drawing_of k) k.palette (canvas (padding k) (sheet_in k.lent))

        past : run_refusal k ≡ refusal (seventh ∷ eighth ∷ [])
        unfolding run_refusal
        past = rows_pass _ _ sheet_passes ∙ rows_pass _ _ settings_pass

        module _ {met : Bool} (index : met ≡ seventh.applies) where
          by_index : met ≡ true → run_refusal k ≡ Some NoSuchEntry
          unfolding bad_index
          by_index y = past ∙ row_hit _ _ (sym index ∙ y)

          module _ (z : met ≡ false) {none : Bool} (e : none ≡ (no_entry how (palette_of [] k.palette.count) (canvas padded (sheet_in k.lent))).applies) where
            past_7 : run_refusal k ≡ refusal (eighth ∷ [])
            past_7 = past ∙ row-pass _ _ (sym index ∙ z)

            entry : none ≡ eighth.applies
            unfolding no_entry
            entry =
                let on : Drawing → Bool → Bool = (λ d b. (no_entry d k.palette (canvas b (sheet_in k.lent))).applies) in
                e ∙ ap (λ (d : Drawing). on d padded) as_drawn ∙ ap (on (drawing_of k)) padding-is

            by_entry : none ≡ true → run_refusal k ≡ Some NoEntries
            unfolding no_entry
            by_entry y = past_7 ∙ row_hit _ _ (sym entry ∙ y)

            accepted : none ≡ false → run_refusal k ≡ None
            accepted n = past_7 ∙ row_last _ (sym entry ∙ n)

pub returns-in_err-sheet_refusal : goal.returns-in_err-sheet_refusal
returns-in_err-sheet_refusal c =
    let r : c.from_residual.result ≡ Err c.in_err-sheet_refusal.field-0.0 = search rules in
    r ∙ some_answered _ (by_sheet _ c.drawing-how.ensures c.padding-padded.ensures c.in_err-sheet_refusal.ensures)

pub returns-in_err-settings_refusal : goal.returns-in_err-settings_refusal
returns-in_err-settings_refusal c =
    let r : c.from_residual-in_err-settings_refusal.result ≡ Err c.in_err-settings_refusal.field-0.0 = search rules in
    r ∙ some_answered _ (by_settings _ c.drawing-how.ensures c.padding-padded.ensures c.in_ok-sheet_refusal.ensures c.in_err-settings_refusal.ensures)

-- the call that the arguments make
abbrev called : In_ok-settings_refusal → RunCall
called c =
    let a = c.args in
    record {
      lent = lent_sheet a.cells.now a.h a.w a.work;
      palette = palette_of a.palette.now a.k;
      config = a.o.config;
      saturated = a.o.saturated;
      fixed = a.o.fixed_palette;
      margin = a.o.outline_margin;
    }

pub invariant_of-on : goal.invariant_of-on
invariant_of-on c =
    record { present = seated _ c.args.cells.now (room (called (goal.at.invariant_of-on c).In_ok-settings_refusal) c.drawing-how.ensures c.padding-padded.ensures c.in_ok-sheet_refusal.ensures c.in_ok-settings_refusal.ensures) }

pub bad_index_met-requires : goal.bad_index_met-requires
bad_index_met-requires c =
    few (called (goal.at.bad_index_met-requires c).In_ok-settings_refusal) c.drawing-how.ensures c.padding-padded.ensures c.in_ok-sheet_refusal.ensures c.in_ok-settings_refusal.ensures

pub returns-then-bad_index_met : goal.returns-then-bad_index_met
unfolding bad_index
returns-then-bad_index_met c =
    some_answered _
    (by_index _ c.drawing-how.ensures c.padding-padded.ensures c.in_ok-sheet_refusal.ensures c.in_ok-settings_refusal.ensures c.bad_index_met.ensures c.if-bad_index_met.true)

pub no_entry-requires : goal.no_entry-requires
no_entry-requires c =
    touched (called (goal.at.no_entry-requires c).In_ok-settings_refusal) c.drawing-how.ensures c.padding-padded.ensures c.in_ok-sheet_refusal.ensures c.in_ok-settings_refusal.ensures

pub returns-then-no_entry : goal.returns-then-no_entry
unfolding bad_index
returns-then-no_entry c =
    some_answered _
    (by_entry _ c.drawing-how.ensures c.padding-padded.ensures c.in_ok-sheet_refusal.ensures c.in_ok-settings_refusal.ensures c.bad_index_met.ensures c.if-bad_index_met.false
    c.no_entry.ensures c.if-no_entry.true)

pub returns : goal.returns
unfolding bad_index
returns c =
    none_answered _
    (accepted _ c.drawing-how.ensures c.padding-padded.ensures c.in_ok-sheet_refusal.ensures c.in_ok-settings_refusal.ensures c.bad_index_met.ensures c.if-bad_index_met.false
    c.no_entry.ensures c.if-no_entry.false)
    refl
