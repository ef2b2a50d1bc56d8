-- The rows of `remove_orphans`, and what it answers and leaves. Assumes nothing.
use Prim.Native.Nat.{ℕ, ◌*◌}
use mathlib.Core.Path.{◌≡◌, ◌∙◌}
use mathlib.Core.Bool.{Bool, true, false, ◌&&◌}
use mathlib.Core.List.{List, []}
use native.Mathlib.Omega.{arith}
use lib.IntN.{ℤ, pos}
use lib.Signed.{le_z}
use lib.ListN.{take}
use Rattle.std.specs.Prelude.{None, Some, Result, Ok, Err}
use Rattle.base.specs.declared.Refusal.{Refusal}
use Rattle.base.specs.declared.Refusal.TheVariants.{NoSuchEntry}
use Rattle.base.specs.Places.{any}
use Rattle.base.specs.Refusals.{refusal}
use Rattle.base.proofs.Refusing.{row_hit, row_last, rows_hit, rows_pass, some_unless, none_unless, some_answered, none_answered}
use Rattle.rules.specs.Regions.{at}
use Rattle.rules.specs.Sheet.{area, sheet_of, over, needed}
use Rattle.rules.specs.Calls.{OrphansCall}
use Rattle.rules.specs.Rows.{palette_rows, bad_index}
use Rattle.rules.specs.Entries.{lent_rows, bad_limits, orphans_refusal, orphans_made, orphans_answer, orphans_cells}
use Rattle.refusals.proofs.Rows.{sheet_room, palette_room}
use Rattle.orphans.specs.Entry.{Fit}

module _ (c : OrphansCall) where
  -- a cell names no entry, as the code tells it
  abbrev pub unnamed : Bool
  unnamed =
      let n = c.lent.height * c.lent.width in
      le_z (pos 2) c.limits.region && any n (λ p. le_z (pos c.palette.count) (at (take n c.lent.cells) p))

  -- ---- the answer

  abbrev pub Met : Result ℕ Refusal → List ℤ → Type 0
  Met answer cells = (answer ≡ orphans_answer c) × (cells ≡ orphans_cells c)

  pub met_refused : (n : Refusal) → orphans_refusal c ≡ Some n → Met (Err n) c.lent.cells
  unfolding orphans_answer orphans_cells
  met_refused n e = (some_answered _ e, some_unless _ _ e)

  pub met_cleaned : orphans_refusal c ≡ None → (count : ℕ) (new : List ℤ) → count ≡ (orphans_made c).passes → new ≡ over (orphans_made c).sheet.cells c.lent.cells → Met (Ok count) new
  unfolding orphans_answer orphans_cells
  met_cleaned e count new f g = (none_answered _ e f, none_unless _ _ e g)

  -- ---- rows 1 to 3, rows 4 to 6, and row 7

  pub by_sheet : {n : Refusal} → refusal (lent_rows c.lent false) ≡ Some n → orphans_refusal c ≡ Some n
  unfolding orphans_refusal
  by_sheet e = rows_hit _ _ e

  -- limits is what the code makes of the settings
  module _ (one : refusal (lent_rows c.lent false) ≡ None) {limits : Bool} (is : limits ≡ bad_limits c.limits c.passes) where
    pub by_palette : {n : Refusal} → refusal (palette_rows c.palette limits) ≡ Some n → orphans_refusal c ≡ Some n
    unfolding orphans_refusal
    by_palette e = rows_pass _ _ one ∙ rows_hit _ _ (rw is at e)

    module _ (two : refusal (palette_rows c.palette limits) ≡ None) where
      pub by_index : unnamed ≡ true → orphans_refusal c ≡ Some NoSuchEntry
      unfolding orphans_refusal bad_index sheet_of area
      by_index y = rows_pass _ _ one ∙ rows_pass _ _ (rw is at two) ∙ row_hit _ _ y

      module _ (z : unnamed ≡ false) where
        pub accepted : orphans_refusal c ≡ None
        unfolding orphans_refusal bad_index sheet_of area
        accepted = rows_pass _ _ one ∙ rows_pass _ _ (rw is at two) ∙ row_last _ z

        -- what cleaning asks for
        pub fits : Fit c.lent.cells c.lent.height c.lent.width c.palette.lab c.palette.count c.limits.region c.lent.work
        unfolding bad_index sheet_of area needed
        fits =
            let r = (sheet_room [] one).0 in
            let u = (palette_room [] two).0 in
            record {
              rows = omega (arith, r.high);
              cols = omega (arith, r.wide);
              reads = r.long;
              planes = r.free;
              entries = u.few;
              doubles = u.whole;
              known = z;
            }
