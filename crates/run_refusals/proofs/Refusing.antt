-- What an accepted call of `run` may rely on. Assumes nothing.
use Prim.Native.Nat.{◌≤◌}
use mathlib.Core.Path.{◌≡◌}
use mathlib.Core.Bool.{Bool, false}
use Rattle.std.specs.Prelude.{None}
use lib.ListN.{length}
use Rattle.base.proofs.Counting.{neither}
use Rattle.base.proofs.Refusing.{rows_none}
use Rattle.rules.specs.Sheet.{sheet_in, needed}
use Rattle.rules.specs.Palette.{out_of_range}
use Rattle.rules.specs.Outline.{pads, canvas}
use Rattle.rules.specs.Calls.{RunCall}
use Rattle.rules.specs.Run.{toned_palette, drawing_of}
use Rattle.rules.specs.Rows.{bad_index, no_entry}
use Rattle.rules.specs.Entries.{bad_ranges, bad_config, run_refusal}
use Rattle.refusals.specs.Room.{SheetFits}
use Rattle.refusals.proofs.Rows.{sheet_room, palette_room}

module _ (c : RunCall) where
  -- whether padding applies
  abbrev pub padding : Bool
  padding = pads (drawing_of c) (sheet_in c.lent)

  pub record Granted : Type 0 where
    pub room : SheetFits c.lent.height c.lent.width (needed c.lent.height c.lent.width padding) (length c.lent.cells) c.lent.work
    pub few : c.palette.count ≤ 256
    pub full : length c.palette.lab ≡ 768
    pub tones : out_of_range (toned_palette c) ≡ false
    pub indices : (bad_index c.config.remove_orphans c.config.orphan_min_region c.palette (sheet_in c.lent)).applies ≡ false
    pub entry : (no_entry (drawing_of c) c.palette (canvas padding (sheet_in c.lent))).applies ≡ false

  pub granting : run_refusal c ≡ None → Granted
  unfolding run_refusal bad_config toned_palette
  granting e =
      let sheet = sheet_room _ e in
      let colours = palette_room _ sheet.1 in
      let seven = rows_none _ _ colours.1 in
      record {
        room = sheet.0;
        few = colours.0.few;
        full = colours.0.whole;
        tones = (neither (bad_ranges c.config) _ colours.0.settled).1;
        indices = seven.0;
        entry = (rows_none _ _ seven.1).0;
      }
