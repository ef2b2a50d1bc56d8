-- The steps of an accepted `run`, one after the other: what each may rely on, and that together they are the rule. Assumes nothing.
use Prim.Native.Nat.{ℕ, ◌*◌, ◌≤◌, ◌<◌}
use mathlib.Core.Path.{◌≡◌, refl, sym, ap, ◌∙◌, subst}
use mathlib.Core.Bool.{Bool, true, false, ◌||◌, cond}
use mathlib.Core.List.{List}
use Rattle.std.specs.Prelude.{None, Some, IfSome, Result, Ok, Err}
use native.Mathlib.Omega.{arith}
use lib.IntN.{ℤ, pos}
use lib.Signed.{le_z}
use lib.ListN.{length}
use lib.Ieee.{Float}
use Rattle.base.specs.declared.Refusal.{Refusal}
use Rattle.base.specs.Places.{any}
use Rattle.base.specs.Refusals.{answered}
use Rattle.base.proofs.Counting.{any_same}
use Rattle.base.proofs.Refusing.{some_unless, none_unless}
use Rattle.rules.specs.declared.Limits.{Limits}
use Rattle.rules.specs.declared.Drawing.{Drawing}
use Rattle.rules.specs.declared.Facts.{Facts}
use Rattle.rules.specs.declared.Processed.{Processed}
use Rattle.rules.specs.Sheet.{Sheet, area, sheet_of, sheet_in, over, needed}
use Rattle.rules.specs.Palette.{Palette, palette_of}
use Rattle.rules.specs.Corners.{trim}
use Rattle.rules.specs.Outline.{asked, pads, canvas, ring, has_ring, Outlined}
use Rattle.rules.specs.Calls.{RunCall}
use Rattle.rules.specs.Run.{CleanedSheet, clean_sheet_if, limits_of, toned, toned_palette, pad_allowed, drawing_of, outline_if, first_cleaning, outlined_run, cleans_again, second_cleaning, Processing, process}
use Rattle.rules.specs.Rows.{bad_index, no_entry}
use Rattle.rules.specs.Entries.{facts_of, run_refusal, run_answer, run_cells, run_palette}
use Rattle.rules.proofs.Sizes.{needed-least, canvas-area, canvas_sides, toned-count, toned-length}
use Rattle.rules.proofs.Opacity.{Alike, trans, cleaned-alike, cut-alike, pads-same, ring-same, canvas-alike, Shown, met_shown}
use Rattle.orphans.specs.Entry.{Fit}
use Rattle.outline.specs.Drawing.{Drew}
use Rattle.refusals.specs.Room.{SheetFits}
use Rattle.run_refusals.proofs.Refusing.{padding, Granted, granting}
use Rattle.postprocess.proofs.Fronts.{Stands, stands_start, stands_size, stands_sheet, stands_next}
use Rattle.postprocess.proofs.Holding.{area_same, Holds, reads, keeps, sized}
use Rattle.postprocess.proofs.Indices.{Named, named, row_clear, cleaned_named, cut_named}
use Rattle.postprocess.proofs.Lines.{Lined, lined}

-- ---- sheets alike have a ring alike

ring-alike : {s t : Sheet} → Alike s t → has_ring t ≡ has_ring s
unfolding has_ring
ring-alike {s} {t} k = ap (λ (n : ℕ). any n (ring t)) (area_same k) ∙ any_same (area s) (ring t) (ring s) (λ p h. ring-same k p)

-- ---- what the steps of a call come to

-- the three promises of a call, of its answer, of the cells and of the doubles
abbrev pub Met : RunCall → Result Processed Refusal → List ℤ → List Float → Type 0
Met x answer cells lab = (answer ≡ run_answer x) × (cells ≡ run_cells x) × (lab ≡ run_palette x)

-- what an accepted call leaves, with so many cells lent: sides and colours in range, an entry's index if any, cells within the lent ones, and all doubles
pub record Left (r : Processing) (lent : ℕ) : Type 0 where
  pub high : r.sheet.height ≤ 514
  pub wide : r.sheet.width ≤ 514
  pub long : r.sheet.height * r.sheet.width ≤ lent
  pub few : r.palette.count ≤ 256
  pub index : IfSome r.index (λ i. i < r.palette.count)
  pub full : length r.palette.lab ≡ 768

-- a call that is refused leaves both lists
pub met_refused : (x : RunCall) (n : Refusal) → run_refusal x ≡ Some n → Met x (Err n) x.lent.cells x.palette.lab
unfolding run_answer answered run_cells run_palette
met_refused x n e = (some_unless _ _ e, some_unless _ _ e, some_unless _ _ e)

module _ (x : RunCall) where
  -- sides of the lent sheet, the sheet as it came, the palette after saturation
  abbrev h : ℕ
  h = x.lent.height

  abbrev w : ℕ
  w = x.lent.width

  abbrev pub came : Sheet
  came = sheet_in x.lent

  abbrev pub ink : Palette
  ink = toned_palette x

  -- the settings of cleaning
  abbrev on : Bool
  on = x.config.remove_orphans

  abbrev limits : Limits
  limits = limits_of x.config

  -- the sheet after the first cleaning, after corners, after the outline, and after the second cleaning
  abbrev pub first : Sheet
  first = (first_cleaning x).sheet

  abbrev pub cut : Sheet
  cut = cond x.config.fix_jaggies (trim first) first

  abbrev pub line : Outlined
  line = outlined_run x

  abbrev second : Sheet
  second = (second_cleaning x.config line).sheet

  -- what the lists hold after a step before the outline
  abbrev pub Held : Sheet → List ℤ → List Float → Type 0
  Held s cells lab = Holds x.lent.cells s ink cells h w lab x.palette.count

  -- every cell names an entry, if cleaning is on and regions can be small
  abbrev Known : Sheet → Palette → Type 0
  Known s p = on ≡ true → le_z (pos 2) x.config.orphan_min_region ≡ true → Named p.count s.cells

  -- a sheet that can be cleaned
  record Cleanable (s : Sheet) (p : Palette) : Type 0 where
    pub rows : s.height ≤ 514
    pub cols : s.width ≤ 514
    pub planes : 8 * area s ≤ x.lent.work
    pub entries : p.count ≤ 256
    pub doubles : length p.lab ≡ 768
    pub known : Known s p

  fit : {s : Sheet} {p : Palette} {cells : List ℤ} {h w : ℕ} {lab : List Float} {k : ℕ} → Holds x.lent.cells s p cells h w lab k → Cleanable s p → on ≡ true
      → Fit cells h w lab k x.config.orphan_min_region x.lent.work
  unfolding sheet_of area
  fit {s} {p} {cells} {h} {w} {lab} {k} a c y =
      let e : h * w ≡ s.height * s.width = ap area a.sheet in
      record {
        rows = rw (ap (λ (t : Sheet). t.height) a.sheet) c.rows;
        cols = rw (ap (λ (t : Sheet). t.width) a.sheet) c.cols;
        reads = sized a;
        planes = omega (arith, e, c.planes);
        entries = rw (ap (λ (q : Palette). q.count) a.palette) c.entries;
        doubles = ap (λ (q : Palette). length q.lab) a.palette ∙ c.doubles;
        known = reads a (λ t q. (bad_index true x.config.orphan_min_region q t).applies) ∙ row_clear true x.config.orphan_min_region p s (λ z l. c.known y l);
      }

  -- ---- a call that is accepted

  module _ (ok : run_refusal x ≡ None) where
    g : Granted x
    g = granting x ok

    start : Stands x.lent.cells came x.lent.cells
    start = stands_start x.lent.cells h w (omega (arith, g.room.long, needed-least h w (padding x)))

    pub in_doubles : (3 * x.palette.count ≤ length x.palette.lab) × (x.palette.count ≤ 256)
    in_doubles = (omega (arith, g.few, g.full), g.few)

    ink-count : ink.count ≡ x.palette.count
    unfolding toned_palette
    ink-count = toned-count (x.saturated || x.fixed) x.config x.palette

    ink-length : length ink.lab ≡ 768
    unfolding toned_palette
    ink-length = toned-length (x.saturated || x.fixed) x.config x.palette in_doubles.0 ∙ g.full

    -- the sheet as it came
    known_before : Known came ink
    known_before y l =
        subst (λ (n : ℕ). Named n came.cells) (sym ink-count)
        (named on x.config.orphan_min_region x.palette came start.full y l g.indices)

    cleanable_before : Cleanable came ink
    unfolding sheet_of area
    cleanable_before =
        record {
          rows = omega (arith, g.room.high);
          cols = omega (arith, g.room.wide);
          planes = omega (arith, g.room.free, needed-least h w (padding x));
          entries = omega (arith, g.few, ink-count);
          doubles = ink-length;
          known = known_before;
        }

    -- the sheet after the first cleaning, and after corners
    alike-first : Alike came first
    unfolding first_cleaning
    alike-first = cleaned-alike on 5 ink limits came start.full

    alike-cut : Alike came cut
    alike-cut = trans alike-first (cut-alike x.config.fix_jaggies first alike-first.full)

    pads-cut : pads (drawing_of x) cut ≡ padding x
    pads-cut = pads-same alike-cut (drawing_of x)

    canvas-cut : Alike (canvas (padding x) came) (canvas (pads (drawing_of x) cut) cut)
    canvas-cut = subst (λ (b : Bool). Alike (canvas (padding x) came) (canvas b cut)) (sym pads-cut) (canvas-alike alike-cut start.full (padding x))

    entry-cut : (no_entry (drawing_of x) ink (canvas (pads (drawing_of x) cut) cut)).applies ≡ false
    unfolding no_entry
    entry-cut = rw (ring-alike canvas-cut, ink-count) g.entry

    known_cut : Known cut ink
    unfolding first_cleaning
    known_cut y l =
        cut_named first (cleaned_named on 5 ink limits came start.full (known_before y l)) x.config.fix_jaggies

    -- the sheet after the outline
    lined_cut : Lined ink cut line
    unfolding outlined_run
    lined_cut = lined (λ i. true) (drawing_of x) ink cut (omega (arith, g.few, ink-count)) entry-cut

    shown : Shown (asked x.config.outline) (canvas (padding x) came) line.sheet
    shown = met_shown x start.full

    line-area : area line.sheet ≡ needed h w (padding x)
    unfolding area sheet_of
    line-area = rw (shown.height, shown.width) (canvas-area (padding x) came)

    -- no fewer cells than before
    grown : area cut ≤ area line.sheet
    unfolding area sheet_of
    grown = rw (alike-cut.height, alike-cut.width) (omega (arith, line-area, needed-least h w (padding x)))

    cleanable_line : Cleanable line.sheet line.palette
    unfolding sheet_of
    cleanable_line =
        let k = canvas_sides (padding x) came g.room.high g.room.wide in
        record {
          rows = rw shown.height k.0;
          cols = rw shown.width k.1;
          planes = omega (arith, line-area, g.room.free);
          entries = lined_cut.few;
          doubles = lined_cut.full ∙ ink-length;
          known = λ y l. lined_cut.named (known_cut y l);
        }

    -- and after the second cleaning
    abbrev redo : Sheet → Palette → CleanedSheet
    redo t q = clean_sheet_if (cleans_again x.config) 1 q limits t

    alike-second : Alike line.sheet second
    unfolding second_cleaning
    alike-second = cleaned-alike (cleans_again x.config) 1 line.palette limits line.sheet shown.full

    pub left : Left (process x) (length x.lent.cells)
    unfolding process second_cleaning area
    left =
        record {
          high = rw alike-second.height cleanable_line.rows;
          wide = rw alike-second.width cleanable_line.cols;
          long = rw (alike-second.height, alike-second.width) (omega (arith, line-area, g.room.long));
          few = cleanable_line.entries;
          index = lined_cut.index;
          full = cleanable_line.doubles;
        }

    -- ---- its steps, each with the lists that it left

    -- saturation
    module _ {kept : Bool} {lab : List Float} (keeps_it : kept ≡ (x.saturated || x.fixed)) (tones : lab ≡ (toned kept x.config x.palette).lab) where
      toned_holds : Held came x.lent.cells lab
      unfolding toned_palette
      toned_holds =
          let l = tones ∙ ap (λ (b : Bool). (toned b x.config x.palette).lab) keeps_it in
          record { stands = start; sheet = refl; palette = λ i. record { lab = l i; count = sym ink-count i } }

      pub first_fit : on ≡ true → Fit x.lent.cells h w lab x.palette.count x.config.orphan_min_region x.lent.work
      first_fit = fit toned_holds cleanable_before

      -- the first cleaning
      module _ {cells : List ℤ} (cleans : cells ≡ over (clean_sheet_if on 5 (palette_of lab x.palette.count) limits (sheet_of x.lent.cells h w)).sheet.cells x.lent.cells) where
        first_holds : Held first cells lab
        unfolding first_cleaning
        first_holds = keeps toned_holds (λ t q. (clean_sheet_if on 5 q limits t).sheet) alike-first cleans

        pub trim_room : {room : ℕ} → room ≡ x.lent.work → (h ≤ 512) × (w ≤ 512) × (h * w ≤ length cells) × (8 * (h * w) ≤ room)
        trim_room e = (g.room.high, g.room.wide, sized first_holds, omega (arith, e, g.room.free, needed-least h w (padding x)))

        -- corners, and how the outline is drawn
        module _ {trimmed : List ℤ} {how : Drawing} (trims : trimmed ≡ over (cond x.config.fix_jaggies (trim (sheet_of cells h w)) (sheet_of cells h w)).cells cells)
            (is : how ≡ record { outline = x.config.outline; allow_pad = pad_allowed x.config x.margin; fixed_palette = x.fixed }) where
          cut_holds : Held cut trimmed lab
          cut_holds = keeps first_holds (λ t q. cond x.config.fix_jaggies (trim t) t) (cut-alike x.config.fix_jaggies first alike-first.full) trims

          drawing : how ≡ drawing_of x
          unfolding drawing_of
          drawing = is

          -- there is room for the outline
          pub line_room : {room : ℕ} → room ≡ x.lent.work → SheetFits h w (needed h w (pads how (sheet_of trimmed h w))) (length trimmed) room
          line_room e =
              let n = ap (λ (d : Drawing). needed h w (pads d (sheet_of trimmed h w))) drawing ∙ reads cut_holds (λ t q. needed h w (pads (drawing_of x) t)) ∙ ap (needed h w) pads-cut in
              record {
                high = g.room.high;
                wide = g.room.wide;
                few = g.room.few;
                long = omega (arith, n, g.room.long, stands_size cut_holds.stands);
                free = omega (arith, n, e, g.room.free);
              }

          pub line_palette : (length lab ≡ 768) × (x.palette.count ≤ 256)
          line_palette = (ap (λ (q : Palette). length q.lab) cut_holds.palette ∙ ink-length, g.few)

          -- the outline
          module _ {lined_cells : List ℤ} {doubles : List Float} {facts : Facts}
              (draws : Drew (outline_if (λ i. true) how (palette_of lab x.palette.count) (sheet_of trimmed h w)) trimmed facts lined_cells doubles) where
            drew : Drew line trimmed facts lined_cells doubles
            unfolding outlined_run
            drew =
                subst (λ (o : Outlined). Drew o trimmed facts lined_cells doubles)
                (ap (λ (d : Drawing). outline_if (λ i. true) d (palette_of lab x.palette.count) (sheet_of trimmed h w)) drawing ∙ reads cut_holds (λ t q. outline_if (λ i. true) (drawing_of x) q t)) draws

            line_holds : Holds x.lent.cells line.sheet line.palette lined_cells facts.height facts.width doubles facts.colours
            unfolding facts_of
            line_holds =
                let n = stands_next cut_holds.stands drew.cells shown.full grown (omega (arith, line-area, g.room.long)) in
                record {
                  stands = n;
                  sheet = stands_sheet facts.height facts.width n (sym (ap (λ (f : Facts). f.height) drew.told)) (sym (ap (λ (f : Facts). f.width) drew.told));
                  palette = λ i. record { lab = drew.doubles i; count = (drew.told i).colours };
                }

            pub second_fit : {room : ℕ} → room ≡ x.lent.work → on ≡ true → Fit lined_cells facts.height facts.width doubles facts.colours x.config.orphan_min_region room
            second_fit e y = rw e (fit line_holds cleanable_line y)

            told-second : facts ≡ facts_of second line.palette line.index line.clipped
            unfolding facts_of
            told-second =
                drew.told ∙ (λ i. record {
                  height = sym alike-second.height i;
                  width = sym alike-second.width i;
                  colours = line.palette.count;
                  outline_index = line.index;
                  outline_clipped = line.clipped;
                })

            -- all of it is the rule
            pub met_processed : {n m : ℕ} {new : List ℤ} → n ≡ (clean_sheet_if on 5 (palette_of lab x.palette.count) limits (sheet_of x.lent.cells h w)).passes
                → m ≡ (redo (sheet_of lined_cells facts.height facts.width) (palette_of doubles facts.colours)).passes
                → new ≡ over (redo (sheet_of lined_cells facts.height facts.width) (palette_of doubles facts.colours)).sheet.cells lined_cells
                → Met x (Ok (record { facts = facts; passes = n; again = m })) new doubles
            unfolding run_answer answered run_cells run_palette process first_cleaning second_cleaning
            met_processed n m e =
                let once = n ∙ reads toned_holds (λ t q. (clean_sheet_if on 5 q limits t).passes) in
                let twice = m ∙ reads line_holds (λ t q. (redo t q).passes) in
                let last = keeps line_holds (λ t q. (redo t q).sheet) alike-second e in (
                  none_unless _ _ ok (λ i. Ok (record { facts = told-second i; passes = once i; again = twice i })),
                  none_unless _ _ ok last.stands.is,
                  none_unless _ _ ok (ap (λ (q : Palette). q.lab) line_holds.palette),
                )
