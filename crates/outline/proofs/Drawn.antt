-- An outline, whole: from the sheet that is drawn on to what the entry answers and leaves. Assumes nothing.
use Prim.Native.Nat.{ℕ, ◌+◌, ◌*◌, ◌≤◌}
use mathlib.Core.Path.{◌≡◌, refl, sym, ap, ◌∙◌}
use mathlib.Core.Bool.{Bool, true, false, not, ◌&&◌}
use mathlib.Core.List.{List, ◌++◌}
use Rattle.std.specs.Prelude.{None, Some, Result, Ok, Err}
use lib.IntN.{ℤ}
use lib.Ieee.{Float}
use lib.ListN.{length, take, drop, take-append-drop}
use lib.Seq.{length-take-le}
use Rattle.base.specs.Outputs.{filled}
use Rattle.base.specs.Refusals.{unless, answered}
use Rattle.base.proofs.Counting.{case, table-length}
use Rattle.color.specs.declared.Lab.{Lab}
use Rattle.rules.specs.declared.Drawing.{Drawing}
use Rattle.base.specs.declared.Refusal.{Refusal}
use Rattle.rules.specs.declared.Facts.{Facts}
use Rattle.rules.specs.Sheet.{Sheet, area, sheet_of, sheet_in, over}
use Rattle.rules.specs.Palette.{Palette}
use Rattle.rules.specs.Outline.{touches, pads, padded_at, padded, canvas, has_ring, inked, line_colour, choice, Outlined, drawn, outline}
use Rattle.rules.specs.Calls.{OutlineCall}
use Rattle.rules.specs.Entries.{facts_of, outline_refusal, outline_answer, outline_cells, outline_palette}
use Rattle.outline.specs.Drawing.{Drew}
use Rattle.outline_entry.specs.Line.{Chose}
use Rattle.outline.proofs.Fillings.{over-filled}
use Rattle.outline.proofs.Padding.{sheet-padded}

-- any entry may be written over
abbrev every : ℕ → Bool
every i = true

module _ (clipped : Bool) (how : Drawing) (palette : Palette) (l : List ℤ) (h w : ℕ) where
  -- ---- on a sheet that is padded already

  module _ (room : h * w ≤ length l) where
    -- no ring: nothing changes
    pub drew_none : has_ring (sheet_of l h w) ≡ false
        → Drew (drawn every how palette clipped (sheet_of l h w)) l (record { height = h; width = w; colours = palette.count; outline_index = None; outline_clipped = clipped }) l palette.lab
    unfolding drawn sheet_of facts_of over
    drew_none e =
        rw e (record {
          told = refl;
          cells = sym (ap (λ (n : ℕ). take (h * w) l ++ drop n l) (length-take-le (h * w) l room) ∙ take-append-drop (h * w) l);
          doubles = refl;
        })

    -- a ring: its cells take the index of the entry that was chosen
    pub drew_ring : has_ring (sheet_of l h w) ≡ true → (i n : ℕ) (out : List ℤ) (lab : List Float)
        → (c : Lab) → c ≡ line_colour palette how.outline → Chose palette c (choice every how.fixed_palette palette c) i n lab
        → out ≡ over (inked (sheet_of l h w) i).cells l
        → Drew (drawn every how palette clipped (sheet_of l h w)) l (record { height = h; width = w; colours = n; outline_index = Some i; outline_clipped = clipped }) out lab
    unfolding sheet_of facts_of drawn inked
    drew_ring e i n out lab c q k o =
        rw (e, sym q, sym k.at) (record {
          told = ap (λ (j : ℕ). record { height = h; width = w; colours = j; outline_index = Some i; outline_clipped = clipped }) k.colours;
          cells = o;
          doubles = k.doubles;
        })

  -- ---- on the sheet that is lent

  abbrev s : Sheet
  s = sheet_of l h w

  -- the padded sheet has the needed cells, whether it has a ring or not
  padded-length : length (drawn every how palette clipped (padded s)).sheet.cells ≡ (h + 2) * (w + 2)
  unfolding drawn inked padded area sheet_of
  padded-length =
      let n = (h + 2) * (w + 2) in
      case (has_ring (padded s)) (λ y. rw y (table-length n _)) (λ z. rw z (table-length n (padded_at s)))

  module _ (edge : clipped ≡ (touches s && not how.allow_pad)) {facts : Facts} {out : List ℤ} {lab : List Float} where
    -- drawn on the padded sheet
    pub drew_padded : pads how s ≡ true → (m : List ℤ) → m ≡ filled ((h + 2) * (w + 2)) (padded_at s) l
        → Drew (drawn every how palette clipped (sheet_of m (h + 2) (w + 2))) m facts out lab
        → Drew (outline every how palette s) l facts out lab
    unfolding outline canvas
    drew_padded e m q d =
        let on : Outlined = drawn every how palette clipped (padded s) in
        let c : drawn every how palette clipped (sheet_of m (h + 2) (w + 2)) ≡ on =
        ap (drawn every how palette clipped) (ap (λ (k : List ℤ). sheet_of k (h + 2) (w + 2)) q ∙ sheet-padded l h w) in
        rw (sym edge, e) (record {
          told = d.told ∙ ap (λ (t : Outlined). facts_of t.sheet t.palette t.index t.clipped) c;
          cells = d.cells ∙ ap (λ (t : Outlined). over t.sheet.cells m) c ∙ ap (over on.sheet.cells) q ∙ over-filled ((h + 2) * (w + 2)) (padded_at s) l _ padded-length;
          doubles = d.doubles ∙ ap (λ (t : Outlined). t.palette.lab) c;
        })

    -- drawn on the sheet itself
    pub drew_plain : pads how s ≡ false → Drew (drawn every how palette clipped s) l facts out lab → Drew (outline every how palette s) l facts out lab
    unfolding outline canvas
    drew_plain e d = rw (sym edge, e) d

-- ---- what the entry answers and leaves

module _ (c : OutlineCall) where
  -- its three promises, of an answer, of the cells and of the doubles
  abbrev pub Met : Result Facts Refusal → List ℤ → List Float → Type 0
  Met r cells lab = (r ≡ outline_answer c) × (cells ≡ outline_cells c) × (lab ≡ outline_palette c)

  pub met_refused : (n : Refusal) → outline_refusal c ≡ Some n → Met (Err n) c.lent.cells c.palette.lab
  unfolding outline_answer answered outline_cells outline_palette unless
  met_refused n e = rw e (refl, refl, refl)

  pub met_drawn : {facts : Facts} {out : List ℤ} {lab : List Float} → outline_refusal c ≡ None
      → Drew (outline every c.how c.palette (sheet_in c.lent)) c.lent.cells facts out lab → Met (Ok facts) out lab
  unfolding outline_answer answered outline_cells outline_palette unless
  met_drawn e d = rw e (ap Ok d.told, d.cells, d.doubles)
