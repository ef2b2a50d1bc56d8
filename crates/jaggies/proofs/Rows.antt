-- The sheet written over row by row: what a spot of it becomes, and which rows the work area holds. Assumes nothing.
use Prim.Native.Nat.{ℕ, ◌+◌, ◌-◌, ◌*◌, ◌≤◌, ◌<◌}
use mathlib.Core.Path.{◌≡◌, refl, sym, ap, ◌∙◌, subst}
use mathlib.Core.Bool.{true, ◌||◌}
use mathlib.Core.List.{List}
use native.Mathlib.Nat.{zero-mul, add-mul, mul-le-mul_right}
use native.Mathlib.Decide.{dec_lt}
use native.Mathlib.Omega.{arith}
use borrow.Author.Count.{below_more}
use borrow.Author.Tests.{lt-ltb, le-ltb}
use lib.Dec.{ltb}
use lib.IntN.{ℤ, pos, negsuc}
use lib.Signed.{non_neg}
use lib.ListN.{length, get_or, set, length-set, take-append-drop}
use lib.Seq.{length-take-le, get_or-take, set-get_or, get_or-set_same, get_or-set_other}
use Rattle.base.specs.Outputs.{filled}
use Rattle.base.proofs.Fills.{filled_none, filled_past, filled_more}
use Rattle.base.proofs.Counting.{table-length}
use Rattle.rules.specs.Sheet.{area, sheet_of, over}
use Rattle.rules.specs.Regions.{at}
use Rattle.rules.specs.Corners.{corners, trimmed_by, trimmed, trim}
use Rattle.rules.proofs.Reading.{read_at}
use Rattle.grid.specs.Planes.{paint_of, cell_of}
use Rattle.jaggies.specs.declared.Spot.{Spot}
use Rattle.jaggies.specs.Rows.{spot_place, row_end, spot_at, old_paint, largest_paint, RowsHoldPaints, SpotFits, OldRows, Shown, Trimmed, Moved}
use Rattle.jaggies.proofs.Cuts.{solid, clear, cell_paint, unpaint}

-- ---- one spot

-- room is a matter of lengths
pub same_room : {cells new : List ℤ} {work : List ℕ} {s : Spot} → length new ≡ length cells → SpotFits cells work s → SpotFits new work s
same_room e r = record {
  row = r.row;
  col = r.col;
  tall = r.tall;
  wide = r.wide;
  sheet = omega (arith, r.sheet);
  rows = r.rows;
  paints = r.paints;
}

-- where a spot's own paint stands in the work area
pub own_place : (s : Spot) → s.x < s.w → spot_place s + 3 * s.w - row_end s ≡ 2 * s.w + s.x
own_place s l = omega arith

pub own_paint : (s : Spot) → s.x < s.w → {old : List ℤ} {work : List ℕ} → OldRows old work s.w (row_end s) → get_or work (2 * s.w + s.x) 0 ≡ paint_of (at old (spot_place s))
own_paint s l rows = rw (own_place s l) at (rows.paint (spot_place s) (omega arith) (omega arith))

-- what a test reads is the sheet as it was: above and in the spot's row it stands in the work area, below it is not yet written over
pub shown : {old cells : List ℤ} {work : List ℕ} {s : Spot} → s.x < s.w → OldRows old work s.w (row_end s) → Trimmed old s.h s.w (spot_place s) cells → Shown old cells work s
unfolding old_paint
shown {old} {cells} {work} {s} l rows t = record { paint = λ q a b. go q a b (dec_lt q (row_end s)) }
  where
    go : (q : ℕ) → row_end s ≤ q + 3 * s.w → q < s.h * s.w → Dec (q < row_end s) → old_paint cells work s.w (row_end s) q ≡ paint_of (at old q)
    go q a b (yes y) = rw (lt-ltb q (row_end s) y) (rows.paint q y a)
    go q a b (no n) =
        rw (le-ltb q (row_end s) (omega arith), t.filled, filled_past (spot_place s) (trimmed (sheet_of old s.h s.w)) old (pos 0) q (omega arith))
        (ap paint_of (read_at old q (omega (arith, t.whole))))

-- one more place is trimmed
module _ {old : List ℤ} {h w p : ℕ} {cells : List ℤ} (t : Trimmed old h w p cells) (l : p < h * w) where
  cell : at (sheet_of old h w).cells p ≡ at old p
  unfolding sheet_of at
  cell = get_or-take (h * w) old p (negsuc 0) l

  written : (z : ℤ) → z ≡ trimmed (sheet_of old h w) p → Trimmed old h w (p + 1) (set cells p z)
  written z e = record { whole = t.whole; filled = rw t.filled (filled_more p (trimmed (sheet_of old h w)) old z (omega (arith, t.whole)) e) }

  -- a transparent cell stays
  pub stays : 0 ≡ paint_of (at old p) → Trimmed old h w (p + 1) cells
  unfolding trimmed
  stays z =
      let e : get_or cells p (pos 0) ≡ at old p =
      ap (λ (c : List ℤ). get_or c p (pos 0)) t.filled ∙ filled_past p (trimmed (sheet_of old h w)) old (pos 0) p (omega arith)
      ∙ read_at old p (omega (arith, t.whole)) in
      let f : at old p ≡ trimmed (sheet_of old h w) p = rw (cell, clear (at old p) z) in
      subst (Trimmed old h w (p + 1)) (set-get_or cells p (pos 0)) (written (get_or cells p (pos 0)) (e ∙ f))

  -- an opaque one becomes what the corners make of it
  pub becomes : (a b : ℕ) → a ≡ paint_of (at old p) → 0 < a → b ≡ paint_of (trimmed_by (sheet_of old h w) p corners (cell_of a)) → 0 < b → Trimmed old h w (p + 1) (set cells p (pos (b - 1)))
  unfolding trimmed
  becomes a b e la f lb =
      let o : non_neg (at old p) ≡ true = solid (at old p) (λ z. omega arith) in
      let g : cell_of a ≡ at old p = ap cell_of e ∙ cell_paint (at old p) o in
      let f' : b ≡ paint_of (trimmed_by (sheet_of old h w) p corners (at old p)) = rw g at f in
      written (pos (b - 1)) (rw (cell, o) (unpaint _ b f' lb))

-- ---- the rows of the work area

-- no column has moved yet
pub moved_none : (cells : List ℤ) (w end : ℕ) (work : List ℕ) → Moved cells w end work work 0
moved_none cells w end work = record {
  first = λ j l. absurd (omega arith);
  second = λ j l. absurd (omega arith);
  third = λ j l. absurd (omega arith);
  small = λ j l. absurd (omega arith);
  rest = λ q n. refl;
}

-- one more column
module _ {cells : List ℤ} {w end : ℕ} {before work : List ℕ} {i : ℕ} (m : Moved cells w end before work i) (l : i < w) (room : 3 * w ≤ length work)
    (a b v : ℕ) (ea : a ≡ get_or work (w + i) 0) (eb : b ≡ get_or (set work i a) (2 * w + i) 0) where
  abbrev once : List ℕ
  once = set work i a

  abbrev twice : List ℕ
  twice = set once (w + i) b

  abbrev new : List ℕ
  new = set twice (2 * w + i) v

  other : (q : ℕ) → (q ≡ i → ⊥) → (q ≡ w + i → ⊥) → (q ≡ 2 * w + i → ⊥) → get_or new q 0 ≡ get_or work q 0
  other q x y z = get_or-set_other twice (2 * w + i) q v 0 z ∙ get_or-set_other once (w + i) q b 0 y ∙ get_or-set_other work i q a 0 x

  -- the column's three places
  top : get_or new i 0 ≡ get_or before (w + i) 0
  top =
      get_or-set_other twice (2 * w + i) i v 0 (λ z. omega arith) ∙ get_or-set_other once (w + i) i b 0 (λ z. omega arith)
      ∙ get_or-set_same work i a 0 (omega arith) ∙ ea ∙ m.rest (w + i) (λ j k. (λ z. omega arith, λ z. omega arith, λ z. omega arith))

  middle : get_or new (w + i) 0 ≡ get_or before (2 * w + i) 0
  middle =
      get_or-set_other twice (2 * w + i) (w + i) v 0 (λ z. omega arith) ∙ get_or-set_same once (w + i) b 0 (simp length-set (omega arith))
      ∙ eb ∙ get_or-set_other work i (2 * w + i) a 0 (λ z. omega arith) ∙ m.rest (2 * w + i) (λ j k. (λ z. omega arith, λ z. omega arith, λ z. omega arith))

  bottom : get_or new (2 * w + i) 0 ≡ v
  bottom = get_or-set_same twice (2 * w + i) v 0 (simp length-set (omega arith))

  pub moved_more : v ≡ paint_of (get_or cells (end + i) (pos 0)) → v ≤ largest_paint → Moved cells w end before new (i + 1)
  moved_more ev sv = record {
    first = below_more _ _ (λ j k. other j (λ z. omega arith) (λ z. omega arith) (λ z. omega arith) ∙ m.first j k) top;
    second = below_more _ _ (λ j k. other (w + j) (λ z. omega arith) (λ z. omega arith) (λ z. omega arith) ∙ m.second j k) middle;
    third = below_more _ _ (λ j k. other (2 * w + j) (λ z. omega arith) (λ z. omega arith) (λ z. omega arith) ∙ m.third j k) (bottom ∙ ev);
    small = below_more _ _ (λ j k. rw (other (2 * w + j) (λ z. omega arith) (λ z. omega arith) (λ z. omega arith)) (m.small j k)) (rw bottom sv);
    rest = λ q n. let x = n i (omega arith) in other q x.0 x.1 x.2 ∙ m.rest q (λ j k. n j (omega arith));
  }

-- a row later the work area holds the next three rows
module _ {cells : List ℤ} {w end : ℕ} {before work : List ℕ} (m : Moved cells w end before work w) where
  -- where a place's paint comes from: the row below, or the sheet
  carried : (q : ℕ) → q < end → end + w ≤ q + 3 * w → get_or work (q + 3 * w - (end + w)) 0 ≡ get_or before (q + 3 * w - end) 0
  carried q y a = elim (dec_lt (q + w) end) [ yes b ↦ upper b | no n ↦ lower n ]
    where
      upper : q + w < end → get_or work (q + 3 * w - (end + w)) 0 ≡ get_or before (q + 3 * w - end) 0
      upper b =
          let e : w + (q + 3 * w - (end + w)) ≡ q + 3 * w - end = omega arith in
          m.first (q + 3 * w - (end + w)) (omega arith) ∙ ap (λ (k : ℕ). get_or before k 0) e

      lower : (q + w < end → ⊥) → get_or work (q + 3 * w - (end + w)) 0 ≡ get_or before (q + 3 * w - end) 0
      lower n =
          let d : q + 3 * w - (end + w) ≡ w + (q + w - end) = omega arith in
          let e : 2 * w + (q + w - end) ≡ q + 3 * w - end = omega arith in
          ap (λ (k : ℕ). get_or work k 0) d ∙ m.second (q + w - end) (omega arith) ∙ ap (λ (k : ℕ). get_or before k 0) e

  fresh : (q : ℕ) → (q < end → ⊥) → q + 3 * w - (end + w) ≡ 2 * w + (q - end)
  fresh q n = omega arith

  pub old_rows_on : {old : List ℤ} → OldRows old before w end → ((q : ℕ) → end ≤ q → q < end + w → get_or cells q (pos 0) ≡ at old q) → OldRows old work w (end + w)
  old_rows_on {old} h c = record { paint = λ q y a. go q y a (dec_lt q end) }
    where
      go : (q : ℕ) → q < end + w → end + w ≤ q + 3 * w → Dec (q < end) → get_or work (q + 3 * w - (end + w)) 0 ≡ paint_of (at old q)
      go q y a (yes b) = carried q b a ∙ h.paint q b (omega arith)
      go q y a (no n) =
          let e : end + (q - end) ≡ q = omega arith in
          ap (λ (k : ℕ). get_or work k 0) (fresh q n) ∙ m.third (q - end) (omega arith) ∙ ap (λ (k : ℕ). paint_of (get_or cells k (pos 0))) e ∙ ap paint_of (c q (omega arith) y)

  pub paints_on : RowsHoldPaints before w end → RowsHoldPaints work w (end + w)
  paints_on s = record { small = λ q y a. go q y a (dec_lt q end) }
    where
      go : (q : ℕ) → q < end + w → end + w ≤ q + 3 * w → Dec (q < end) → get_or work (q + 3 * w - (end + w)) 0 ≤ largest_paint
      go q y a (yes b) = rw (carried q b a) (s.small q b (omega arith))
      go q y a (no n) = rw (fresh q n) (m.small (q - end) (omega arith))

-- ---- the whole sheet

-- y rows of the sheet `old` are trimmed, and the last three of them stand in the work area
pub record Rowed (old : List ℤ) (h w : ℕ) (cells : List ℤ) (work : List ℕ) (y : ℕ) : Type 0 where
  pub trimmed : Trimmed old h w (y * w) cells
  pub rows : OldRows old work w (y * w)
  pub paints : RowsHoldPaints work w (y * w)

pub no_rows : (old : List ℤ) (work : List ℕ) (h w : ℕ) → h * w ≤ length old → Rowed old h w old work 0
no_rows old work h w l =
    let z : 0 * w ≡ 0 = zero-mul w in
    record {
      trimmed = rw z (record { whole = l; filled = filled_none (trimmed (sheet_of old h w)) old });
      rows = record { paint = λ q y a. absurd (omega arith) };
      paints = record { small = λ q y a. absurd (omega arith) };
    }

module _ {old : List ℤ} {h w : ℕ} {cells : List ℤ} {work : List ℕ} {y : ℕ} (r : Rowed old h w cells work y) (l : y < h) where
  -- the row's end is on the sheet
  pub row_inside : y * w + w ≤ h * w
  row_inside = let k : y + 1 ≤ h = omega arith in omega (arith, mul-le-mul_right w k, add-mul y 1 w)

  -- the rows from y on are untouched
  ahead : (q : ℕ) → y * w ≤ q → q < y * w + w → get_or cells q (pos 0) ≡ at old q
  ahead q a b =
      rw (r.trimmed.filled, filled_past (y * w) (trimmed (sheet_of old h w)) old (pos 0) q a)
      (read_at old q (omega (arith, row_inside, r.trimmed.whole)))

  -- once the row is taken in there is room for its tests
  pub row_room : {new : List ℕ} → length cells ≡ length old → Moved cells w (y * w) work new w → h ≤ 512 → w ≤ 512 → 3 * w ≤ length new → (x : ℕ) → x < w → SpotFits cells new (spot_at h w y x)
  row_room e m a b c x k = record {
    row = l;
    col = k;
    tall = a;
    wide = b;
    sheet = omega (arith, r.trimmed.whole, e);
    rows = c;
    paints = paints_on m r.paints;
  }

  -- one more row
  pub rowed_more : {new : List ℕ} {cells' : List ℤ} → Moved cells w (y * w) work new w →
      (OldRows old new w (y * w + w) → Trimmed old h w (y * w) cells → Trimmed old h w (y * w + w) cells') → Rowed old h w cells' new (y + 1)
  rowed_more m t =
      let next : y * w + w ≡ (y + 1) * w = omega (arith, add-mul y 1 w) in
      let rows = old_rows_on m r.rows ahead in
      record {
        trimmed = rw next at (t rows r.trimmed);
        rows = rw next at rows;
        paints = rw next at (paints_on m r.paints);
      }

-- all rows
pub all_rows : {old cells : List ℤ} {h w : ℕ} → 4 ≤ h → 4 ≤ w → Trimmed old h w (h * w) cells → cells ≡ over (trim (sheet_of old h w)).cells old
unfolding trim sheet_of area over filled
all_rows {old} {cells} {h} {w} a b t =
    rw (le-ltb h 4 a, le-ltb w 4 b)
    (rw (table-length (h * w) (trimmed (sheet_of old h w))) t.filled)

-- a sheet of fewer than 4 rows or columns
pub too_small : (old : List ℤ) (h w : ℕ) → h * w ≤ length old → (ltb h 4 || ltb w 4) ≡ true → old ≡ over (trim (sheet_of old h w)).cells old
unfolding trim sheet_of over
too_small old h w l e = rw e (rw (length-take-le (h * w) old l) (sym (take-append-drop (h * w) old)))
