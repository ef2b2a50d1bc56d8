-- Padding: what the padded sheet holds, that it can be written from the last cell down, and that it has a ring. Assumes nothing.
use Prim.Native.Nat.{ℕ, ◌+◌, ◌-◌, ◌*◌, ◌≤◌, ◌<◌}
use mathlib.Core.Path.{◌≡◌, refl, sym, ap, ◌∙◌, subst}
use mathlib.Core.Bool.{Bool, true, false, ◌&&◌, cond}
use mathlib.Core.List.{List}
use native.Mathlib.Nat.{mul-le-mul, zero-mul}
use native.Mathlib.Omega.{arith}
use lib.Dec.{leb}
use lib.IntN.{ℤ, negsuc}
use lib.Signed.{non_neg}
use lib.ListN.{length, get_or, take, set}
use lib.Seq.{get_or-set_other}
use Rattle.base.specs.Outputs.{filled}
use Rattle.base.proofs.Counting.{case, both, left, right, leb_yes, yes_leb, table_at}
use Rattle.rules.specs.Sheet.{Sheet, sheet_of}
use Rattle.rules.specs.Regions.{at, opaque}
use Rattle.rules.specs.Outline.{touches, padded_at, padded, has_ring}
use Rattle.grid.proofs.Places.{row_of, col_of, place_in_lem, area as area-fits}
use Rattle.outline.specs.Room.{Present, from_one, on_sheet}
use Rattle.outline.specs.Rows.{stretch}
use Rattle.outline.proofs.Places.{front_at, row_on}
use Rattle.outline.proofs.Fillings.{Span, span_none, span-before, span_filled, stretch-span, row_more, row_ends, filled_front}
use Rattle.outline.proofs.Edges.{Edge, top, bottom, start, end, Touching, touching}
use Rattle.outline.proofs.Rings.{Beside, above, below, leftward, rightward, ring_yes, ring-found}

pub on-sheet_yes : (h w y x : ℕ) → on_sheet h w y x ≡ true → (1 ≤ y) × (y ≤ h) × (1 ≤ x) × (x ≤ w)
unfolding on_sheet from_one
on-sheet_yes h w y x e =
    let a = left (leb 1 y && leb y h) (leb 1 x && leb x w) e in
    let b = right (leb 1 y && leb y h) (leb 1 x && leb x w) e in
    (leb_yes (left _ (leb y h) a), leb_yes (right (leb 1 y) _ a), leb_yes (left _ (leb x w) b), leb_yes (right (leb 1 x) _ b))

pub yes_on-sheet : (h w y x : ℕ) → 1 ≤ y → y ≤ h → 1 ≤ x → x ≤ w → on_sheet h w y x ≡ true
unfolding on_sheet from_one
yes_on-sheet h w y x a b c d = both (both (yes_leb a) (yes_leb b)) (both (yes_leb c) (yes_leb d))

regrouped : (a b c : Bool) → (a && b && c) ≡ (a && (b && c))
regrouped true b c = refl
regrouped false b c = refl

pub padded-at : (s : Sheet) (y x : ℕ) → x < s.width + 2
    → padded_at s (y * (s.width + 2) + x) ≡ cond (on_sheet s.height s.width y x) (at s.cells ((y - 1) * s.width + (x - 1))) (negsuc 0)
unfolding padded_at on_sheet from_one
padded-at s y x h =
    rw (row_of (s.width + 2) y x h, col_of (s.width + 2) y x h)
    (ap (λ (b : Bool). cond b (at s.cells ((y - 1) * s.width + (x - 1))) (negsuc 0)) (regrouped (leb 1 y && leb y s.height) (leb 1 x) (leb x s.width)))

-- ---- written in place

-- where the cell is read
pub on_there : (cells : List ℤ) (h w y x : ℕ) → Present cells h w → on_sheet h w y x ≡ true
    → (1 ≤ y) × (1 ≤ x) × ((y - 1) * w + (x - 1) < length cells) × ((y - 1) * w + (x - 1) ≤ 264196)
on_there cells h w y x k e =
    let b = on-sheet_yes h w y x e in
    let l : (y - 1) * w + (x - 1) < h * w = place_in_lem h w (y - 1) (x - 1) (omega (arith, b.0, b.1)) (omega (arith, b.2, b.3)) in
    (b.0, b.2, omega (arith, k.room), omega (arith, area-fits h w k.high k.wide))

-- the cell that code writes
pub cell-padded : (l : List ℤ) (h w y x : ℕ) → x < w + 2 → cond (on_sheet h w y x) (at l ((y - 1) * w + (x - 1))) (negsuc 0) ≡ padded_at (sheet_of l h w) (y * (w + 2) + x)
unfolding sheet_of
cell-padded l h w y x lx = case (on_sheet h w y x) (λ e. rw e (same (on-sheet_yes h w y x e))) (λ z. rw z) ∙ sym (padded-at (sheet_of l h w) y x lx)
  where
    same : (1 ≤ y) × (y ≤ h) × (1 ≤ x) × (x ≤ w) → at l ((y - 1) * w + (x - 1)) ≡ at (take (h * w) l) ((y - 1) * w + (x - 1))
    same b = sym (front_at (h * w) l ((y - 1) * w + (x - 1)) (place_in_lem h w (y - 1) (x - 1) (omega arith) (omega arith)))

-- it is made of one that lies below its row
pub padded-same : (l m : List ℤ) (h w y x : ℕ) → x < w + 2 → ((q : ℕ) → q < y * (w + 2) → get_or m q (negsuc 0) ≡ get_or l q (negsuc 0))
    → padded_at (sheet_of m h w) (y * (w + 2) + x) ≡ padded_at (sheet_of l h w) (y * (w + 2) + x)
unfolding at
padded-same l m h w y x lx low =
    sym (cell-padded m h w y x lx) ∙ case (on_sheet h w y x) (λ e. rw e (low ((y - 1) * w + (x - 1)) (under (on-sheet_yes h w y x e)))) (λ z. rw z) ∙ cell-padded l h w y x lx
  where
    under : (1 ≤ y) × (y ≤ h) × (1 ≤ x) × (x ≤ w) → (y - 1) * w + (x - 1) < y * (w + 2)
    under b =
        let down : (y - 1) * w + (x - 1) < y * w = place_in_lem y w (y - 1) (x - 1) (omega arith) (omega arith) in
        let wider : y * w ≤ y * (w + 2) = mul-le-mul (omega arith) (omega arith) in
        omega arith

-- row y so far, between its ends: its cells before column x are written
abbrev pub Row : (h w y x : ℕ) (l m : List ℤ) → Type 0
Row h w y x l m = Span (negsuc 0) (y * (w + 2) + 1) (y * (w + 2) + x) (padded_at (sheet_of l h w)) l m

module _ (h w y x : ℕ) {l m : List ℤ} (r : Row h w y x l m) (ly : y < h + 2) (room : (h + 2) * (w + 2) ≤ length l) where
  pub pad_more : 1 ≤ x → x < w + 2 → Row h w y (x + 1) l (set m (y * (w + 2) + x) (padded_at (sheet_of m h w) (y * (w + 2) + x)))
  pad_more low lx =
      row_more (y * (w + 2)) x r low (omega (arith, place_in_lem (h + 2) (w + 2) y x ly lx)) _ (padded-same l m h w y x lx (λ q i. r.low q (omega arith)))

  pub pad_ends : x ≡ w + 1 → (j k : List ℤ) → j ≡ set m (y * (w + 2) + 0) (padded_at (sheet_of m h w) (y * (w + 2) + 0))
      → k ≡ set j (y * (w + 2) + (w + 1)) (padded_at (sheet_of j h w) (y * (w + 2) + (w + 1))) → k ≡ stretch (y * (w + 2)) (w + 2) (padded_at (sheet_of l h w)) l
  pad_ends e j k ej ek =
      let under : (q : ℕ) → q < y * (w + 2) → get_or j q (negsuc 0) ≡ get_or l q (negsuc 0) = λ q i. ap (λ (c : List ℤ). get_or c q (negsuc 0)) ej ∙ get_or-set_other m _ q _ (negsuc 0) (λ z. omega arith) ∙ r.low q (omega arith) in
      ek ∙ ap (λ (c : List ℤ). set c (y * (w + 2) + (w + 1)) (padded_at (sheet_of j h w) (y * (w + 2) + (w + 1)))) ej
      ∙ row_ends (y * (w + 2)) x r (omega arith) (w + 2) (w + 1) (omega arith) (omega arith) (omega arith) (omega (arith, place_in_lem (h + 2) (w + 2) y (w + 1) ly (omega arith))) _ _
      (padded-same l m h w y 0 (omega arith) (λ q i. r.low q (omega arith))) (padded-same l j h w y (w + 1) (omega arith) under)

-- padding so far: the rows from y on are done
pub record Pads (h w y : ℕ) (l m : List ℤ) : Type 0 where
  pub low : y ≤ h + 2
  pub moved : Span (negsuc 0) (y * (w + 2)) ((h + 2) * (w + 2)) (padded_at (sheet_of l h w)) l m

pub pads-start : (h w : ℕ) (l : List ℤ) → Pads h w (h + 2) l l
pads-start h w l = record { low = omega arith; moved = span_none _ _ _ _ }

pub pads_step : {h w y : ℕ} {l m : List ℤ} → Pads h w y l m → (h + 2) * (w + 2) ≤ length l → (v : ℕ) → v + 1 ≡ y
    → (k : List ℤ) → k ≡ stretch (v * (w + 2)) (w + 2) (padded_at (sheet_of m h w)) m → Pads h w v l k
pads_step {h} {w} {y} {l} {m} s room v up k e =
    let below : y * (w + 2) ≤ (h + 2) * (w + 2) = mul-le-mul s.low (omega arith) in
    let row : Span (negsuc 0) (v * (w + 2)) (y * (w + 2)) (padded_at (sheet_of m h w)) m k = rw (e, sym on) (stretch-span (negsuc 0) (w + 2) (padded_at (sheet_of m h w)) m (v * (w + 2)) (omega (arith, on, s.moved.size))) in
    record { low = omega (arith, s.low); moved = span-before (omega (arith, on)) below s.moved row same }
  where
    on : v * (w + 2) + (w + 2) ≡ y * (w + 2)
    on = sym (row_on v (w + 2)) ∙ ap (λ (i : ℕ). i * (w + 2)) up

    same : (q : ℕ) → v * (w + 2) ≤ q → q < y * (w + 2) → padded_at (sheet_of m h w) q ≡ padded_at (sheet_of l h w) q
    same q a b =
        let e : v * (w + 2) + (q - v * (w + 2)) ≡ q = omega arith in
        subst (λ (i : ℕ). padded_at (sheet_of m h w) i ≡ padded_at (sheet_of l h w) i) e (padded-same l m h w v (q - v * (w + 2)) (omega (arith, on)) (λ i k. s.moved.low i (omega (arith, on))))

pub pads_end : {h w y : ℕ} {l m : List ℤ} → Pads h w y l m → y ≡ 0 → (h + 2) * (w + 2) ≤ length l → m ≡ filled ((h + 2) * (w + 2)) (padded_at (sheet_of l h w)) l
pads_end {h} {w} k e room = span_filled _ _ _ _ _ room (rw (e, zero-mul (w + 2)) at k.moved)

-- what stands at the front after padding is the padded sheet
pub sheet-padded : (l : List ℤ) (h w : ℕ) → sheet_of (filled ((h + 2) * (w + 2)) (padded_at (sheet_of l h w)) l) (h + 2) (w + 2) ≡ padded (sheet_of l h w)
unfolding sheet_of padded
sheet-padded l h w = ap (λ (c : List ℤ). record { cells = c; height = h + 2; width = w + 2 }) (filled_front ((h + 2) * (w + 2)) (padded_at (sheet_of l h w)) l)

-- ---- its ring

module _ (s : Sheet) where
  cell_of_lem : (y x : ℕ) → y < s.height + 2 → x < s.width + 2
      → opaque (padded s).cells (y * (s.width + 2) + x) ≡ non_neg (cond (on_sheet s.height s.width y x) (at s.cells ((y - 1) * s.width + (x - 1))) (negsuc 0))
  unfolding padded opaque at
  cell_of_lem y x ly lx =
      ap non_neg (table_at ((s.height + 2) * (s.width + 2)) (padded_at s) (negsuc 0) (y * (s.width + 2) + x) (place_in_lem (s.height + 2) (s.width + 2) y x ly lx)
      ∙ padded-at s y x lx)

  inner : (v u : ℕ) → v < s.height → u < s.width → opaque s.cells (v * s.width + u) ≡ true → opaque (padded s).cells ((v + 1) * (s.width + 2) + (u + 1)) ≡ true
  unfolding opaque
  inner v u lv lu o =
      let e : (v + 1 - 1) * s.width + (u + 1 - 1) ≡ v * s.width + u = simp_one v u in
      cell_of_lem (v + 1) (u + 1) (omega arith) (omega arith)
      ∙ ap (λ (b : Bool). non_neg (cond b (at s.cells ((v + 1 - 1) * s.width + (u + 1 - 1))) (negsuc 0))) (yes_on-sheet s.height s.width (v + 1) (u + 1) (omega arith) (omega arith) (omega arith) (omega arith))
      ∙ ap (λ (i : ℕ). non_neg (at s.cells i)) e
      ∙ o
    where
      simp_one : (a b : ℕ) → (a + 1 - 1) * s.width + (b + 1 - 1) ≡ a * s.width + b
      simp_one a b = let i : a + 1 - 1 ≡ a = omega arith in let j : b + 1 - 1 ≡ b = omega arith in rw (i, j)

  border : (y x : ℕ) → y < s.height + 2 → x < s.width + 2 → (on_sheet s.height s.width y x ≡ true → ⊥) → opaque (padded s).cells (y * (s.width + 2) + x) ≡ false
  border y x ly lx n =
      cell_of_lem y x ly lx
      ∙ ap (λ (b : Bool). non_neg (cond b (at s.cells ((y - 1) * s.width + (x - 1))) (negsuc 0))) (case (on_sheet s.height s.width y x) (λ e. absurd (n e)) (λ z. z))

  -- a sheet that is padded because an edge is touched has a ring
  pub padded-ring : touches s ≡ true → has_ring (padded s) ≡ true
  unfolding padded
  padded-ring t = go k.edge
    where
      k : Touching s
      k = touching s t

      -- the border's cell in row y and column x, beside the cell that touches
      from : (y x : ℕ) → y < s.height + 2 → x < s.width + 2 → ((1 ≤ y) × (y ≤ s.height) × (1 ≤ x) × (x ≤ s.width) → ⊥) → Beside y x (k.row + 1) (k.col + 1) → has_ring (padded s) ≡ true
      from y x ly lx n b =
          ring-found (padded s) (y * (s.width + 2) + x) (place_in_lem (s.height + 2) (s.width + 2) y x ly lx)
          (ring_yes (padded s) y x ly lx (k.row + 1) (k.col + 1) (omega (arith, k.in_row)) (omega (arith, k.in_col)) b
          (border y x ly lx (λ e. n (on-sheet_yes s.height s.width y x e)))
          (inner k.row k.col k.in_row k.in_col k.solid))

      go : Edge s.height s.width k.row k.col → has_ring (padded s) ≡ true
      go (top e) = from 0 (k.col + 1) (omega arith) (omega (arith, k.in_col)) (λ i. omega arith) (below (omega arith) refl)
      go (bottom e) = from (s.height + 1) (k.col + 1) (omega arith) (omega (arith, k.in_col)) (λ i. omega arith) (above (omega arith) refl)
      go (start e) = from (k.row + 1) 0 (omega (arith, k.in_row)) (omega arith) (λ i. omega arith) (rightward refl (omega arith))
      go (end e) = from (k.row + 1) (s.width + 1) (omega (arith, k.in_row)) (omega arith) (λ i. omega arith) (leftward refl (omega arith))
