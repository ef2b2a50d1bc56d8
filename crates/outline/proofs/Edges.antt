-- Which cells touch an edge. Assumes nothing.
use Prim.Native.Nat.{ℕ, ◌+◌, ◌-◌, ◌*◌, ◌/◌, ◌%◌, ◌≤◌, ◌<◌}
use mathlib.Core.Path.{◌≡◌, refl, sym, ap, ◌∙◌, subst}
use mathlib.Core.Logic.{⊎_elim}
use mathlib.Core.Bool.{Bool, true, false, ◌||◌}
use mathlib.Core.List.{List}
use native.Mathlib.Nat.{div-add-mod', mul-one, zero-mul}
use native.Mathlib.Omega.{arith}
use lib.Dec.{eqb}
use lib.IntN.{ℤ}
use Rattle.base.specs.Places.{any}
use Rattle.base.proofs.Counting.{both, left, right, either, or_left, or_right, eqb_yes, yes_eqb, any_yes, yes_any, same_test}
use Rattle.rules.specs.Sheet.{Sheet, area, sheet_of}
use Rattle.rules.specs.Regions.{opaque}
use Rattle.rules.specs.Grid.{on_edge}
use Rattle.rules.specs.Outline.{touches}
use Rattle.grid.proofs.Places.{wide, row_in, col_in, row_of, col_of, place_in_lem}
use Rattle.outline.proofs.Places.{row_back, some_row, front}

-- the cell in row y and column x of a sheet of h rows of w cells lies on an edge
pub data Edge (h w y x : ℕ) : Type 0 where
  top : y ≡ 0 → Edge h w y x
  bottom : y + 1 ≡ h → Edge h w y x
  start : x ≡ 0 → Edge h w y x
  end : x + 1 ≡ w → Edge h w y x

on_edge_lem : (h w p : ℕ) → on_edge h w p ≡ true → Edge h w (p / w) (p % w)
unfolding on_edge
on_edge_lem h w p e =
    ⊎_elim (λ a. ⊎_elim (λ b. ⊎_elim (λ c. top (eqb_yes c)) (λ c. bottom (eqb_yes c)) (either _ _ b)) (λ b. start (eqb_yes b)) (either _ _ a)) (λ a. end (eqb_yes a))
    (either (eqb (p / w) 0 || eqb (p / w + 1) h || eqb (p % w) 0) _ e)

edge_on : (h w p : ℕ) → Edge h w (p / w) (p % w) → on_edge h w p ≡ true
unfolding on_edge
edge_on h w p (top e) = or_left _ (or_left _ (or_left _ (yes_eqb {m = p / w} e)))
edge_on h w p (bottom e) = or_left _ (or_left _ (or_right (eqb (p / w) 0) (yes_eqb {m = p / w + 1} e)))
edge_on h w p (start e) = or_left _ (or_right (eqb (p / w) 0 || eqb (p / w + 1) h) (yes_eqb {m = p % w} e))
edge_on h w p (end e) = or_right (eqb (p / w) 0 || eqb (p / w + 1) h || eqb (p % w) 0) (yes_eqb {m = p % w + 1} e)

-- an opaque cell on an edge touches it
pub touch_yes : (s : Sheet) (y x : ℕ) → y < s.height → x < s.width → Edge s.height s.width y x → opaque s.cells (y * s.width + x) ≡ true → touches s ≡ true
unfolding touches area
touch_yes s y x ly lx e o =
    let w = s.width in
    yes_any _ _ (y * w + x) (place_in_lem s.height w y x ly lx)
    (both o (edge_on s.height w (y * w + x) (subst (λ (i : ℕ). Edge s.height w i ((y * w + x) % w)) (sym (row_of w y x lx))
    (subst (λ (j : ℕ). Edge s.height w y j) (sym (col_of w y x lx)) e))))

-- such a cell is there, if an edge is touched
pub record Touching (s : Sheet) : Type 0 where
  pub row : ℕ
  pub col : ℕ
  pub in_row : row < s.height
  pub in_col : col < s.width
  pub edge : Edge s.height s.width row col
  pub solid : opaque s.cells (row * s.width + col) ≡ true

pub touching : (s : Sheet) → touches s ≡ true → Touching s
unfolding touches area
touching s e =
    let r = any_yes _ _ e in
    let w = s.width in
    let p = r.0 in
    record {
      row = p / w;
      col = p % w;
      in_row = row_in s.height w p r.1;
      in_col = col_in s.height w p r.1;
      edge = on_edge_lem s.height w p (right (opaque s.cells p) _ r.2);
      solid = subst (λ (i : ℕ). opaque s.cells i ≡ true) (sym (div-add-mod' p w)) (left _ (on_edge s.height w p) r.2);
    }

-- ---- the four lines of cells along the edges

-- the cells from one on, in equal steps, lie on an edge
pub record Line (h w from by many : ℕ) : Type 0 where
  pub row : ℕ → ℕ
  pub col : ℕ → ℕ
  pub in_row : (i : ℕ) → i < many → row i < h
  pub in_col : (i : ℕ) → i < many → col i < w
  pub edge : (i : ℕ) → i < many → Edge h w (row i) (col i)
  pub on : (i : ℕ) → i < many → from + i * by ≡ row i * w + col i

module _ (h w : ℕ) (some : 0 < h * w) where
  high : 1 ≤ h
  high = some_row h w some

  broad : 0 < w
  broad = wide h w 0 some

  top-line : Line h w 0 1 w
  top-line =
      record {
        row = λ i. 0;
        col = λ i. i;
        in_row = λ i k. omega (arith, high);
        in_col = λ i k. k;
        edge = λ i k. top refl;
        on = λ i k. omega (arith, mul-one i, zero-mul w);
      }

  bottom_line : Line h w (h * w - w) 1 w
  bottom_line =
      record {
        row = λ i. h - 1;
        col = λ i. i;
        in_row = λ i k. omega (arith, high);
        in_col = λ i k. k;
        edge = λ i k. bottom (omega (arith, high));
        on = λ i k. omega (arith, mul-one i, row_back h w high);
      }

  start-line : Line h w 0 w h
  start-line =
      record { row = λ i. i; col = λ i. 0; in_row = λ i k. k; in_col = λ i k. broad; edge = λ i k. start refl; on = λ i k. omega arith }

  end_line : Line h w (w - 1) w h
  end_line =
      record {
        row = λ i. i;
        col = λ i. w - 1;
        in_row = λ i k. k;
        in_col = λ i k. omega (arith, broad);
        edge = λ i k. end (omega (arith, broad));
        on = λ i k. omega arith;
      }

module _ (cells : List ℤ) (h w : ℕ) where
  -- an opaque cell among some along a line
  abbrev pub Hit : ℕ → ℕ → ℕ → Bool
  Hit from by many = any many (λ i. opaque cells (from + i * by))

  line_hit : {from by many : ℕ} → Line h w from by many → Hit from by many ≡ true → touches (sheet_of cells h w) ≡ true
  unfolding sheet_of
  line_hit {from} {by} t e =
      let r = any_yes _ _ e in
      let i = r.0 in
      let y = t.row i in
      let x = t.col i in
      touch_yes (sheet_of cells h w) y x (t.in_row i r.1) (t.in_col i r.1) (t.edge i r.1)
      (front (h * w) cells (y * w + x) (place_in_lem h w y x (t.in_row i r.1) (t.in_col i r.1)) ∙ subst (λ (p : ℕ). opaque cells p ≡ true) (t.on i r.1) r.2)

  -- a cell that is known to be opaque is met
  met : (from by many i p : ℕ) → i < many → from + i * by ≡ p → opaque cells p ≡ true → Hit from by many ≡ true
  met from by many i p k e o = yes_any _ _ i k (subst (λ (q : ℕ). opaque cells q ≡ true) (sym e) o)

  -- the four lines decide
  pub lines_decide : 0 < h * w → (Hit 0 1 w || Hit (h * w - w) 1 w || Hit 0 w h || Hit (w - 1) w h) ≡ touches (sheet_of cells h w)
  unfolding sheet_of top-line bottom_line start-line end_line
  lines_decide some = same_test hit (λ t. go (touching (sheet_of cells h w) t))
    where
      hit : (Hit 0 1 w || Hit (h * w - w) 1 w || Hit 0 w h || Hit (w - 1) w h) ≡ true → touches (sheet_of cells h w) ≡ true
      hit e =
          ⊎_elim (λ a. ⊎_elim (λ b. ⊎_elim (line_hit (top-line h w some)) (line_hit (bottom_line h w some)) (either _ _ b)) (line_hit (start-line h w some)) (either _ _ a)) (line_hit (end_line h w some))
          (either (Hit 0 1 w || Hit (h * w - w) 1 w || Hit 0 w h) _ e)

      go : Touching (sheet_of cells h w) → (Hit 0 1 w || Hit (h * w - w) 1 w || Hit 0 w h || Hit (w - 1) w h) ≡ true
      go k =
          let y = k.row in
          let x = k.col in
          let o : opaque cells (y * w + x) ≡ true = sym (front (h * w) cells (y * w + x) (place_in_lem h w y x k.in_row k.in_col)) ∙ k.solid in
          elim k.edge [
            | top e ↦ or_left _ (or_left _ (or_left _ (met 0 1 w x (y * w + x) k.in_col ((top-line h w some).on x k.in_col ∙ ap (λ (r : ℕ). r * w + x) (sym e)) o)))
            | bottom e ↦ (let f : h - 1 ≡ y = omega arith in
                or_left _ (or_left _ (or_right (Hit 0 1 w) (met (h * w - w) 1 w x (y * w + x) k.in_col ((bottom_line h w some).on x k.in_col ∙ ap (λ (r : ℕ). r * w + x) f) o))))
            | start e ↦ or_left _ (or_right (Hit 0 1 w || Hit (h * w - w) 1 w) (met 0 w h y (y * w + x) k.in_row ((start-line h w some).on y k.in_row ∙ ap (λ (r : ℕ). y * w + r) (sym e)) o))
            | end e ↦ (let f : w - 1 ≡ x = omega arith in
                or_right (Hit 0 1 w || Hit (h * w - w) 1 w || Hit 0 w h) (met (w - 1) w h y (y * w + x) k.in_row ((end_line h w some).on y k.in_row ∙ ap (λ (r : ℕ). y * w + r) f) o))
          ]

  -- a sheet with no cells
  pub no_cells_lem : h * w ≡ 0 → touches (sheet_of cells h w) ≡ false
  unfolding sheet_of touches area any
  no_cells_lem e = rw e
