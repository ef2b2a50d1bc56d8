-- The ring, cell by cell: what is above, below, left and right of a cell decides it. Assumes nothing.
use Prim.Native.Nat.{ℕ, ◌+◌, ◌-◌, ◌*◌, ◌/◌, ◌%◌, ◌≤◌, ◌<◌}
use mathlib.Core.Path.{◌≡◌, refl, sym, ap, ◌∙◌, subst}
use mathlib.Core.Logic.{◌⊎◌, inl, inr, ⊎_elim}
use mathlib.Core.Bool.{Bool, true, false, not, ◌&&◌, ◌||◌}
use mathlib.Core.List.{List}
use native.Mathlib.Nat.{div-add-mod', suc-mul, mul-zero}
use native.Mathlib.Decide.{dec_lt, ℕ_discrete}
use native.Mathlib.Omega.{arith}
use borrow.Author.Tests.{eq-eqb, ne_eqb, lt-ltb, le-ltb}
use lib.Dec.{leb, eqb}
use lib.IntN.{ℤ}
use lib.ListN.{take}
use Rattle.base.specs.Places.{any}
use Rattle.base.proofs.Counting.{case, clash, both, left, right, either, or_left, or_right, not_true, not_false, eqb_yes, yes_eqb, leb_yes, yes_leb, any_yes, yes_any, same_test}
use Rattle.rules.specs.Sheet.{Sheet, area, sheet_of}
use Rattle.rules.specs.Regions.{opaque}
use Rattle.rules.specs.Grid.{close, eight, four}
use Rattle.rules.specs.Outline.{ring, has_ring}
use Rattle.grid.proofs.Places.{row_in, col_in, row_of, col_of, place_in_lem}
use Rattle.outline.specs.Rows.{back, ahead}
use Rattle.outline.proofs.Places.{row_on, front}

-- the cell in row v and column u is above, below, left or right of the one in row y and column x
pub data Beside (y x v u : ℕ) : Type 0 where
  above : v + 1 ≡ y → u ≡ x → Beside y x v u
  below : v ≡ y + 1 → u ≡ x → Beside y x v u
  leftward : v ≡ y → u + 1 ≡ x → Beside y x v u
  rightward : v ≡ y → u ≡ x + 1 → Beside y x v u

beside_apart : {y x v u : ℕ} → Beside y x v u → (y ≡ v → x ≡ u → ⊥) × (y ≤ v + 1) × (v ≤ y + 1) × (x ≤ u + 1) × (u ≤ x + 1) × ((y ≡ v) ⊎ (x ≡ u))
beside_apart (above a b) = (λ c d. omega arith, omega arith, omega arith, omega arith, omega arith, inr (sym b))
beside_apart (below a b) = (λ c d. omega arith, omega arith, omega arith, omega arith, omega arith, inr (sym b))
beside_apart (leftward a b) = (λ c d. omega arith, omega arith, omega arith, omega arith, omega arith, inl (sym a))
beside_apart (rightward a b) = (λ c d. omega arith, omega arith, omega arith, omega arith, omega arith, inl (sym a))

-- such cells are neighbours by `four`
four_yes : (w y x v u : ℕ) → x < w → u < w → Beside y x v u → four w (y * w + x) (v * w + u) ≡ true
unfolding four eight close
four_yes w y x v u lx lu b =
    let k = beside_apart b in
    rw (row_of w y x lx, row_of w v u lu, col_of w y x lx, col_of w v u lu)
    (both (both (both (both (yes_leb k.1) (yes_leb k.2)) (both (yes_leb k.3) (yes_leb k.4)))
    (not_false (case (eqb (y * w + x) (v * w + u))
    (λ e. absurd (k.0
    (sym (row_of w y x lx) ∙ ap (λ (n : ℕ). n / w) (eqb_yes {m = y * w + x} e) ∙ row_of w v u lu)
    (sym (col_of w y x lx) ∙ ap (λ (n : ℕ). n % w) (eqb_yes {m = y * w + x} e) ∙ col_of w v u lu)))
    (λ z. z))))
    (⊎_elim (λ e. or_left _ (yes_eqb {m = y} {n = v} e)) (λ e. or_right (eqb y v) (yes_eqb {m = x} {n = u} e)) k.5))

-- and every neighbour by `four` is such a cell
four_beside : (w p q : ℕ) → four w p q ≡ true → Beside (p / w) (p % w) (q / w) (q % w)
unfolding four eight close
four_beside w p q e =
    let e8 = left _ (eqb (p / w) (q / w) || eqb (p % w) (q % w)) e in
    let en = left _ (not (eqb p q)) e8 in
    let rows = left _ (leb (p % w) (q % w + 1) && leb (q % w) (p % w + 1)) en in
    let cols = right (leb (p / w) (q / w + 1) && leb (q / w) (p / w + 1)) _ en in
    let a : p / w ≤ q / w + 1 = leb_yes (left _ (leb (q / w) (p / w + 1)) rows) in
    let b : q / w ≤ p / w + 1 = leb_yes (right (leb (p / w) (q / w + 1)) _ rows) in
    let c : p % w ≤ q % w + 1 = leb_yes (left _ (leb (q % w) (p % w + 1)) cols) in
    let d : q % w ≤ p % w + 1 = leb_yes (right (leb (p % w) (q % w + 1)) _ cols) in
    let n = not_true (right (leb (p / w) (q / w + 1) && leb (q / w) (p / w + 1) && (leb (p % w) (q % w + 1) && leb (q % w) (p % w + 1))) (not (eqb p q)) e8) in
    go a b c d (λ y x. clash (yes_eqb {m = p} {n = q} (sym (div-add-mod' p w) ∙ ap (λ (r : ℕ). r * w + p % w) y ∙ ap (λ (c : ℕ). q / w * w + c) x ∙ div-add-mod' q w)) n) (either _ _ (right (eight w p q) (eqb (p / w) (q / w) || eqb (p % w) (q % w)) e))
  where
    go : p / w ≤ q / w + 1 → q / w ≤ p / w + 1 → p % w ≤ q % w + 1 → q % w ≤ p % w + 1 → (p / w ≡ q / w → p % w ≡ q % w → ⊥)
        → (eqb (p / w) (q / w) ≡ true) ⊎ (eqb (p % w) (q % w) ≡ true) → Beside (p / w) (p % w) (q / w) (q % w)
    go a b c d n (inl z) =
        let y : p / w ≡ q / w = eqb_yes z in
        elim (dec_lt (p % w) (q % w)) [ yes l ↦ rightward (sym y) (omega arith) | no g ↦ elim (ℕ_discrete (p % w) (q % w)) [ yes i ↦ absurd (n y i) | no i ↦ leftward (sym y) (omega arith) ] ]
    go a b c d n (inr z) =
        let x : p % w ≡ q % w = eqb_yes z in
        elim (dec_lt (p / w) (q / w)) [ yes l ↦ below (omega arith) (sym x) | no g ↦ elim (ℕ_discrete (p / w) (q / w)) [ yes i ↦ absurd (n i x) | no i ↦ above (omega arith) (sym x) ] ]

module _ (s : Sheet) (y x : ℕ) (ly : y < s.height) (lx : x < s.width) where
  -- an opaque cell is not of the ring
  pub ring_solid : opaque s.cells (y * s.width + x) ≡ true → ring s (y * s.width + x) ≡ false
  unfolding ring
  ring_solid o = rw o

  -- a transparent one is, with an opaque cell beside it
  pub ring_yes : (v u : ℕ) → v < s.height → u < s.width → Beside y x v u
      → opaque s.cells (y * s.width + x) ≡ false → opaque s.cells (v * s.width + u) ≡ true → ring s (y * s.width + x) ≡ true
  unfolding ring area
  ring_yes v u lv lu b z o =
      both (not_false z)
      (yes_any _ _ (v * s.width + u) (place_in_lem s.height s.width v u lv lu) (both (four_yes s.width y x v u lx lu b) o))

  -- and is not, where every cell beside it is transparent
  pub ring_no : ((v u : ℕ) → v < s.height → u < s.width → Beside y x v u → opaque s.cells (v * s.width + u) ≡ false) → ring s (y * s.width + x) ≡ false
  unfolding ring area
  ring_no f =
      case (ring s (y * s.width + x)) (λ e. absurd (hit (any_yes _ _ (right (not (opaque s.cells (y * s.width + x))) _ e)))) (λ z. z)
    where
      hit : (q : ℕ) × (q < s.height * s.width) × ((four s.width (y * s.width + x) q && opaque s.cells q) ≡ true) → ⊥
      hit r =
          let w = s.width in
          let q = r.0 in
          let b : Beside y x (q / w) (q % w) = subst (λ (i : ℕ). Beside i x (q / w) (q % w)) (row_of w y x lx)
          (subst (λ (j : ℕ). Beside ((y * w + x) / w) j (q / w) (q % w)) (col_of w y x lx)
          (four_beside w (y * w + x) q (left _ (opaque s.cells q) r.2))) in
          let o : opaque s.cells q ≡ true = right (four w (y * w + x) q) _ r.2 in
          clash (subst (λ (i : ℕ). opaque s.cells i ≡ true) (sym (div-add-mod' q w)) o) (f (q / w) (q % w) (row_in s.height w q r.1) (col_in s.height w q r.1) b)

-- there is a ring where one of the cells is of it
pub ring-found : (s : Sheet) (p : ℕ) → p < s.height * s.width → ring s p ≡ true → has_ring s ≡ true
unfolding has_ring area
ring-found s p h e = yes_any _ _ p h e

-- ---- a search, row after row

-- the first place alone
pub any-first : (t : ℕ → Bool) → t 0 ≡ any 1 t
unfolding any
any-first t = case (t 0) (λ y. rw y) (λ z. rw z)

-- all places below x, and the last of w
pub any_last : (t : ℕ → Bool) (w last x : ℕ) → last + 1 ≡ w → x ≤ w → last ≤ x → {a b : Bool} → a ≡ t last → b ≡ any x t → (a || b) ≡ any w t
any_last t w last x e up down {a} {b} ea eb = same_test (λ y. ⊎_elim here there (either a b y)) (λ y. back (any_yes w t y))
  where
    here : a ≡ true → any w t ≡ true
    here y = yes_any w t last (omega arith) (sym ea ∙ y)

    there : b ≡ true → any w t ≡ true
    there y = let r = any_yes x t (sym eb ∙ y) in yes_any w t r.0 (omega (arith, r.1)) r.2

    back : (p : ℕ) × (p < w) × (t p ≡ true) → (a || b) ≡ true
    back r =
        elim (ℕ_discrete r.0 last) [
          | yes i ↦ or_left b (ea ∙ ap t (sym i) ∙ r.2)
          | no i ↦ or_right a (eb ∙ yes_any x t r.0 (omega (arith, r.1)) r.2)
        ]

-- a row has a ring cell where there is a ring, and none has where there is none
pub rows_ring : (cells : List ℤ) (h w : ℕ) → any h (λ y. any w (λ x. ring (sheet_of cells h w) (y * w + x))) ≡ has_ring (sheet_of cells h w)
unfolding has_ring area sheet_of
rows_ring cells h w = same_test there here
  where
    there : any h (λ y. any w (λ x. ring (sheet_of cells h w) (y * w + x))) ≡ true → any (h * w) (ring (sheet_of cells h w)) ≡ true
    there e =
        let y = any_yes _ _ e in
        let x = any_yes _ _ y.2 in
        yes_any _ _ (y.0 * w + x.0) (place_in_lem h w y.0 x.0 y.1 x.1) x.2

    here : any (h * w) (ring (sheet_of cells h w)) ≡ true → any h (λ y. any w (λ x. ring (sheet_of cells h w) (y * w + x))) ≡ true
    here e =
        let p = any_yes _ _ e in
        yes_any _ _ (p.0 / w) (row_in h w p.0 p.1)
        (yes_any _ (λ x. ring (sheet_of cells h w) (p.0 / w * w + x)) (p.0 % w) (col_in h w p.0 p.1) (subst (λ (q : ℕ). ring (sheet_of cells h w) q ≡ true) (sym (div-add-mod' p.0 w)) p.2))

-- a sheet with no columns
pub no_columns : (cells : List ℤ) (h w : ℕ) → w ≡ 0 → has_ring (sheet_of cells h w) ≡ false
unfolding has_ring area sheet_of any
no_columns cells h w e = rw (e, mul-zero h)

-- ---- the ring of the sheet at the front of a list, as code reads it

-- the place p is in row y and column x
pub record Spotted (h w y x p : ℕ) : Type 0 where
  pub row : y < h
  pub col : x < w
  pub place : p ≡ y * w + x

up_place : {h w y x p : ℕ} → Spotted h w y x p → (v : ℕ) → v + 1 ≡ y → p ≡ v * w + x + w
up_place {w = w} {y = y} {x = x} k v e =
    let back : v * w + w ≡ y * w = sym (suc-mul v w) ∙ ap (λ (i : ℕ). i * w) (omega arith) in
    omega (arith, k.place)

down_place : {h w y x p : ℕ} → Spotted h w y x p → p + w ≡ (y + 1) * w + x
down_place {w = w} {y = y} k = omega (arith, k.place, row_on y w)

pub here_in : {h w y x p : ℕ} → Spotted h w y x p → p < h * w
here_in {h} {w} {y} {x} k = omega (arith, k.place, place_in_lem h w y x k.row k.col)

-- the places a step before and after one, where there are such, and where there are none
back_on : (p step i : ℕ) → 1 ≤ i → back p step i ≡ p - step
unfolding back
back_on p step i h = rw (ne_eqb i 0 (λ z. omega arith))

back-off : (p step i : ℕ) → i ≡ 0 → back p step i ≡ p
unfolding back
back-off p step i e = rw (eq-eqb i 0 e)

ahead-on : (p step i n : ℕ) → i + 1 < n → ahead p step i n ≡ p + step
unfolding ahead
ahead-on p step i n h = rw (lt-ltb (i + 1) n h)

ahead-off : (p step i n : ℕ) → n ≤ i + 1 → ahead p step i n ≡ p
unfolding ahead
ahead-off p step i n h = rw (le-ltb (i + 1) n h)

back_in : (p step i m : ℕ) → p < m → back p step i < m
back_in p step i m h = elim (ℕ_discrete i 0) [ yes e ↦ omega (arith, back-off p step i e) | no z ↦ omega (arith, back_on p step i (omega arith)) ]

ahead_in : (p step i n m : ℕ) → p < m → (i + 1 < n → p + step < m) → ahead p step i n < m
ahead_in p step i n m h f = elim (dec_lt (i + 1) n) [ yes y ↦ omega (arith, ahead-on p step i n y, f y) | no z ↦ omega (arith, ahead-off p step i n (omega arith)) ]

-- the four places that are looked at lie on the sheet
pub record Around (h w y x p : ℕ) : Type 0 where
  pub row : 0 < y → w ≤ p
  pub above : back p w y < h * w
  pub below : ahead p w y h < h * w
  pub left : back p 1 x < h * w
  pub right : ahead p 1 x w < h * w

pub around : {h w y x p : ℕ} → Spotted h w y x p → Around h w y x p
around {h} {w} {y} {x} {p} k =
    let here : p < h * w = here_in k in
    record {
      row = λ l. omega (arith, up_place k (y - 1) (omega arith));
      above = back_in p w y (h * w) here;
      below = ahead_in p w y h (h * w) here (λ l. omega (arith, down_place k, place_in_lem h w (y + 1) x l k.col));
      left = back_in p 1 x (h * w) here;
      right = ahead_in p 1 x w (h * w) here (λ l. omega (arith, k.place, place_in_lem h w y (x + 1) k.row l));
    }

module _ (cells : List ℤ) {h w y x p : ℕ} (k : Spotted h w y x p) where
  same-cell : (v u q : ℕ) → v < h → u < w → q ≡ v * w + u → opaque (take (h * w) cells) (v * w + u) ≡ opaque cells q
  same-cell v u q lv lu e = front (h * w) cells (v * w + u) (place_in_lem h w v u lv lu) ∙ ap (opaque cells) (sym e)

  at_place : {b : Bool} → ring (sheet_of cells h w) (y * w + x) ≡ b → ring (sheet_of cells h w) p ≡ b
  at_place e = ap (ring (sheet_of cells h w)) k.place ∙ e

  pub ring-opaque : opaque cells p ≡ true → ring (sheet_of cells h w) p ≡ false
  unfolding sheet_of
  ring-opaque o = at_place (ring_solid (sheet_of cells h w) y x k.row k.col (same-cell y x p k.row k.col k.place ∙ o))

  -- a transparent one is, if one of the four is opaque: where it stands for one itself, that one is transparent
  module _ (clear : opaque cells p ≡ false) where
    beside : (v u q : ℕ) → v < h → u < w → q ≡ v * w + u → Beside y x v u → opaque cells q ≡ true → ring (sheet_of cells h w) p ≡ true
    unfolding sheet_of
    beside v u q lv lu e b o =
        at_place (ring_yes (sheet_of cells h w) y x k.row k.col v u lv lu b (same-cell y x p k.row k.col k.place ∙ clear) (same-cell v u q lv lu e ∙ o))

    -- an opaque place that is looked at is not p
    apart : (q : ℕ) → opaque cells q ≡ true → q ≡ p → ⊥
    apart q o e = clash (subst (λ (i : ℕ). opaque cells i ≡ true) e o) clear

    from_back : (step i : ℕ) → opaque cells (back p step i) ≡ true → (1 ≤ i) × (opaque cells (p - step) ≡ true)
    from_back step i o =
        elim (ℕ_discrete i 0) [
          | yes e ↦ absurd (apart _ o (back-off p step i e))
          | no z ↦ (omega arith, subst (λ (q : ℕ). opaque cells q ≡ true) (back_on p step i (omega arith)) o)
        ]

    from-ahead : (step i n : ℕ) → opaque cells (ahead p step i n) ≡ true → (i + 1 < n) × (opaque cells (p + step) ≡ true)
    from-ahead step i n o =
        elim (dec_lt (i + 1) n) [
          | yes l ↦ (l, subst (λ (q : ℕ). opaque cells q ≡ true) (ahead-on p step i n l) o)
          | no z ↦ absurd (apart _ o (ahead-off p step i n (omega arith)))
        ]

    abbrev Near : Bool
    Near = opaque cells (back p w y) || opaque cells (ahead p w y h) || (opaque cells (back p 1 x) || opaque cells (ahead p 1 x w))

    near-ring : Near ≡ true → ring (sheet_of cells h w) p ≡ true
    near-ring e = ⊎_elim (λ a. ⊎_elim up down (either _ _ a)) (λ a. ⊎_elim leftwards rightwards (either _ _ a)) (either (opaque cells (back p w y) || opaque cells (ahead p w y h)) _ e)
      where
        up : opaque cells (back p w y) ≡ true → ring (sheet_of cells h w) p ≡ true
        up o =
            let r = from_back w y o in
            beside (y - 1) x (p - w) (omega (arith, k.row)) k.col (omega (arith, up_place k (y - 1) (omega arith))) (above (omega arith) refl) r.1

        down : opaque cells (ahead p w y h) ≡ true → ring (sheet_of cells h w) p ≡ true
        down o = let r = from-ahead w y h o in beside (y + 1) x (p + w) r.0 k.col (down_place k) (below refl refl) r.1

        leftwards : opaque cells (back p 1 x) ≡ true → ring (sheet_of cells h w) p ≡ true
        leftwards o =
            let r = from_back 1 x o in
            beside y (x - 1) (p - 1) k.row (omega (arith, k.col)) (omega (arith, k.place)) (leftward refl (omega arith)) r.1

        rightwards : opaque cells (ahead p 1 x w) ≡ true → ring (sheet_of cells h w) p ≡ true
        rightwards o = let r = from-ahead 1 x w o in beside y (x + 1) (p + 1) k.row r.0 (omega (arith, k.place)) (rightward refl refl) r.1

    -- an opaque cell beside it is seen
    seen : (v u : ℕ) → v < h → u < w → Beside y x v u → opaque cells (v * w + u) ≡ true → Near ≡ true
    seen v u lv lu b o = go b
      where
        at : (q : ℕ) → q ≡ v * w + u → opaque cells q ≡ true
        at q e = subst (λ (i : ℕ). opaque cells i ≡ true) (sym e) o

        go : Beside y x v u → Near ≡ true
        go (above e f) = or_left _ (or_left _ (at _ (back_on p w y (omega arith) ∙ omega (arith, up_place k v e))))
        go (below e f) =
            let row : v * w ≡ (y + 1) * w = ap (λ (i : ℕ). i * w) e in
            or_left _ (or_right (opaque cells (back p w y)) (at _ (ahead-on p w y h (omega arith) ∙ omega (arith, down_place k))))
        go (leftward e f) =
            let row : v * w ≡ y * w = ap (λ (i : ℕ). i * w) e in
            or_right (opaque cells (back p w y) || opaque cells (ahead p w y h)) (or_left _ (at _ (back_on p 1 x (omega arith) ∙ omega (arith, k.place))))
        go (rightward e f) =
            let row : v * w ≡ y * w = ap (λ (i : ℕ). i * w) e in
            or_right (opaque cells (back p w y) || opaque cells (ahead p w y h)) (or_right (opaque cells (back p 1 x)) (at _ (ahead-on p 1 x w (omega arith) ∙ omega (arith, k.place))))

    -- so four tests decide it
    pub ring-near : {a b c e : Bool} → a ≡ opaque cells (back p w y) → b ≡ opaque cells (ahead p w y h) → c ≡ opaque cells (back p 1 x) → e ≡ opaque cells (ahead p 1 x w)
        → (a || b || (c || e)) ≡ ring (sheet_of cells h w) p
    unfolding sheet_of
    ring-near ea eb ec ee =
        rw (ea, eb, ec, ee) (same_test near-ring (λ r. case Near (λ y. y) (λ z. clash r (at_place (ring_no (sheet_of cells h w) y x k.row k.col (quiet z))))))
      where
        quiet : Near ≡ false → (v u : ℕ) → v < h → u < w → Beside y x v u → opaque (take (h * w) cells) (v * w + u) ≡ false
        quiet z v u lv lu b =
            case (opaque (take (h * w) cells) (v * w + u)) (λ o. clash (seen v u lv lu b (sym (same-cell v u (v * w + u) lv lu refl) ∙ o)) z) (λ n. n)
