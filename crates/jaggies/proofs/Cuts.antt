-- What becomes of a cell by one corner, and by the first of several. Assumes nothing.
use Prim.Native.Nat.{ℕ, zero, suc, ◌-◌, ◌<◌}
use mathlib.Core.Path.{◌≡◌, refl, sym, ap, ◌∙◌}
use mathlib.Core.Logic.{◌⊎◌, inl, inr}
use mathlib.Core.Bool.{Bool, true, false, not, ◌&&◌, cond, false≢true}
use mathlib.Core.List.{List, [], ◌∷◌}
use native.Mathlib.Numerals.{add-one}
use native.Mathlib.Omega.{arith}
use lib.Dec.{eqb}
use lib.IntN.{ℤ, pos, negsuc, neg_ℤ}
use lib.Signed.{non_neg}
use mir.Syntax.{w32}
use mir.Val.{of_z, to_z}
use borrow.Author.Tests.{ne_eqb}
use Rattle.std.specs.Prelude.{Option, Some, None, unsigned_abs}
use Rattle.std.specs.Option.{unwrap_or}
use Rattle.base.proofs.Counting.{case, clash, left, right, not_true, eqb_yes, yes_eqb}
use Rattle.rules.specs.Sheet.{Sheet}
use Rattle.rules.specs.Corners.{Corner, corners, same, look, finds, opposite, arms, around, goes_on, is_corner, trimmed_by}
use Rattle.grid.specs.Planes.{paint_of, cell_of}
use Rattle.jaggies.specs.Rows.{OnBoth, way, found_paint, cut, toward}
use Rattle.jaggies.proofs.Steps.{same_paint, finds_paint}

-- ---- a paint on two sides

pub on_both_same : {x y a : ℕ} → x ≡ y → OnBoth x y a
on_both_same e = record { there = λ h. sym e ∙ h; back = λ h. e ∙ h }

pub either_no : (b d : Bool) → not (b && d) ≡ true → (b ≡ false) ⊎ (d ≡ false)
either_no false d e = inl refl
either_no true false e = inr refl
either_no true true e = absurd (false≢true e)

-- a test after another one: it counts where that passed
pub on_yes : {f g v : Bool} → f ≡ true → v ≡ g → v ≡ (f && g)
on_yes e h = rw e h

pub on_no : {f v : Bool} (g : Bool) → f ≡ false → v ≡ false → v ≡ (f && g)
on_no g e h = rw e h

-- ---- paint and cells

pub paint_cell : (a : ℕ) → a ≡ paint_of (cell_of a)
unfolding paint_of cell_of
paint_cell zero = refl
paint_cell (suc a) = sym (add-one a)

pub solid : (z : ℤ) → (0 ≡ paint_of z → ⊥) → non_neg z ≡ true
unfolding paint_of
solid (pos i) n = refl
solid (negsuc i) n = absurd (n refl)

pub clear : (z : ℤ) → 0 ≡ paint_of z → non_neg z ≡ false
unfolding paint_of
clear (pos i) e = absurd (omega arith)
clear (negsuc i) e = refl

solid_paint : (z : ℤ) → non_neg z ≡ true → 0 < paint_of z
unfolding paint_of
solid_paint (pos i) t = omega arith
solid_paint (negsuc i) t = absurd (false≢true t)

pub cell_paint : (z : ℤ) → non_neg z ≡ true → cell_of (paint_of z) ≡ z
unfolding paint_of cell_of
cell_paint (pos i) t = rw add-one
cell_paint (negsuc i) t = absurd (false≢true t)

pub unpaint : (z : ℤ) (b : ℕ) → b ≡ paint_of z → 0 < b → pos (b - 1) ≡ z
unfolding paint_of
unpaint (pos i) b e l = let q : b - 1 ≡ i = omega arith in ap pos q
unpaint (negsuc i) b e l = absurd (omega arith)

-- ---- one corner: a the cell's paint, b that of the cell opposite

module _ (s : Sheet) (p : ℕ) (c : Corner) (a b : ℕ) (la : 0 < a) (e : b ≡ paint_of (opposite s p c)) where
  pub cut_clear : b ≡ 0 → None ≡ cut s p c (cell_of a)
  unfolding cut is_corner
  cut_clear z = rw (clear (opposite s p c) (sym z ∙ e), is_corner)

  pub cut-same : b ≡ a → None ≡ cut s p c (cell_of a)
  unfolding cut is_corner
  cut-same z =
      let o : non_neg (opposite s p c) ≡ true = solid (opposite s p c) (λ y. omega arith) in
      let t : same (opposite s p c) (cell_of a) ≡ true = same_paint (opposite s p c) a la ∙ yes_eqb (sym e ∙ z) in
      rw (o, t, is_corner)

  pub cut_by : (b ≡ 0 → ⊥) → (b ≡ a → ⊥) → (t : Bool) → (arms s p c (cell_of a) && around s p c (cell_of b) && goes_on s p c (cell_of a)) ≡ t → cond t (Some b) None ≡ cut s p c (cell_of a)
  unfolding cut is_corner
  cut_by n m t f =
      let o : non_neg (opposite s p c) ≡ true = solid (opposite s p c) (λ y. omega arith) in
      let d : same (opposite s p c) (cell_of a) ≡ false = same_paint (opposite s p c) a la ∙ ne_eqb (paint_of (opposite s p c)) a (λ y. m (e ∙ y)) in
      let g : cell_of b ≡ opposite s p c = ap cell_of e ∙ cell_paint (opposite s p c) o in
      let f' : (arms s p c (cell_of a) && around s p c (opposite s p c) && goes_on s p c (cell_of a)) ≡ t = rw g at f in
      rw (o, d, is_corner, f') (ap (λ (x : ℕ). cond t (Some x) None) e)

-- ---- which corner a cell can be

-- the ways that `toward` tells, as the machine holds them
toward-held : (next a : ℕ) → to_z w32 (of_z w32 (toward next a)) ≡ toward next a
unfolding toward
toward-held next a = case (eqb next a) (λ y. rw y refl) (λ z. rw z refl)

pub toward_held : (next a : ℕ) {z : ℤ} → z ≡ toward next a → to_z w32 (of_z w32 z) ≡ toward next a
toward_held next a e = rw e (toward-held next a)

pub toward_one : (next a : ℕ) → unsigned_abs (to_z w32 (of_z w32 (toward next a))) ≡ 1
unfolding toward
toward_one next a = case (eqb next a) (λ y. rw y refl) (λ z. rw z refl)

-- at a corner of a cell of the paint a the arms have it, and the cells across from them do not
pub record Sided (s : Sheet) (p : ℕ) (c : Corner) (a : ℕ) : Type 0 where
  pub beside : found_paint (look s p (pos 0) c.sx) ≡ a
  pub across : found_paint (look s p (pos 0) (neg_ℤ c.sx)) ≡ a → ⊥
  pub along : found_paint (look s p c.sy (pos 0)) ≡ a
  pub behind : found_paint (look s p (neg_ℤ c.sy) (pos 0)) ≡ a → ⊥

module _ (s : Sheet) (p : ℕ) (a : ℕ) (la : 0 < a) where
  finds_yes : (dy dx : ℤ) → finds s p dy dx (cell_of a) ≡ true → found_paint (look s p dy dx) ≡ a
  finds_yes dy dx e = eqb_yes (finds_paint s p dy dx a la ∙ e)

  -- a step that finds another index does not find a
  finds_other : (dy dx z : ℤ) → non_neg z ≡ true → same z (cell_of a) ≡ false → finds s p dy dx z ≡ true → found_paint (look s p dy dx) ≡ a → ⊥
  finds_other dy dx z o n e f =
      let lz : 0 < paint_of z = solid_paint z o in
      let g : finds s p dy dx (cell_of (paint_of z)) ≡ true = rw (cell_paint z o) e in
      let q : found_paint (look s p dy dx) ≡ paint_of z = eqb_yes (finds_paint s p dy dx (paint_of z) lz ∙ g) in
      clash (same_paint z a la ∙ yes_eqb (sym q ∙ f)) n

  -- the parts of the rule that say so
  record Parts (c : Corner) (o : ℤ) : Type 0 where
    opaque : non_neg o ≡ true
    other : same o (cell_of a) ≡ false
    arm : arms s p c (cell_of a) ≡ true
    ring : around s p c o ≡ true

  parts : (c : Corner) (o : ℤ) → is_corner s p c (cell_of a) o ≡ true → Parts c o
  unfolding is_corner
  parts c o y =
      let two : (non_neg o && not (same o (cell_of a))) ≡ true = left _ _ (left _ _ (left _ _ y)) in
      let three : (non_neg o && not (same o (cell_of a)) && arms s p c (cell_of a)) ≡ true = left _ _ (left _ _ y) in
      let four : (non_neg o && not (same o (cell_of a)) && arms s p c (cell_of a) && around s p c o) ≡ true = left _ _ y in
      record {
        opaque = left _ _ two;
        other = not_true (right (non_neg o) _ two);
        arm = right (non_neg o && not (same o (cell_of a))) _ three;
        ring = right (non_neg o && not (same o (cell_of a)) && arms s p c (cell_of a)) _ four;
      }

  corner_sided : (c : Corner) → is_corner s p c (cell_of a) (opposite s p c) ≡ true → Sided s p c a
  unfolding arms around
  corner_sided c y =
      let o = opposite s p c in
      let k : Parts c o = parts c o y in
      let sy = neg_ℤ c.sy in
      let sx = neg_ℤ c.sx in
      let second : (finds s p sy sx o && finds s p sy (pos 0) o) ≡ true = left _ _ (left _ _ (left _ _ (left _ _ k.ring))) in
      let fourth : (finds s p sy sx o && finds s p sy (pos 0) o && finds s p sy c.sx o && finds s p (pos 0) sx o) ≡ true = left _ _ (left _ _ k.ring) in
      record {
        beside = finds_yes (pos 0) c.sx (left _ _ k.arm);
        across = finds_other (pos 0) sx o k.opaque k.other (right (finds s p sy sx o && finds s p sy (pos 0) o && finds s p sy c.sx o) _ fourth);
        along = finds_yes c.sy (pos 0) (right (finds s p (pos 0) c.sx (cell_of a)) _ k.arm);
        behind = finds_other sy (pos 0) o k.opaque k.other (right (finds s p sy sx o) _ second);
      }

  -- what tells a cell from a corner
  pub no_corner : (c : Corner) → (Sided s p c a → ⊥) → cut s p c (cell_of a) ≡ None
  unfolding cut
  no_corner c n = case (is_corner s p c (cell_of a) (opposite s p c)) (λ y. absurd (n (corner_sided c y))) (λ z. rw z)

  -- the first of several corners decides
  by_next : (c : Corner) (cs : List Corner) → paint_of (trimmed_by s p (c ∷ cs) (cell_of a)) ≡ unwrap_or (cut s p c (cell_of a)) (paint_of (trimmed_by s p cs (cell_of a)))
  unfolding trimmed_by cut
  by_next c cs = case (is_corner s p c (cell_of a) (opposite s p c)) (λ y. rw (y, trimmed_by)) (λ z. rw (z, trimmed_by))

  by_none : paint_of (trimmed_by s p [] (cell_of a)) ≡ a
  unfolding trimmed_by
  by_none = sym (paint_cell a)

  abbrev corner : ℤ → ℤ → Option ℕ
  corner sy sx = cut s p (way sy sx) (cell_of a)

  by_four : paint_of (trimmed_by s p corners (cell_of a)) ≡ unwrap_or (corner (negsuc 0) (negsuc 0)) (unwrap_or (corner (negsuc 0) (pos 1)) (unwrap_or (corner (pos 1) (negsuc 0)) (unwrap_or (corner (pos 1) (pos 1)) a)))
  unfolding corners
  by_four = rw (by_next, by_next, by_next, by_next, by_none)

  -- by the paints of the four cells beside, above and below
  module _ (l r u d : ℕ) (el : l ≡ found_paint (look s p (pos 0) (negsuc 0))) (er : r ≡ found_paint (look s p (pos 0) (pos 1)))
      (eu : u ≡ found_paint (look s p (negsuc 0) (pos 0))) (ed : d ≡ found_paint (look s p (pos 1) (pos 0))) where
    not_left : (sy : ℤ) → (l ≡ a → r ≡ a) → corner sy (negsuc 0) ≡ None
    not_left sy f = no_corner (way sy (negsuc 0)) (λ k. k.across (sym er ∙ f (el ∙ k.beside)))

    not_right : (sy : ℤ) → (r ≡ a → l ≡ a) → corner sy (pos 1) ≡ None
    not_right sy f = no_corner (way sy (pos 1)) (λ k. k.across (sym el ∙ f (er ∙ k.beside)))

    not_up : (sx : ℤ) → (u ≡ a → d ≡ a) → corner (negsuc 0) sx ≡ None
    not_up sx f = no_corner (way (negsuc 0) sx) (λ k. k.behind (sym ed ∙ f (eu ∙ k.along)))

    not_down : (sx : ℤ) → (d ≡ a → u ≡ a) → corner (pos 1) sx ≡ None
    not_down sx f = no_corner (way (pos 1) sx) (λ k. k.behind (sym eu ∙ f (ed ∙ k.along)))

    -- its paint on both sides or on neither: no corner
    pub level : OnBoth l r a → a ≡ paint_of (trimmed_by s p corners (cell_of a))
    level k =
        sym (by_four ∙ rw (not_left (negsuc 0) k.there, not_right (negsuc 0) k.back, not_left (pos 1) k.there, not_right (pos 1) k.back))

    pub upright : OnBoth u d a → a ≡ paint_of (trimmed_by s p corners (cell_of a))
    upright k =
        sym (by_four ∙ rw (not_up (negsuc 0) k.there, not_up (pos 1) k.there, not_down (negsuc 0) k.back, not_down (pos 1) k.back))

    -- else the one corner that it can be
    pub turned : {sy sx : ℤ} → sy ≡ toward d a → sx ≡ toward r a → unwrap_or (corner sy sx) a ≡ paint_of (trimmed_by s p corners (cell_of a))
    unfolding toward
    turned e f = rw (e, f) (sym (by_four ∙ pick))
      where
        pick : unwrap_or (corner (negsuc 0) (negsuc 0)) (unwrap_or (corner (negsuc 0) (pos 1)) (unwrap_or (corner (pos 1) (negsuc 0)) (unwrap_or (corner (pos 1) (pos 1)) a))) ≡ unwrap_or (corner (toward d a) (toward r a)) a
        pick = case (eqb d a)
            (λ y. case (eqb r a)
            (λ x. let e : r ≡ a = eqb_yes x in let f : d ≡ a = eqb_yes y in
            rw (y, x, not_left (negsuc 0) (λ z. e), not_up (pos 1) (λ z. f), not_left (pos 1) (λ z. e)))
            (λ x. let n : r ≡ a → l ≡ a = (λ z. clash (yes_eqb z) x) in let f : d ≡ a = eqb_yes y in
            rw (y, x, not_up (negsuc 0) (λ z. f), not_right (negsuc 0) n, not_right (pos 1) n)))
            (λ y. let m : d ≡ a → u ≡ a = (λ z. clash (yes_eqb z) y) in case (eqb r a)
            (λ x. let e : r ≡ a = eqb_yes x in
            rw (y, x, not_left (negsuc 0) (λ z. e), not_left (pos 1) (λ z. e), not_down (pos 1) m))
            (λ x. let n : r ≡ a → l ≡ a = (λ z. clash (yes_eqb z) x) in
            rw (y, x, not_right (negsuc 0) n, not_down (negsuc 0) m, not_down (pos 1) m)))
