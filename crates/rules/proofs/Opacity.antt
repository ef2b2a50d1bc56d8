-- What `run` does to opaque and transparent cells. Assumes nothing.
use Prim.Native.Nat.{ℕ, ◌+◌, ◌-◌, ◌*◌, ◌/◌, ◌%◌, ◌≤◌, ◌<◌}
use mathlib.Core.Path.{◌≡◌, refl, sym, ap, ◌∙◌, subst}
use mathlib.Core.Bool.{Bool, true, false, not, ◌&&◌, ◌||◌, cond, and-false}
use mathlib.Core.List.{List, [], ◌∷◌}
use native.Mathlib.Decide.{dec_lt}
use native.Mathlib.Omega.{arith}
use lib.IntN.{ℤ, pos, negsuc}
use lib.Signed.{non_neg}
use lib.Dec.{leb, ltb}
use lib.ListN.{length, get_or, get_or-eq_default}
use Rattle.base.specs.Places.{table, any}
use Rattle.base.proofs.Counting.{case, left, or_left, or_right, any_no, any_same, table_at, table-length}
use Rattle.rules.specs.declared.Limits.{Limits}
use Rattle.rules.specs.declared.Drawing.{Drawing}
use Rattle.rules.specs.Sheet.{Sheet, area, sheet_in}
use Rattle.rules.specs.Palette.{Palette}
use Rattle.rules.specs.Grid.{four, on_edge}
use Rattle.rules.specs.Regions.{at, opaque}
use Rattle.rules.specs.Pass.{fresh}
use Rattle.rules.specs.Corners.{same, Corner, corners, arms, around, goes_on, opposite, is_corner, trimmed_by, trimmed, trim}
use Rattle.rules.specs.Outline.{touches, asked, pads, padded_at, padded, canvas, ring, has_ring, inked, drawn, outline, chosen_index, line_colour, choice}
use Rattle.rules.specs.Calls.{RunCall}
use Rattle.rules.specs.Run.{rule_on, rule_for, clean_sheet, clean_sheet_if, limits_of, toned_palette, drawing_of, outline_if, first_cleaning, outlined_run, second_cleaning, process}
use Rattle.rules.specs.Claims.{KeepsOpaque}
use Rattle.rules.proofs.Grids.{ruled_both_ways}
use Rattle.rules.proofs.More.{clean-opaque}
use Rattle.rules.proofs.Runs.{run_length}

-- two sheets of one size with the same cells opaque
pub record Alike (s t : Sheet) : Type 0 where
  pub height : t.height ≡ s.height
  pub width : t.width ≡ s.width
  pub full : length t.cells ≡ area t
  pub opaq : (p : ℕ) → opaque t.cells p ≡ opaque s.cells p

itself : (s : Sheet) → length s.cells ≡ area s → Alike s s
itself s len = record { height = refl; width = refl; full = len; opaq = λ p. refl }

pub trans : {s t u : Sheet} → Alike s t → Alike t u → Alike s u
trans a b = record { height = b.height ∙ a.height; width = b.width ∙ a.width; full = b.full; opaq = λ p. b.opaq p ∙ a.opaq p }

-- a sheet made of a table of cells that are opaque where the old ones are
retold : (s : Sheet) (f : ℕ → ℤ) → length s.cells ≡ area s → ((p : ℕ) → p < area s → non_neg (f p) ≡ opaque s.cells p) →
    Alike s (record { cells = table (area s) f; height = s.height; width = s.width })
unfolding area opaque at
retold s f len e = record { height = refl; width = refl; full = table-length (s.height * s.width) f; opaq = λ p. go p (dec_lt p (s.height * s.width)) }
  where
    go : (p : ℕ) → Dec (p < s.height * s.width) → non_neg (get_or (table (s.height * s.width) f) p (negsuc 0)) ≡ non_neg (get_or s.cells p (negsuc 0))
    go p (yes h) = ap non_neg (table_at (s.height * s.width) f (negsuc 0) p h) ∙ e p h
    go p (no h) =
        let l : length (table (s.height * s.width) f) ≤ p = omega (arith, table-length (s.height * s.width) f) in
        let m : length s.cells ≤ p = omega (arith, len) in
        ap non_neg (get_or-eq_default (table (s.height * s.width) f) (negsuc 0) l ∙ sym (get_or-eq_default s.cells (negsuc 0) m))

-- ---- the steps keep cells opaque and transparent

clean-alike : (k : ℕ) (palette : Palette) (limits : Limits) (s : Sheet) → length s.cells ≡ area s → Alike s (clean_sheet k palette limits s).sheet
unfolding clean_sheet rule_for rule_on fresh area
clean-alike k palette limits s len =
    let rule = rule_for palette limits s in
    let both_ways = ruled_both_ways palette limits s in
    record {
      height = refl;
      width = refl;
      full = run_length rule both_ways k (fresh rule s.cells) len;
      opaq = clean-opaque rule both_ways k (fresh rule s.cells) len;
    }

pub cleaned-alike : (on : Bool) (k : ℕ) (palette : Palette) (limits : Limits) (s : Sheet) → length s.cells ≡ area s → Alike s (clean_sheet_if on k palette limits s).sheet
unfolding clean_sheet_if
cleaned-alike true k palette limits s len = clean-alike k palette limits s len
cleaned-alike false k palette limits s len = itself s len

-- the cell that a corner takes is opaque
corner-opaque : (s : Sheet) (p : ℕ) (c : Corner) (a b : ℤ) → is_corner s p c a b ≡ true → non_neg b ≡ true
unfolding is_corner
corner-opaque s p c a b e =
    let n = non_neg b in
    let d = not (same b a) in
    let r = arms s p c a in
    let o = around s p c b in
    left n d (left (n && d) r (left (n && d && r) o (left (n && d && r && o) (goes_on s p c a) e)))

trimmed_by_opaque : (s : Sheet) (p : ℕ) (cs : List Corner) (a : ℤ) → non_neg a ≡ true → non_neg (trimmed_by s p cs a) ≡ true
unfolding trimmed_by
trimmed_by_opaque s p [] a o = o
trimmed_by_opaque s p (c ∷ cs) a o =
    case (is_corner s p c a (opposite s p c))
    (λ y. rw y (corner-opaque s p c a (opposite s p c) y))
    (λ z. rw z (trimmed_by_opaque s p cs a o))

trimmed-opaque : (s : Sheet) (p : ℕ) → non_neg (trimmed s p) ≡ opaque s.cells p
unfolding trimmed opaque
trimmed-opaque s p =
    case (non_neg (at s.cells p))
    (λ y. ap (λ (b : Bool). non_neg (cond b (trimmed_by s p corners (at s.cells p)) (at s.cells p))) y ∙ trimmed_by_opaque s p corners (at s.cells p) y ∙ sym y)
    (λ z. ap (λ (b : Bool). non_neg (cond b (trimmed_by s p corners (at s.cells p)) (at s.cells p))) z)

trim-alike : (s : Sheet) → length s.cells ≡ area s → Alike s (trim s)
unfolding trim
trim-alike s len =
    case (ltb s.height 4 || ltb s.width 4) (λ y. rw y (itself s len)) (λ z. rw z (retold s (trimmed s) len (λ p h. trimmed-opaque s p)))

-- ---- what padding, ring and edges read

-- a cell inside or the -1 around it
either_way : (b : Bool) (x y : ℤ) → non_neg x ≡ non_neg y → non_neg (cond b x (negsuc 0)) ≡ non_neg (cond b y (negsuc 0))
either_way true x y e = e
either_way false x y e = refl

-- tables of cells that are opaque alike
over-table : (n : ℕ) (f g : ℕ → ℤ) → ((p : ℕ) → non_neg (f p) ≡ non_neg (g p)) → (p : ℕ) → opaque (table n f) p ≡ opaque (table n g) p
unfolding opaque at
over-table n f g e p = go (dec_lt p n)
  where
    go : Dec (p < n) → non_neg (get_or (table n f) p (negsuc 0)) ≡ non_neg (get_or (table n g) p (negsuc 0))
    go (yes h) = ap non_neg (table_at n f (negsuc 0) p h) ∙ e p ∙ sym (ap non_neg (table_at n g (negsuc 0) p h))
    go (no h) =
        let l : length (table n f) ≤ p = omega (arith, table-length n f) in
        let m : length (table n g) ≤ p = omega (arith, table-length n g) in
        ap non_neg (get_or-eq_default (table n f) (negsuc 0) l ∙ sym (get_or-eq_default (table n g) (negsuc 0) m))

or_false : (b : Bool) → (b || false) ≡ b
or_false true = refl
or_false false = refl

-- touching an edge, padding and the ring depend on which cells are opaque alone
module _ {s t : Sheet} (k : Alike s t) where
  abbrev shaped : Sheet
  shaped = record { cells = t.cells; height = s.height; width = s.width }

  same_shape : t ≡ shaped
  same_shape = λ i. record { cells = t.cells; height = k.height i; width = k.width i }

  touches-same : touches t ≡ touches s
  unfolding touches on_edge area
  touches-same = ap touches same_shape ∙ any_same (s.height * s.width) _ _ (λ p h. ap (λ (b : Bool). b && on_edge s.height s.width p) (k.opaq p))

  pub pads-same : (how : Drawing) → pads how t ≡ pads how s
  unfolding pads
  pads-same how = ap (λ (b : Bool). how.allow_pad && asked how.outline && b) touches-same

  pub ring-same : (p : ℕ) → ring t p ≡ ring s p
  unfolding ring area
  ring-same p =
      ap (λ (x : Sheet). ring x p) same_shape
      ∙ ap (λ (b : Bool). not b && any (s.height * s.width) (λ q. four s.width p q && opaque t.cells q)) (k.opaq p)
      ∙ ap (λ (b : Bool). not (opaque s.cells p) && b) (any_same (s.height * s.width) _ _ (λ q h. ap (λ (b : Bool). four s.width p q && b) (k.opaq q)))

  padded-opaque : (p : ℕ) → non_neg (padded_at shaped p) ≡ non_neg (padded_at s p)
  unfolding padded_at opaque
  padded-opaque p =
      let y = p / (s.width + 2) in
      let x = p % (s.width + 2) in
      either_way (leb 1 y && leb y s.height && leb 1 x && leb x s.width) (at t.cells ((y - 1) * s.width + (x - 1))) (at s.cells ((y - 1) * s.width + (x - 1)))
      (k.opaq ((y - 1) * s.width + (x - 1)))

  pub canvas-alike : length s.cells ≡ area s → (b : Bool) → Alike (canvas b s) (canvas b t)
  unfolding canvas padded area opaque at
  canvas-alike len false = k
  canvas-alike len true =
      subst (λ (x : Sheet). Alike (padded s) (padded x)) (sym same_shape)
      (record {
        height = refl;
        width = refl;
        full = table-length ((s.height + 2) * (s.width + 2)) (padded_at shaped);
        opaq = λ p. over-table ((s.height + 2) * (s.width + 2)) (padded_at shaped) (padded_at s) padded-opaque p;
      })

pub canvas_full : (b : Bool) (s : Sheet) → length s.cells ≡ area s → length (canvas b s).cells ≡ area (canvas b s)
unfolding canvas padded area
canvas_full false s len = len
canvas_full true s len = table-length ((s.height + 2) * (s.width + 2)) (padded_at s)

-- ---- the outline, and all of it

-- after an outline call or none, on the canvas `on`: a cell is opaque if it was, or if an outline is asked for and it is in the ring
pub record Shown (outlined : Bool) (on t : Sheet) : Type 0 where
  pub height : t.height ≡ on.height
  pub width : t.width ≡ on.width
  pub full : length t.cells ≡ area t
  pub opaq : (p : ℕ) → p < area on → opaque t.cells p ≡ (opaque on.cells p || (outlined && ring on p))

then : {b : Bool} {on t u : Sheet} → Shown b on t → Alike t u → Shown b on u
then a k = record { height = k.height ∙ a.height; width = k.width ∙ a.width; full = k.full; opaq = λ p h. k.opaq p ∙ a.opaq p h }

inked-opaque : (r : Bool) (i : ℕ) (z : ℤ) → non_neg (cond r (pos i) z) ≡ (non_neg z || r)
inked-opaque true i z = sym (or_right (non_neg z) refl)
inked-opaque false i z = case (non_neg z) (λ y. y ∙ sym (or_left false y)) (λ n. n ∙ sym (rw n))

-- inking the ring
inked-shown : (s : Sheet) (i : ℕ) → Shown true s (inked s i)
unfolding inked area opaque at
inked-shown s i =
    record {
      height = refl;
      width = refl;
      full = table-length (s.height * s.width) _;
      opaq = λ p h.
          ap non_neg (table_at (s.height * s.width) (λ q. cond (ring s q) (pos i) (get_or s.cells q (negsuc 0))) (negsuc 0) p h)
          ∙ inked-opaque (ring s p) i (get_or s.cells p (negsuc 0));
    }

-- a sheet with an empty ring is shown as it is
plain_shown : (s : Sheet) → length s.cells ≡ area s → (b : Bool) → ((p : ℕ) → p < area s → (b && ring s p) ≡ false) → Shown b s s
plain_shown s len b clear =
    record { height = refl; width = refl; full = len; opaq = λ p h. sym (ap (λ (r : Bool). opaque s.cells p || r) (clear p h) ∙ or_false (opaque s.cells p)) }

-- an outline call
outline-shown : (may : ℕ → Bool) (how : Drawing) (palette : Palette) (s : Sheet) → length s.cells ≡ area s →
    Shown true (canvas (pads how s) s) (outline may how palette s).sheet
unfolding outline drawn has_ring
outline-shown may how palette s len =
    let on = canvas (pads how s) s in
    case (any (area on) (ring on))
    (λ y. rw y (inked-shown on (chosen_index palette (choice may how.fixed_palette palette (line_colour palette how.outline)))))
    (λ z. rw z (plain_shown on (canvas_full (pads how s) s len) true (any_no (area on) (ring on) z)))

not_asked : (how : Drawing) (s : Sheet) → asked how.outline ≡ false → pads how s ≡ false
unfolding pads
not_asked how s z = rw (z, and-false how.allow_pad)

-- an outline where one is asked for
pub line-shown : (may : ℕ → Bool) (how : Drawing) (palette : Palette) (s : Sheet) → length s.cells ≡ area s →
    Shown (asked how.outline) (canvas (pads how s) s) (outline_if may how palette s).sheet
unfolding outline_if canvas
line-shown may how palette s len =
    case (asked how.outline)
    (λ y. rw y (outline-shown may how palette s len))
    (λ z. rw (z, not_asked how s z) (plain_shown s len false (λ p h. refl)))

-- the canvas of a sheet and of one alike show the same
shown-alike : {b : Bool} {on on' t : Sheet} → Alike on on' → Shown b on' t → Shown b on t
unfolding area
shown-alike {b} {on} {on'} {t} k a =
    record {
      height = a.height ∙ k.height;
      width = a.width ∙ k.width;
      full = a.full;
      opaq = λ p h.
          let h' : p < on'.height * on'.width = rw (k.height, k.width) h in
          a.opaq p h' ∙ ap (λ (x : Bool). x || (b && ring on' p)) (k.opaq p) ∙ ap (λ (x : Bool). opaque on.cells p || (b && x)) (ring-same k p);
    }

-- corners, if they are switched on
pub cut-alike : (on : Bool) (s : Sheet) → length s.cells ≡ area s → Alike s (cond on (trim s) s)
cut-alike true s len = trim-alike s len
cut-alike false s len = itself s len

-- a sheet that is like the one that came, outlined where that is asked for
met_alike : (may : ℕ → Bool) (how : Drawing) (palette : Palette) {s t : Sheet} → length s.cells ≡ area s → Alike s t → Shown (asked how.outline) (canvas (pads how s) s) (outline_if may how palette t).sheet
met_alike may how palette {s} {t} len k =
    shown-alike (canvas-alike k len (pads how s))
    (subst (λ (b : Bool). Shown (asked how.outline) (canvas b t) (outline_if may how palette t).sheet) (pads-same k how) (line-shown may how palette t k.full))

module _ (c : RunCall) (len : length (sheet_in c.lent).cells ≡ area (sheet_in c.lent)) where
  abbrev before : Sheet
  before = canvas (pads (drawing_of c) (sheet_in c.lent)) (sheet_in c.lent)

  abbrev outlined : Bool
  outlined = asked c.config.outline

  -- after the first cleaning, corners and outline
  pub met_shown : Shown outlined before (outlined_run c).sheet
  unfolding outlined_run first_cleaning drawing_of
  met_shown =
      let a = cleaned-alike c.config.remove_orphans _ (toned_palette c) (limits_of c.config) (sheet_in c.lent) len in
      met_alike _ (drawing_of c) (toned_palette c) len (trans a (cut-alike c.config.fix_jaggies _ a.full))

  -- and after the second cleaning
  pub run_shown : Shown outlined before (process c).sheet
  unfolding process second_cleaning
  run_shown = let m = met_shown in then m (cleaned-alike _ _ _ _ _ m.full)

  -- `run` keeps opaque cells opaque, and makes the ring's cells opaque, if an outline is asked for, and no other
  pub run_opaque : KeepsOpaque outlined before (process c).sheet
  run_opaque =
      let r = run_shown in
      record {
        height = r.height;
        width = r.width;
        stays = λ p h o. r.opaq p h ∙ or_left (outlined && ring before p) o;
        turns = λ p h z.
            let e = r.opaq p h ∙ ap (λ (b : Bool). b || (outlined && ring before p)) z in
            ((λ y. sym e ∙ y), (λ y. e ∙ y));
      }
