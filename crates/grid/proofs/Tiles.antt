-- Tiles: where their places lie in a sheet, and how a loop loads or stores them place by place. Assumes nothing.
use Prim.Native.Nat.{ℕ, ◌+◌, ◌-◌, ◌*◌, ◌/◌, ◌%◌, ◌≤◌, ◌<◌}
use mathlib.Core.Path.{◌≡◌, sym, ap, ap₂, fun_ext, ◌∙◌, subst}
use mathlib.Core.Bool.{true, ◌&&◌, cond}
use mathlib.Core.List.{List}
use native.Mathlib.Nat.{not-suc-le-zero, mul-le-mul, div-add-mod', suc-mul}
use native.Mathlib.Numerals.{add-one}
use native.Mathlib.Decide.{ℕ_discrete, dec_lt}
use native.Mathlib.Omega.{arith}
use borrow.Author.Tests.{lt-ltb, le-ltb, ltb-true}
use lib.Dec.{leb, ltb}
use lib.IntN.{ℤ, pos, negsuc}
use lib.ListN.{length, get_or, set, drop, take, length-append, length-drop, length-set, get_or-eq_default}
use lib.Seq.{get_or-set_same, get_or-set_other, ext_get_or, get_or-take, length-take-le}
use Rattle.base.specs.Places.{table}
use Rattle.base.specs.Outputs.{filled}
use Rattle.base.proofs.Counting.{case, clash, both, left, right, leb_yes, yes_leb, table_at, table-length}
use Rattle.base.proofs.Fills.{filled_more, filled_at, filled_is}
use Rattle.rules.specs.Regions.{at}
use Rattle.rules.proofs.Reading.{read_at}
use Rattle.grid.specs.Planes.{plane, paint_of}
use Rattle.grid.specs.declared.tile.Tile.{Tile}
use Rattle.grid.specs.Tiles.{whole_sheet, spot_of, Lies, tile_paint, PaintsTo, repaint, in_tile, place_in, stored_to, stored}
use Rattle.grid.proofs.Planes.{plane_read, Painted}
use Rattle.grid.proofs.Places.{row_in, col_in, row_of, col_of, place_in_lem}

-- ---- where places lie

pub spot_is : (t : Tile) (y x : ℕ) → x < t.w → spot_of t (y * t.w + x) ≡ t.start + y * t.stride + x
unfolding spot_of
spot_is t y x l = ap₂ (λ (a b : ℕ). t.start + a * t.stride + b) (row_of t.w y x l) (col_of t.w y x l)

-- a sheet is a tile of itself
pub spot-whole : (h w p : ℕ) → spot_of (whole_sheet h w) p ≡ p
unfolding spot_of
spot-whole h w p = let e = div-add-mod' p w in omega arith

module _ (t : Tile) (ws : t.w ≤ t.stride) where
  abbrev off : ℕ → ℕ
  off i = i - t.start

  -- a place of the tile lies in the tile, as that place
  spot-off : (k : ℕ) → (t.start ≤ spot_of t k) × (off (spot_of t k) ≡ (k / t.w) * t.stride + k % t.w)
  unfolding spot_of
  spot-off k = (omega arith, omega arith)

  module _ (k : ℕ) (lk : k < t.h * t.w) where
    abbrev spot : ℕ
    spot = spot_of t k

    col-small : k % t.w < t.stride
    col-small = let l = col_in t.h t.w k lk in omega arith

    spot-row : off spot / t.stride ≡ k / t.w
    spot-row = ap (λ (x : ℕ). x / t.stride) (spot-off k).1 ∙ row_of t.stride (k / t.w) (k % t.w) col-small

    spot-col : off spot % t.stride ≡ k % t.w
    spot-col = ap (λ (x : ℕ). x % t.stride) (spot-off k).1 ∙ col_of t.stride (k / t.w) (k % t.w) col-small

    pub spot_in : in_tile t spot ≡ true
    unfolding in_tile
    spot_in =
        both (both (yes_leb (spot-off k).0) (lt-ltb (off spot / t.stride) t.h (let l = row_in t.h t.w k lk in omega (arith, spot-row))))
        (lt-ltb (off spot % t.stride) t.w (let l = col_in t.h t.w k lk in omega (arith, spot-col)))

    pub spot_place : place_in t spot ≡ k
    unfolding place_in
    spot_place = ap₂ (λ (a b : ℕ). a * t.w + b) spot-row spot-col ∙ div-add-mod' k t.w

  -- and each place of the sheet in the tile is one of these
  module _ (i : ℕ) (y : in_tile t i ≡ true) where
    tile_from : t.start ≤ i
    unfolding in_tile
    tile_from = leb_yes (left (leb t.start i) (ltb (off i / t.stride) t.h) (left (leb t.start i && ltb (off i / t.stride) t.h) (ltb (off i % t.stride) t.w) y))

    tile_row : off i / t.stride < t.h
    unfolding in_tile
    tile_row = ltb-true (off i / t.stride) t.h (right (leb t.start i) (ltb (off i / t.stride) t.h) (left (leb t.start i && ltb (off i / t.stride) t.h) (ltb (off i % t.stride) t.w) y))

    tile_col : off i % t.stride < t.w
    unfolding in_tile
    tile_col = ltb-true (off i % t.stride) t.w (right (leb t.start i && ltb (off i / t.stride) t.h) (ltb (off i % t.stride) t.w) y)

    pub tile_place : place_in t i < t.h * t.w
    unfolding place_in
    tile_place = place_in_lem t.h t.w (off i / t.stride) (off i % t.stride) tile_row tile_col

    pub tile_spot : spot_of t (place_in t i) ≡ i
    unfolding place_in
    tile_spot =
        spot_is t (off i / t.stride) (off i % t.stride) tile_col
        ∙ (let e = div-add-mod' (off i) t.stride in let l = tile_from in omega arith)

-- ---- loading

pub filled-to : (k m : ℕ) (f : ℕ → ℕ) (l work : List ℕ) → k ≡ m → work ≡ filled k f l → work ≡ filled m f l
filled-to k m f l work n e = e ∙ ap (λ (x : ℕ). filled x f l) n

filled_room : (k : ℕ) (f : ℕ → ℕ) (l m : List ℕ) → m ≡ filled k f l → k < length m → k < length l
unfolding filled
filled_room k f l m e h =
    let n : length m ≡ k + (length l - k) = ap length e ∙ length-append (table k f) (drop k l) ∙ ap₂ (λ (a b : ℕ). a + b) (table-length k f) (length-drop k l) in
    omega arith

-- one place more is loaded
pub load_more : (k next v : ℕ) (f : ℕ → ℕ) (l m : List ℕ) → m ≡ filled k f l → next ≡ k + 1 → k < length m → v ≡ f k → set m k v ≡ filled next f l
load_more k next v f l m e n h is =
    ap (λ (x : List ℕ). set x k v) e ∙ filled_more k f l v (filled_room k f l m e h) is ∙ ap (λ (x : ℕ). filled x f l) (sym n)

-- where a row begins, in the sheet and in the tile
pub row_fits : {cells : List ℤ} {work : List ℕ} {t : Tile} → Lies cells work t → (y : ℕ) → y < t.h → (t.start + y * t.stride ≤ 528392) × (y * t.w ≤ 264196)
row_fits {t = t} f y l =
    let b : y ≤ 514 = omega (arith, f.rows) in
    let a : y * t.stride ≤ 514 * 514 = mul-le-mul b f.wide in
    let d : y * t.w ≤ 514 * 514 = mul-le-mul b f.cols in
    (omega (arith, f.from), omega arith)

-- a tile stays one while its lists keep their lengths
pub same_tile : {cells new : List ℤ} {work next : List ℕ} {t : Tile} → Lies cells work t → length new ≡ length cells → length next ≡ length work → Lies new next t
same_tile f a b = record {
  rows = f.rows;
  cols = f.cols;
  planes = omega (arith, f.planes);
  from = f.from;
  narrow = f.narrow;
  wide = f.wide;
  in_list = λ p l. let k = f.in_list p l in omega arith;
}

pub next_row : (y w : ℕ) → (y + 1) * w ≡ y * w + w
next_row y w = ap (λ (x : ℕ). x * w) (add-one y) ∙ suc-mul y w

-- what is read at a place of a row is the cell of its spot
module _ {cells : List ℤ} {work : List ℕ} {t : Tile} (f : Lies cells work t) (y x : ℕ) (ly : y < t.h) (lx : x < t.w) where
  pub record Bounds : Type 0 where
    pub on : y * t.w + x < t.h * t.w
    pub few : t.h * t.w ≤ 264196
    pub room : 8 * (t.h * t.w) ≤ length work
    pub spot : t.start + y * t.stride + x < length cells
    pub small : t.start + y * t.stride + x < 528906

  pub bounds : Bounds
  bounds = record {
    on = place_in_lem t.h t.w y x ly lx;
    few = mul-le-mul f.rows f.cols;
    room = f.planes;
    spot = let l = f.in_list (y * t.w + x) (place_in_lem t.h t.w y x ly lx) in omega (arith, spot_is t y x lx);
    small = let b : y ≤ 513 = omega (arith, f.rows) in let a : y * t.stride ≤ 513 * 514 = mul-le-mul b f.wide in omega (arith, f.from, f.cols);
  }

  pub read_spot : at cells (spot_of t (y * t.w + x)) ≡ get_or cells (t.start + y * t.stride + x) (pos 0)
  read_spot = ap (at cells) (spot_is t y x lx) ∙ sym (read_at cells (t.start + y * t.stride + x) bounds.spot)

-- ---- storing

module _ (cells : List ℤ) (work : List ℕ) (t : Tile) where
  -- the cell at a place of the sheet once the first k places are stored
  stored_at : ℕ → ℕ → ℤ
  stored_at k i = cond (in_tile t i && ltb (place_in t i) k) (repaint (plane (t.h * t.w) 0 work (place_in t i)) (at cells i)) (at cells i)

  pub stored-size : (k : ℕ) → length (stored_to k cells work t) ≡ length cells
  unfolding stored_to
  stored-size k = table-length (length cells) _

  stored-at : (k i : ℕ) → i < length cells → get_or (stored_to k cells work t) i (pos 0) ≡ stored_at k i
  unfolding stored_to stored_at
  stored-at k i l = table_at (length cells) (stored_at k) (pos 0) i l

  here-stored : (k i : ℕ) → in_tile t i ≡ true → place_in t i < k → stored_at k i ≡ repaint (plane (t.h * t.w) 0 work (place_in t i)) (at cells i)
  unfolding stored_at
  here-stored k i y l = rw (y, lt-ltb (place_in t i) k l)

  not_stored : (k i : ℕ) → (in_tile t i ≡ true → k ≤ place_in t i) → stored_at k i ≡ at cells i
  unfolding stored_at
  not_stored k i f = case (in_tile t i) (λ y. rw (y, le-ltb (place_in t i) k (f y))) (λ z. rw z)

  -- nothing is stored yet
  pub store_none : cells ≡ stored_to 0 cells work t
  store_none =
      ext_get_or (pos 0) cells (stored_to 0 cells work t) (sym (stored-size 0))
      (λ i l. read_at cells i l ∙ sym (stored-at 0 i l ∙ not_stored 0 i (λ y. omega arith)))

  module _ (ws : t.w ≤ t.stride) where
    -- all is stored
    pub store_all : stored_to (t.h * t.w) cells work t ≡ stored cells work t
    unfolding stored_to stored
    store_all = ap (table (length cells)) (fun_ext (λ i.
        case (in_tile t i) (λ y. rw (y, lt-ltb (place_in t i) (t.h * t.w) (tile_place t ws i y))) (λ z. rw z)))

    -- one place more is stored
    module _ (k : ℕ) (lk : k < t.h * t.w) (inside : spot_of t k < length cells) where
      abbrev here : ℕ
      here = spot_of t k

      -- its cell is the old one until then
      pub store_old : get_or (stored_to k cells work t) here (pos 0) ≡ at cells here
      store_old = stored-at k here inside ∙ not_stored k here (λ y. let e = spot_place t ws k lk in omega arith)

      mine : stored_at (k + 1) here ≡ repaint (plane (t.h * t.w) 0 work k) (at cells here)
      mine =
          let e = spot_place t ws k lk in
          here-stored (k + 1) here (spot_in t ws k lk) (omega arith) ∙ ap (λ (x : ℕ). repaint (plane (t.h * t.w) 0 work x) (at cells here)) e

      theirs : (i : ℕ) → (i ≡ here → ⊥) → stored_at k i ≡ stored_at (k + 1) i
      theirs i ne =
          case (in_tile t i)
          (λ y. let other : place_in t i ≡ k → ⊥ = (λ e. ne (sym (tile_spot t ws i y) ∙ ap (spot_of t) e)) in
          elim (dec_lt (place_in t i) k) [
            | yes l ↦ here-stored k i y l ∙ sym (here-stored (k + 1) i y (omega arith))
            | no m ↦ not_stored k i (λ x. omega arith) ∙ sym (not_stored (k + 1) i (λ x. omega arith))
          ])
          (λ z. not_stored k i (λ y. clash y z) ∙ sym (not_stored (k + 1) i (λ y. clash y z)))

      pub store_more : (next : ℕ) (v : ℤ) → next ≡ k + 1 → v ≡ repaint (plane (t.h * t.w) 0 work k) (at cells here) → set (stored_to k cells work t) here v ≡ stored_to next cells work t
      store_more next v n e =
          ext_get_or (pos 0) (set old here v) (stored_to (k + 1) cells work t) (simp length-set (stored-size k ∙ sym (stored-size (k + 1))))
          (λ i l. let li : i < length cells = omega (arith, stored-size k, length-set old here v) in at_place i li (ℕ_discrete i here))
          ∙ ap (λ (x : ℕ). stored_to x cells work t) (sym n)
        where
          old : List ℤ
          old = stored_to k cells work t

          at_place : (i : ℕ) → i < length cells → Dec (i ≡ here) → get_or (set old here v) i (pos 0) ≡ get_or (stored_to (k + 1) cells work t) i (pos 0)
          at_place i li (yes z) =
              ap (λ (x : ℕ). get_or (set old here v) x (pos 0)) z ∙ get_or-set_same old here v (pos 0) (omega (arith, stored-size k)) ∙ e ∙ sym mine
              ∙ sym (stored-at (k + 1) here inside) ∙ ap (λ (x : ℕ). get_or (stored_to (k + 1) cells work t) x (pos 0)) (sym z)
          at_place i li (no ne) = get_or-set_other old here i v (pos 0) ne ∙ stored-at k i li ∙ theirs i ne ∙ sym (stored-at (k + 1) i li)

pub stored-to : (k m : ℕ) (new cells : List ℤ) (work : List ℕ) (t : Tile) → k ≡ m → new ≡ stored_to k cells work t → new ≡ stored_to m cells work t
stored-to k m new cells work t n e = e ∙ ap (λ (x : ℕ). stored_to x cells work t) n

-- the same for what a loop holds: the cell at (y, x) gets its paint
pub store_next : (l new : List ℤ) (work : List ℕ) (t : Tile) (y x : ℕ) (v : ℤ) → Lies new work t → y < t.h → x < t.w → new ≡ stored_to (y * t.w + x) l work t →
    v ≡ repaint (plane (t.h * t.w) 0 work (y * t.w + x)) (get_or new (t.start + y * t.stride + x) (pos 0)) → set new (t.start + y * t.stride + x) v ≡ stored_to (y * t.w + (x + 1)) l work t
store_next l new work t y x v f ly lx e is =
    let k : ℕ = y * t.w + x in
    let lk : k < t.h * t.w = place_in_lem t.h t.w y x ly lx in
    let size : length new ≡ length l = ap length e ∙ stored-size l work t k in
    let spot : spot_of t k ≡ t.start + y * t.stride + x = spot_is t y x lx in
    let inside : spot_of t k < length l = (let m = f.in_list k lk in omega arith) in
    let old : get_or new (t.start + y * t.stride + x) (pos 0) ≡ at l (spot_of t k) =
    ap (λ (i : ℕ). get_or new i (pos 0)) (sym spot) ∙ ap (λ (c : List ℤ). get_or c (spot_of t k) (pos 0)) e ∙ store_old l work t f.narrow k lk inside in
    ap (λ (i : ℕ). set new i v) (sym spot) ∙ ap (λ (c : List ℤ). set c (spot_of t k) v) e
    ∙ store_more l work t f.narrow k lk inside (y * t.w + (x + 1)) v (omega arith) (is ∙ ap (repaint (plane (t.h * t.w) 0 work k)) old)

-- ---- paints

pub paints_none : (work : List ℕ) → PaintsTo 0 work
paints_none work = record { most = λ p l. absurd (not-suc-le-zero l) }

pub paints_more : {k v : ℕ} {work : List ℕ} → PaintsTo k work → k < length work → v ≤ 2147483648 → PaintsTo (k + 1) (set work k v)
paints_more {k = k} {v = v} {work = work} m l most = record {
  most = λ p lp.
      elim (ℕ_discrete p k) [
        | yes y ↦ omega (arith, ap (λ (i : ℕ). get_or (set work k v) i 0) y, get_or-set_same work k v 0 l)
        | no ne ↦ omega (arith, get_or-set_other work k p v 0 ne, m.most p (omega arith))
      ];
}

pub paints_to : {k m : ℕ} {work : List ℕ} → k ≡ m → PaintsTo k work → PaintsTo m work
paints_to {work = work} e = subst (λ (x : ℕ). PaintsTo x work) e

pub paints_plane : {n : ℕ} {work : List ℕ} → PaintsTo n work → (p : ℕ) → p < n → plane n 0 work p ≤ 2147483648
paints_plane {n = n} {work = work} m p l = omega (arith, plane_read n 0 p p work (omega arith), m.most p l)

-- ---- the whole sheet

pub whole_tile : (cells : List ℤ) (work : List ℕ) (h w : ℕ) → h ≤ 514 → w ≤ 514 → h * w ≤ length cells → 8 * (h * w) ≤ length work → Lies cells work (whole_sheet h w)
whole_tile cells work h w a b c d = record {
  rows = a;
  cols = b;
  planes = d;
  from = omega arith;
  narrow = omega arith;
  wide = b;
  in_list = λ p l. omega (arith, spot-whole h w p);
}

-- plane 0 after the first n numbers were filled
pub filled-plane : (n : ℕ) (f : ℕ → ℕ) (l : List ℕ) (p : ℕ) → p < n → plane n 0 (filled n f l) p ≡ f p
unfolding plane
filled-plane n f l p h = ap (λ (i : ℕ). get_or (filled n f l) i 0) (omega arith) ∙ filled_at n f l 0 p h

-- a loaded sheet is painted
pub load_whole : (cells : List ℤ) (work : List ℕ) (h w : ℕ) → h * w ≤ length cells → Painted (take (h * w) cells) (h * w) (filled (h * w) (tile_paint cells (whole_sheet h w)) work)
unfolding tile_paint at
load_whole cells work h w c = record {
  size = length-take-le (h * w) cells c;
  paint = λ p l.
      filled-plane (h * w) (tile_paint cells (whole_sheet h w)) work p l
      ∙ ap (λ (i : ℕ). paint_of (at cells i)) (spot-whole h w p) ∙ ap paint_of (sym (get_or-take (h * w) cells p (negsuc 0) l));
}

-- and a sheet stored whole is repainted from the front
pub store_whole : (cells : List ℤ) (work : List ℕ) (h w : ℕ) → h * w ≤ length cells →
    stored cells work (whole_sheet h w) ≡ filled (h * w) (λ i. repaint (plane (h * w) 0 work i) (at cells i)) cells
unfolding stored
store_whole cells work h w c =
    filled_is (h * w) (λ i. repaint (plane (h * w) 0 work i) (at cells i)) cells (stored cells work (whole_sheet h w)) (pos 0) c (table-length (length cells) value)
    (λ p l. table_at (length cells) value (pos 0) p (omega arith) ∙ in_front p l) (λ p l. past p l (dec_lt p (length cells)))
  where
    value : ℕ → ℤ
    value i = cond (in_tile (whole_sheet h w) i) (repaint (plane (h * w) 0 work (place_in (whole_sheet h w) i)) (at cells i)) (at cells i)

    in_front : (p : ℕ) → p < h * w → value p ≡ repaint (plane (h * w) 0 work p) (at cells p)
    in_front p l =
        let e = spot-whole h w p in
        let y : in_tile (whole_sheet h w) p ≡ true = subst (λ (i : ℕ). in_tile (whole_sheet h w) i ≡ true) e (spot_in (whole_sheet h w) (omega arith) p l) in
        let q : place_in (whole_sheet h w) p ≡ p = subst (λ (i : ℕ). place_in (whole_sheet h w) i ≡ p) e (spot_place (whole_sheet h w) (omega arith) p l) in
        rw (y, q)

    past : (p : ℕ) → h * w ≤ p → Dec (p < length cells) → get_or (stored cells work (whole_sheet h w)) p (pos 0) ≡ get_or cells p (pos 0)
    past p l (yes k) =
        table_at (length cells) value (pos 0) p k
        ∙ case (in_tile (whole_sheet h w) p)
        (λ y. let a = tile_place (whole_sheet h w) (omega arith) p y in let b = tile_spot (whole_sheet h w) (omega arith) p y in absurd (omega (arith, spot-whole h w (place_in (whole_sheet h w) p))))
        (λ z. rw z (sym (read_at cells p k)))
    past p l (no k) =
        get_or-eq_default (stored cells work (whole_sheet h w)) (pos 0) (omega (arith, table-length (length cells) value)) ∙ sym (get_or-eq_default cells (pos 0) (omega arith))
