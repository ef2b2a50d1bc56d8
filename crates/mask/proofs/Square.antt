-- Along the rows, then down the columns, is within k rows and k columns. Assumes nothing.
use Prim.Native.Nat.{ℕ, ◌+◌, ◌-◌, ◌*◌, ◌/◌, ◌%◌, ◌≤◌, ◌<◌, min}
use mathlib.Core.Path.{◌≡◌, ap, ap₂, ◌∙◌}
use mathlib.Core.Bool.{Bool, true, ◌&&◌, cond}
use mathlib.Core.List.{List}
use native.Mathlib.Nat.{div-add-mod', min-le_right}
use native.Mathlib.Omega.{arith}
use lib.ListN.{length, get_or, take, drop}
use borrow.Rule.Slice.PartMut.{put_mid}
use Rattle.base.specs.Places.{table, any}
use Rattle.base.specs.Outputs.{filled}
use Rattle.base.proofs.Counting.{both, left, right, any_yes, yes_any, same_test, table_same}
use Rattle.base.proofs.Fills.{filled_at, filled_past, filled-length, filled_is}
use Rattle.rules.specs.Grid.{close}
use Rattle.rules.specs.Masks.{is_set, dilated_at}
use Rattle.mask.specs.Lines.{less, set_in, in_row, grows, Counted}
use Rattle.grid.proofs.Places.{row_in, col_in, row_of, col_of, place_in_lem}
use Rattle.grid.proofs.Tiles.{next_row}
use Rattle.mask.proofs.Windows.{window_law}
use Rattle.mask.proofs.Lines.{part_at, row_filled}

square : (h w k : ℕ) (t : ℕ → Bool) (p : ℕ) →
    any h (λ y. any w (λ i. t (y * w + i) && close k (p % w) i) && close k (p / w) y)
    ≡ any (h * w) (λ q. t q && close k (p / w) (q / w) && close k (p % w) (q % w))
square h w k t p = same_test there back
  where
    near : ℕ → Bool
    near q = t q && close k (p / w) (q / w) && close k (p % w) (q % w)

    across : ℕ → ℕ → Bool
    across y x = t (y * w + x) && close k (p % w) x

    there : any h (λ y. any w (across y) && close k (p / w) y) ≡ true → any (h * w) near ≡ true
    there e =
        let r = any_yes h (λ y. any w (across y) && close k (p / w) y) e in
        let y = r.0 in
        let s = any_yes w (across y) (left (any w (across y)) (close k (p / w) y) r.2) in
        let x = s.0 in
        let a : t (y * w + x) ≡ true = left (t (y * w + x)) (close k (p % w) x) s.2 in
        let b : close k (p / w) y ≡ true = right (any w (across y)) (close k (p / w) y) r.2 in
        let c : close k (p % w) x ≡ true = right (t (y * w + x)) (close k (p % w) x) s.2 in
        yes_any (h * w) near (y * w + x) (place_in_lem h w y x r.1 s.1)
        (both (both a (rw (row_of w y x s.1) b)) (rw (col_of w y x s.1) c))

    back : any (h * w) near ≡ true → any h (λ y. any w (across y) && close k (p / w) y) ≡ true
    back e =
        let r = any_yes (h * w) near e in
        let q = r.0 in
        let a = left (t q && close k (p / w) (q / w)) (close k (p % w) (q % w)) r.2 in
        let b : t (q / w * w + q % w) ≡ true = rw (div-add-mod' q w) (left (t q) (close k (p / w) (q / w)) a) in
        let c = right (t q && close k (p / w) (q / w)) (close k (p % w) (q % w)) r.2 in
        let s = yes_any w (across (q / w)) (q % w) (col_in h w q r.1) (both b c) in
        yes_any h (λ y. any w (across y) && close k (p / w) y) (q / w) (row_in h w q r.1)
        (both s (right (t q) (close k (p / w) (q / w)) a))

-- the counts down a column grow in a window of rows exactly if a place of the square about p is set
dilated : {mask work : List ℕ} {h w k : ℕ} → Counted mask w k h work → (p : ℕ) → p < h * w →
    grows work h w k (p / w) (p % w) ≡ dilated_at mask h w k p
unfolding grows less in_row set_in dilated_at
dilated {mask} {work} {h} {w} {k} c p l =
    let x = col_in h w p l in
    let y = row_in h w p l in
    let lo = c.rows (p / w - k) (p % w) (omega arith) x in
    let hi = c.rows (min (p / w + k + 1) h) (p % w) (min-le_right (p / w + k + 1) h) x in
    rw (lo, hi)
    (ap (λ (v : Bool). cond v 1 0) (window_law (in_row mask w k (p % w)) h k (p / w) ∙ square h w k (λ q. is_set (get_or mask q 0)) p))

filled-same : (n : ℕ) (f g : ℕ → ℕ) (l : List ℕ) → n ≤ length l → ((p : ℕ) → p < n → f p ≡ g p) → filled n f l ≡ filled n g l
filled-same n f g l h e =
    filled_is n g l (filled n f l) 0 h (filled-length n f l h) (λ p k. filled_at n f l 0 p k ∙ e p k) (filled_past n f l 0)

-- counted, then stored
pub dilation_is : {mask work last : List ℕ} {h w k : ℕ} (out : List ℕ) → h * w ≤ length out → Counted mask w k h work →
    last ≡ filled (h * w) (λ p. grows work h w k (p / w) (p % w)) out → last ≡ filled (h * w) (dilated_at mask h w k) out
dilation_is {mask} {work} {h = h} {w} {k} out room c e =
    e ∙ filled-same (h * w) (λ p. grows work h w k (p / w) (p % w)) (dilated_at mask h w k) out room (dilated c)

-- ---- row after row of the answer

-- a list that is filled up to row y, and that row put into it by the counts at the ends of its window: filled up to the next one
pub fill_row : (work a b row : List ℕ) (h w k y size lo hi below past len : ℕ) → b ≡ filled (y * w) (λ p. grows work h w k (p / w) (p % w)) a → lo ≡ y - k → hi ≡ min (y + k + 1) h →
    row ≡ table len (λ j. less (get_or (take below (drop (lo * w) work)) j 0) (get_or (take past (drop (hi * w) work)) j 0)) → len ≡ w → w ≤ below → w ≤ past → size ≡ w →
    put_mid (y * w) size b row ≡ filled ((y + 1) * w) (λ p. grows work h w k (p / w) (p % w)) a
unfolding grows
fill_row work a b row h w k y size lo hi below past len e low high is all l u s =
    rw (next_row y w) (row_filled (y * w) w size f a b row e (is ∙ ap (λ (n : ℕ). table n g) all ∙ table_same w g (λ j. f (y * w + j)) 0 same) s)
  where
    f : ℕ → ℕ
    f p = grows work h w k (p / w) (p % w)

    g : ℕ → ℕ
    g j = less (get_or (take below (drop (lo * w) work)) j 0) (get_or (take past (drop (hi * w) work)) j 0)

    same : (j : ℕ) → j < w → g j ≡ f (y * w + j)
    same j m = rw (row_of w y j m, col_of w y j m, ← low, ← high) (ap₂ less (part_at work (lo * w) below j (omega arith)) (part_at work (hi * w) past j (omega arith)))
