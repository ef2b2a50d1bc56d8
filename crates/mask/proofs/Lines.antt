-- Stretches of numbers written one after another, counts along a row, and counts down the columns. Assumes nothing.
use Prim.Native.Nat.{ℕ, ◌+◌, ◌-◌, ◌*◌, ◌≤◌, ◌<◌, min, zero-le}
use mathlib.Core.Path.{◌≡◌, refl, sym, ap, ap₂, ◌∙◌}
use mathlib.Core.Bool.{Bool, ◌&&◌, cond}
use mathlib.Core.List.{List, ◌++◌}
use native.Mathlib.Nat.{le_of_lt, suc-mul, zero-mul, mul-le-mul_right, min-eq_left, min-eq_right}
use native.Mathlib.Numerals.{add-one}
use native.Mathlib.Decide.{dec_lt, dec_le}
use native.Mathlib.Omega.{arith}
use borrow.Rule.Slice.PartMut.{put_mid}
use Rattle.std.proofs.Common.{append_assoc, below_more}
use Rattle.std.proofs.lemmas.List.{take_at, drop_at, drop-drop}
use lib.ListN.{length, get_or, set, take, drop, replicate, length-append, length-drop, length-replicate, get_or-append, get_or-replicate}
use lib.Seq.{ext_get_or, get_or-set_same, get_or-set_other, get_or-append_right, get_or-take, get_or-drop, length-take-le}
use Rattle.base.specs.Outputs.{filled}
use Rattle.base.specs.Places.{table, any, count}
use Rattle.base.proofs.Counting.{case, any_same, count_le, table_at, table-length, table_same}
use Rattle.rules.specs.Grid.{close}
use Rattle.rules.specs.Masks.{is_set}
use Rattle.mask.specs.Lines.{bit_of, less, set_in, count_with_margin, next_count, in_row, Counted}
use Rattle.grid.proofs.Tiles.{next_row}
use Rattle.mask.proofs.Windows.{window_law}

one_small : (b : Bool) → cond b 1 0 ≤ 1
one_small b = case b (λ y. rw y (omega arith)) (λ z. rw z (omega arith))

pub bit_small : (v : ℕ) → bit_of v ≤ 1
unfolding bit_of
bit_small v = one_small (is_set v)

-- ---- lists by their numbers

-- a list that holds f 0, f 1, ..
pub table_is : {A : Type 0} (n : ℕ) (f : ℕ → A) (d : A) (xs : List A) → length xs ≡ n → ((p : ℕ) → p < n → get_or xs p d ≡ f p) → xs ≡ table n f
table_is n f d xs e h =
    ext_get_or d xs (table n f) (e ∙ sym (table-length n f))
    (λ p l. let k : p < n = omega arith in h p k ∙ sym (table_at n f d p k))

-- one place more of what a loop writes
pub set_more : (f : ℕ → ℕ) (i v : ℕ) (xs : List ℕ) → ((k : ℕ) → k < i → get_or xs k 0 ≡ f k) → i < length xs → v ≡ f i →
    (k : ℕ) → k < i + 1 → get_or (set xs i v) k 0 ≡ f k
set_more f i v xs h l e =
    below_more _ _ (λ k m. get_or-set_other xs i k v 0 (λ z. absurd (omega arith)) ∙ h k m) (get_or-set_same xs i v 0 l ∙ e)

-- two lists one after the other
table_join : {A : Type 0} (m n : ℕ) (f : ℕ → A) (d : A) {xs ys : List A} → xs ≡ table m f → ys ≡ table n (λ i. f (m + i)) → xs ++ ys ≡ table (m + n) f
table_join {A} m n f d {xs} {ys} a b =
    table_is (m + n) f d (xs ++ ys) (length-append xs ys ∙ omega (arith, size, ap length b, table-length n (λ i. f (m + i)))) (λ p l. at p l (dec_lt p m))
  where
    size : length xs ≡ m
    size = ap length a ∙ table-length m f

    at : (p : ℕ) → p < m + n → Dec (p < m) → get_or (xs ++ ys) p d ≡ f p
    at p l (yes y) = get_or-append xs ys d p (omega (arith, size)) ∙ ap (λ (x : List A). get_or x p d) a ∙ table_at m f d p y
    at p l (no z) =
        let q : m + (p - m) ≡ p = omega arith in
        get_or-append_right xs ys p d (omega (arith, size)) ∙ ap (λ (i : ℕ). get_or ys (p - i) d) size ∙ ap (λ (x : List A). get_or x (p - m) d) b
        ∙ table_at n (λ i. f (m + i)) d (p - m) (omega arith) ∙ ap f q

-- one number over and over
table_alike : (n v : ℕ) (f : ℕ → ℕ) → ((i : ℕ) → i < n → f i ≡ v) → replicate n v ≡ table n f
table_alike n v f h = table_is n f 0 (replicate n v) (length-replicate n v) (λ i l. get_or-replicate n i v 0 l ∙ sym (h i l))

-- a part of a list: what stands in it, and how long it is
pub part_at : (xs : List ℕ) (a k j : ℕ) → j < k → get_or (take k (drop a xs)) j 0 ≡ get_or xs (a + j) 0
part_at xs a k j l = get_or-take k (drop a xs) j 0 l ∙ get_or-drop a xs j 0

pub part_size : (xs : List ℕ) (a k : ℕ) → a + k ≤ length xs → length (take k (drop a xs)) ≡ k
part_size xs a k l = length-take-le k (drop a xs) (omega (arith, length-drop a xs))

-- one row more of a list that is filled from the front
pub row_filled : (n w k : ℕ) (f : ℕ → ℕ) (a b row : List ℕ) → b ≡ filled n f a → row ≡ table w (λ i. f (n + i)) → k ≡ w → put_mid n k b row ≡ filled (n + w) f a
unfolding filled
row_filled n w k f a b row e r is =
    let t : take n b ≡ table n f = ap (take n) e ∙ take_at (table n f) (drop n a) n (table-length n f) in
    let q : drop k (drop n b) ≡ drop (n + w) a = ap (λ (x : List ℕ). drop k (drop n x)) e ∙ ap (drop k) (drop_at (table n f) (drop n a) n (table-length n f)) ∙ drop-drop k n a ∙ ap (λ (m : ℕ). drop (n + m) a) is in
    let j : table n f ++ row ≡ table (n + w) f = table_join n w f 0 refl r in
    let s : table n f ++ (row ++ drop (n + w) a) ≡ (table n f ++ row) ++ drop (n + w) a = simp append_assoc in
    ap₂ (λ (x y : List ℕ). x ++ (row ++ y)) t q ∙ s ∙ ap (λ (x : List ℕ). x ++ drop (n + w) a) j

-- ---- counts along a row

pub tally_zero : (t : ℕ → Bool) → 0 ≡ count 0 t
unfolding count
tally_zero t = refl

-- the count goes on by one place's bit
pub tally_sum : (row : List ℕ) (d : ℕ) {s v : ℕ} → s ≡ count d (set_in row) → v ≡ bit_of (get_or row d 0) → s + v ≡ count (d + 1) (set_in row)
unfolding count set_in bit_of
tally_sum row d e f = rw (add-one d) (omega arith)

-- nothing, the counts of a row, and the last of them again: the row's counts with a margin
pub count_with_margin-is : (t : ℕ → Bool) (r w sum : ℕ) (a b c : List ℕ) → a ≡ replicate r 0 → b ≡ table w (λ i. count i t) → sum ≡ count w t → c ≡ replicate (r + 1) sum →
    a ++ (b ++ c) ≡ table (r + (w + (r + 1))) (count_with_margin r w t)
unfolding count_with_margin count
count_with_margin-is t r w sum a b c front row all end =
    table_join r (w + (r + 1)) (count_with_margin r w t) 0 (front ∙ table_alike r 0 (count_with_margin r w t) (λ i l. upto (before i l)))
    (table_join w (r + 1) (λ i. count_with_margin r w t (r + i)) 0 (row ∙ table_same w (λ i. count i t) (λ i. count_with_margin r w t (r + i)) 0 (λ i l. sym (upto (within i l))))
    (end ∙ table_alike (r + 1) sum (λ i. count_with_margin r w t (r + (w + i))) (λ i l. upto (past i) ∙ sym all)))
  where
    upto : {m n : ℕ} → m ≡ n → count m t ≡ count n t
    upto e = ap (λ (m : ℕ). count m t) e

    before : (i : ℕ) → i < r → min (i - r) w ≡ 0
    before i l = let e : i - r ≡ 0 = omega arith in rw e (min-eq_left zero-le)

    within : (i : ℕ) → i < w → min (r + i - r) w ≡ i
    within i l = let e : r + i - r ≡ i = omega arith in rw e (min-eq_left (le_of_lt l))

    past : (i : ℕ) → min (r + (w + i) - r) w ≡ w
    past i = let e : r + (w + i) - r ≡ w + i = omega arith in rw e (min-eq_right (omega arith))

-- the two ends of the window of k about j, with a margin of r on either side of the line
ends : {r w : ℕ} (k : ℕ) → r ≡ min k w → (j : ℕ) → j < w → (min (j - r) w ≡ j - k) × (min (2 * r + 1 + j - r) w ≡ min (j + k + 1) w)
ends {r} {w} k e j l = go (dec_le k w)
  where
    go : Dec (k ≤ w) → (min (j - r) w ≡ j - k) × (min (2 * r + 1 + j - r) w ≡ min (j + k + 1) w)
    go (yes y) =
        let q : r ≡ k = e ∙ min-eq_left y in
        let hi : 2 * r + 1 + j - r ≡ j + k + 1 = omega arith in
        (rw q (min-eq_left (omega arith)), ap (λ (m : ℕ). min m w) hi)
    go (no z) =
        let q : r ≡ w = e ∙ min-eq_right (omega arith) in
        let lo : j - r ≡ j - k = omega arith in
        (rw lo (min-eq_left (omega arith)), min-eq_right (omega arith) ∙ sym (min-eq_right (omega arith)))

-- the counts with a margin tell whether a place within k of j passes
near-row : (t : ℕ → Bool) {r : ℕ} (k w : ℕ) → r ≡ min k w → (j : ℕ) → j < w →
    less (count_with_margin r w t j) (count_with_margin r w t (2 * r + 1 + j)) ≡ cond (any w (λ i. t i && close k j i)) 1 0
unfolding less count_with_margin
near-row t {r} k w e j l = let q = ends k e j l in rw (q.0, q.1) (ap (λ (b : Bool). cond b 1 0) (window_law t w k j))

-- ---- counts down the columns

-- a row ends at or before the end of them all
pub row_below : (y h w : ℕ) → y < h → y * w + w ≤ h * w
row_below y h w l = omega (arith, mul-le-mul_right w l, suc-mul y w)

pub counted_none : (mask a b : List ℕ) (w k : ℕ) → a ≡ replicate w 0 → Counted mask w k 0 (a ++ b)
unfolding count
counted_none mask a b w k e =
    record {
      rows = λ y x l m.
          let q : y ≡ 0 = omega arith in
          let z : 0 * w + x ≡ x = omega (arith, zero-mul w) in
          rw q (ap (λ (p : ℕ). get_or (a ++ b) p 0) z ∙ get_or-append a b 0 x (omega (arith, ap length e, length-replicate {A = ℕ} w 0)) ∙ ap (λ (v : List ℕ). get_or v x 0) e ∙ get_or-replicate w x 0 0 m);
    }

-- the rows stand in front of what lies behind them
pub counted_front : (mask a b : List ℕ) (w k y : ℕ) → Counted mask w k y a → y * w + w ≤ length a → Counted mask w k y (a ++ b)
counted_front mask a b w k y c room =
    record { rows = λ z x l m. let e = mul-le-mul_right w l in get_or-append a b 0 (z * w + x) (omega arith) ∙ c.rows z x l m }

-- a count of rows is at most their number
pub counted-small : {mask a : List ℕ} {w k y : ℕ} → Counted mask w k y a → (x : ℕ) → x < w → get_or a (y * w + x) 0 ≤ y
counted-small {mask} {a} {w} {k} {y} c x l = omega (arith, c.rows y x (omega arith) l, count_le y (in_row mask w k x))

-- the row above the next one, as it is read
pub above_at : (rows done : List ℕ) (w y k x : ℕ) → done ≡ take (y * w + w) rows → x < k → x < w → get_or (take k (drop (y * w) done)) x 0 ≡ get_or rows (y * w + x) 0
above_at rows done w y k x e l m =
    part_at done (y * w) k x l ∙ ap (λ (v : List ℕ). get_or v (y * w + x) 0) e ∙ get_or-take (y * w + w) rows (y * w + x) 0 (omega arith)

-- one row more, by its counts: `done` are the rows before it, and `line` the counts along the mask's row
pub counted-more : (mask rows done next rest line lo hi : List ℕ) (w k r y len room along : ℕ) → r ≡ min k w → Counted mask w k y rows → y * w + w ≤ length rows →
    done ≡ take (y * w + w) rows → next ≡ table len (next_count (take room (drop (y * w) done)) lo hi) → len ≡ w → w ≤ room →
    line ≡ table (r + (w + (r + 1))) (count_with_margin r w (set_in (take along (drop (y * w) mask)))) → w ≤ along →
    ((j : ℕ) → j < w → get_or lo j 0 ≡ get_or line j 0) → ((j : ℕ) → j < w → get_or hi j 0 ≡ get_or line (2 * r + 1 + j) 0) →
    Counted mask w k (y + 1) (done ++ (next ++ rest))
unfolding count in_row next_count set_in
counted-more mask rows done next rest line lo hi w k r y len room along e c held before row size wide pad far low high =
    record { rows = λ z x l m. at z x l m (dec_le z y) }
  where
    front : length done ≡ y * w + w
    front = ap length before ∙ length-take-le (y * w + w) rows held

    t : ℕ → Bool
    t i = set_in (take along (drop (y * w) mask)) i

    on_line : (i : ℕ) → i < r + (w + (r + 1)) → get_or line i 0 ≡ count_with_margin r w t i
    on_line i l = ap (λ (v : List ℕ). get_or v i 0) pad ∙ table_at _ (count_with_margin r w t) 0 i l

    near : (x : ℕ) → x < w → less (get_or lo x 0) (get_or hi x 0) ≡ cond (in_row mask w k x y) 1 0
    near x m =
        rw (low x m, high x m, on_line x (omega arith), on_line (2 * r + 1 + x) (omega arith))
        (near-row t k w e x m
        ∙ ap (λ (b : Bool). cond b 1 0) (any_same w (λ i. t i && close k x i) (λ i. set_in mask (y * w + i) && close k x i)
        (λ i l. ap (λ (v : ℕ). is_set v && close k x i) (part_at mask (y * w) along i (omega arith)))))

    fresh : (x : ℕ) → x < w → get_or (done ++ (next ++ rest)) (y * w + w + x) 0 ≡ count (y + 1) (in_row mask w k x)
    fresh x m =
        let i : y * w + w + x - length done ≡ x = omega (arith, front) in
        let n : length next ≡ w = ap length row ∙ table-length len _ ∙ size in
        let got : get_or (done ++ (next ++ rest)) (y * w + w + x) 0 ≡ get_or (take room (drop (y * w) done)) x 0 + less (get_or lo x 0) (get_or hi x 0) =
        get_or-append_right done (next ++ rest) (y * w + w + x) 0 (omega (arith, front)) ∙ ap (λ (p : ℕ). get_or (next ++ rest) p 0) i
        ∙ get_or-append next rest 0 x (omega arith) ∙ ap (λ (v : List ℕ). get_or v x 0) row ∙ table_at len _ 0 x (omega arith) in
        rw (add-one y) (omega (arith, got, above_at rows done w y room x before (omega arith) m, near x m, c.rows y x (omega arith) m))

    at : (z x : ℕ) → z ≤ y + 1 → x < w → Dec (z ≤ y) → get_or (done ++ (next ++ rest)) (z * w + x) 0 ≡ count z (in_row mask w k x)
    at z x l m (yes g) =
        let f = mul-le-mul_right w g in
        get_or-append done (next ++ rest) 0 (z * w + x) (omega (arith, front)) ∙ ap (λ (v : List ℕ). get_or v (z * w + x) 0) before
        ∙ get_or-take (y * w + w) rows (z * w + x) 0 (omega arith) ∙ c.rows z x g m
    at z x l m (no g) = let q : z ≡ y + 1 = omega arith in rw (q, next_row y w) (fresh x m)
