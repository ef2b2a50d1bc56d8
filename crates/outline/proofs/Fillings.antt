-- More laws of lists filled from the front or in stretches: one stretch after or before another, row by row, and a sheet at the front. Assumes nothing.
use Prim.Native.Nat.{ℕ, ◌+◌, ◌-◌, ◌*◌, ◌≤◌, ◌<◌}
use mathlib.Core.Path.{◌≡◌, refl, sym, ap, ◌∙◌}
use mathlib.Core.List.{List, ◌++◌}
use native.Mathlib.Decide.{dec_lt, ℕ_discrete}
use native.Mathlib.Omega.{arith}
use lib.IntN.{ℤ}
use lib.ListN.{length, get_or, set, take, drop, take-append-drop, length-set, length-append, length-drop, get_or-append}
use Rattle.std.proofs.Common.{append-nil}
use lib.Seq.{take_at, drop_at, drop-length, length-take-le, get_or-take, get_or-drop, get_or-append-add, ext_get_or, get_or-set_same, get_or-set_other}
use Rattle.base.specs.Places.{table, table_from}
use Rattle.base.specs.Outputs.{filled}
use Rattle.base.proofs.Counting.{table-length}
use Rattle.base.proofs.Fills.{filled_at, filled_past, filled-length, filled_is}
use Rattle.rules.specs.Sheet.{over}
use Rattle.outline.specs.Rows.{stretch}
use Rattle.outline.proofs.Places.{row_on}

-- the places from a to n - 1 of l hold f, in m, and all others what they held
pub record Span {A : Type 0} (d : A) (a n : ℕ) (f : ℕ → A) (l m : List A) : Type 0 where
  pub size : length m ≡ length l
  pub low : (q : ℕ) → q < a → get_or m q d ≡ get_or l q d
  pub done : (q : ℕ) → a ≤ q → q < n → get_or m q d ≡ f q
  pub past : (q : ℕ) → n ≤ q → get_or m q d ≡ get_or l q d

-- nothing written yet
pub span_none : {A : Type 0} (d : A) (a : ℕ) (f : ℕ → A) (l : List A) → Span d a a f l l
span_none d a f l = record { size = refl; low = λ q h. refl; done = λ q h k. absurd (omega arith); past = λ q h. refl }

module _ {A : Type 0} {d : A} {a b n : ℕ} {f g : ℕ → A} {l m k : List A} (low : a ≤ b) (high : b ≤ n) where
  -- the places after those that were written
  pub span-after : Span d a b f l m → Span d b n g m k → ((q : ℕ) → b ≤ q → q < n → g q ≡ f q) → Span d a n f l k
  span-after v u e =
      record {
        size = u.size ∙ v.size;
        low = λ q h. u.low q (omega arith) ∙ v.low q h;
        done = λ q h i. elim (dec_lt q b) [ yes y ↦ u.low q y ∙ v.done q h y | no z ↦ u.done q (omega arith) i ∙ e q (omega arith) i ];
        past = λ q h. u.past q h ∙ v.past q (omega arith);
      }

  -- the places before them
  pub span-before : Span d b n f l m → Span d a b g m k → ((q : ℕ) → a ≤ q → q < b → g q ≡ f q) → Span d a n f l k
  span-before v u e =
      record {
        size = u.size ∙ v.size;
        low = λ q h. u.low q h ∙ v.low q (omega arith);
        done = λ q h i. elim (dec_lt q b) [ yes y ↦ u.done q h y ∙ e q h y | no z ↦ u.past q (omega arith) ∙ v.done q (omega arith) i ];
        past = λ q h. u.past q (omega arith) ∙ v.past q h;
      }

-- one place
span_one : {A : Type 0} (d : A) (n : ℕ) (m : List A) (x : A) → n < length m → Span d n (n + 1) (λ q. x) m (set m n x)
span_one d n m x room =
    record {
      size = length-set m n x;
      low = λ q h. get_or-set_other m n q x d (λ z. omega arith);
      done = λ q h i. let z : q ≡ n = omega arith in ap (λ (j : ℕ). get_or (set m n x) j d) z ∙ get_or-set_same m n x d room;
      past = λ q h. get_or-set_other m n q x d (λ z. omega arith);
    }

module _ {A : Type 0} (d : A) (n : ℕ) (f : ℕ → A) (l : List A) where
  pub span_filled : (m : List A) → n ≤ length l → Span d 0 n f l m → m ≡ filled n f l
  span_filled m room v = filled_is n f l m d room v.size (λ p h. v.done p (omega arith) h) (λ p h. v.past p h)

  -- a stretch from a on
  module _ (a : ℕ) (room : a + n ≤ length l) where
    length_front : length (take a l) ≡ a
    length_front = length-take-le a l (omega arith)

    length_back : n ≤ length (drop a l)
    length_back = omega (arith, length-drop a l)

    -- what is written from a on
    from : (q : ℕ) → a ≤ q → get_or (stretch a n f l) q d ≡ get_or (filled n (λ i. f (a + i)) (drop a l)) (q - a) d
    unfolding stretch
    from q h =
        let e : q ≡ length (take a l) + (q - a) = omega (arith, length_front) in
        ap (λ (i : ℕ). get_or (take a l ++ filled n (λ i. f (a + i)) (drop a l)) i d) e ∙ get_or-append-add (take a l) _ (q - a) d

    pub stretch-span : Span d a (a + n) f l (stretch a n f l)
    unfolding stretch
    stretch-span =
        record {
          size = length-append (take a l) _ ∙ omega (arith, length_front, length-drop a l, filled-length n (λ i. f (a + i)) (drop a l) length_back);
          low = λ q h. get_or-append (take a l) _ d q (omega (arith, length_front)) ∙ get_or-take a l q d h;
          done = λ q h i. let e : a + (q - a) ≡ q = omega arith in from q h ∙ filled_at n (λ i. f (a + i)) (drop a l) d (q - a) (omega arith) ∙ ap f e;
          past = λ q h. let e : a + (q - a) ≡ q = omega arith in
              from q (omega arith) ∙ filled_past n (λ i. f (a + i)) (drop a l) d (q - a) (omega arith) ∙ get_or-drop a l (q - a) d ∙ ap (λ (i : ℕ). get_or l i d) e;
        }

    -- what a stretch holds settles it
    pub span-stretch : (m : List A) → Span d a (a + n) f l m → m ≡ stretch a n f l
    span-stretch m v = ext_get_or d m (stretch a n f l) (v.size ∙ sym stretch-span.size) (λ q i. at q (dec_lt q a) (dec_lt q (a + n)))
      where
        at : (q : ℕ) → Dec (q < a) → Dec (q < a + n) → get_or m q d ≡ get_or (stretch a n f l) q d
        at q (yes y) e = v.low q y ∙ sym (stretch-span.low q y)
        at q (no z) (yes y) = v.done q (omega arith) y ∙ sym (stretch-span.done q (omega arith) y)
        at q (no z) (no y) = v.past q (omega arith) ∙ sym (stretch-span.past q (omega arith))

-- nothing is written
pub stretch_none : {A : Type 0} (a n : ℕ) (f : ℕ → A) (l : List A) → n ≡ 0 → l ≡ stretch a n f l
unfolding stretch filled table table_from
stretch_none a n f l e = rw e (sym (take-append-drop a l))

-- ---- the rows of a sheet

module _ {A : Type 0} {d : A} (a x : ℕ) {f : ℕ → A} {l m : List A} (v : Span d (a + 1) (a + x) f l m) (low : 1 ≤ x) where
  -- a row between its ends: one cell more
  pub row_more : a + x < length l → (y : A) → y ≡ f (a + x) → Span d (a + 1) (a + (x + 1)) f l (set m (a + x) y)
  row_more room y e =
      let next : a + x + 1 ≡ a + (x + 1) = omega arith in
      rw next at (span-after {f = f} (omega arith) (omega arith) v (span_one d (a + x) m y (omega (arith, v.size))) (λ q h i. e ∙ ap f (omega arith)))

  -- then its ends
  pub row_ends : (n last : ℕ) → last + 1 ≡ n → x ≤ n → last ≤ x → a + n ≤ length l → (y z : A) → y ≡ f (a + 0) → z ≡ f (a + last) → set (set m (a + 0) y) (a + last) z ≡ stretch a n f l
  row_ends n last e up down room y z ey ez =
      span-stretch d n f l a room _ (record {
        size = length-set (set m (a + 0) y) (a + last) z ∙ length-set m (a + 0) y ∙ v.size;
        low = λ q h. second q (λ i. omega arith) ∙ first q (λ i. omega arith) ∙ v.low q (omega arith);
        done = λ q h i. at q h i (ℕ_discrete q (a + last)) (ℕ_discrete q (a + 0));
        past = λ q h. second q (λ i. omega arith) ∙ first q (λ i. omega arith) ∙ v.past q (omega arith);
      })
    where
      first : (q : ℕ) → (q ≡ a + 0 → ⊥) → get_or (set m (a + 0) y) q d ≡ get_or m q d
      first q i = get_or-set_other m (a + 0) q y d i

      second : (q : ℕ) → (q ≡ a + last → ⊥) → get_or (set (set m (a + 0) y) (a + last) z) q d ≡ get_or (set m (a + 0) y) q d
      second q i = get_or-set_other (set m (a + 0) y) (a + last) q z d i

      at : (q : ℕ) → a ≤ q → q < a + n → Dec (q ≡ a + last) → Dec (q ≡ a + 0) → get_or (set (set m (a + 0) y) (a + last) z) q d ≡ f q
      at q h i (yes r) s =
          let within : a + last < length (set m (a + 0) y) = omega (arith, v.size, length-set m (a + 0) y) in
          ap (λ (j : ℕ). get_or (set (set m (a + 0) y) (a + last) z) j d) r ∙ get_or-set_same (set m (a + 0) y) (a + last) z d within ∙ ez ∙ ap f (sym r)
      at q h i (no r) (yes s) =
          let within : a + 0 < length m = omega (arith, v.size) in
          second q r ∙ ap (λ (j : ℕ). get_or (set m (a + 0) y) j d) s ∙ get_or-set_same m (a + 0) y d within ∙ ey ∙ ap f (sym s)
      at q h i (no r) (no s) = second q r ∙ first q s ∙ v.done q (omega arith) (omega arith)

-- row after row, from the first on
pub rows_more : {A : Type 0} {d : A} {f : ℕ → A} {l m : List A} (y w : ℕ) → Span d 0 (y * w) f l m → y * w + w ≤ length l → Span d 0 ((y + 1) * w) f l (stretch (y * w) w f m)
rows_more {d = d} {f = f} {m = m} y w v room =
    rw (row_on y w) (span-after (omega arith) (omega arith) v (stretch-span d w f m (y * w) (omega (arith, v.size))) (λ q h i. refl))

module _ {A : Type 0} (n : ℕ) (f : ℕ → A) (l : List A) where
  -- what was filled, and what lies past it
  pub filled_front : take n (filled n f l) ≡ table n f
  unfolding filled
  filled_front = take_at (table n f) (drop n l) n (table-length n f)

  pub filled_rest : drop n (filled n f l) ≡ drop n l
  unfolding filled
  filled_rest = drop_at (table n f) (drop n l) n (table-length n f)

-- a whole list is filled
pub filled_all : {A : Type 0} (f : ℕ → A) (l : List A) → filled (length l) f l ≡ table (length l) f
unfolding filled
filled_all f l = ap (λ r. table (length l) f ++ r) (drop-length l) ∙ append-nil (table (length l) f)

-- a table written over a lent list
pub over_table : (n : ℕ) (f : ℕ → ℤ) (l : List ℤ) → table n f ++ drop n l ≡ over (table n f) l
unfolding over
over_table n f l = rw (table-length n f)

-- writing n cells twice is writing them once
pub over-filled : (n : ℕ) (f : ℕ → ℤ) (l new : List ℤ) → length new ≡ n → over new (filled n f l) ≡ over new l
unfolding over
over-filled n f l new e = rw e (ap (λ (r : List ℤ). new ++ r) (filled_rest n f l))
