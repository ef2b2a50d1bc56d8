-- What tables, `any`, `count` and `least` say. Assumes nothing.
use Prim.Native.Nat.{ℕ, zero, suc, ◌+◌, ◌≤◌, ◌<◌, min, max, zero-le}
use mathlib.Core.Path.{◌≡◌, refl, sym, ap, ◌∙◌, subst}
use mathlib.Core.Logic.{◌⊎◌, inl, inr, ⊎_elim}
use mathlib.Core.Bool.{Bool, true, false, not, ◌&&◌, ◌||◌, cond, true≢false, false≢true}
use mathlib.Core.List.{List, [], ◌∷◌}
use native.Mathlib.Nat.{le_of_suc-le-suc, not-suc-le-zero, le_refl, le_trans, le_step, le_of_lt, lt-suc_self, add-zero, zero-add, add-suc, suc-add, min-le_left, min-le_right, min-eq_left, min-eq_right, le-max_left, le-max_right, max-eq_left, max-eq_right}
use native.Mathlib.Decide.{ℕ_discrete}
use native.Mathlib.Omega.{arith}
use lib.Dec.{T, leb, eqb, leb→le, le→leb, eqb→eq, eqb_refl, nleb→lt}
use lib.ListN.{length, get_or}
use lib.Seq.{ext_get_or}
use Rattle.base.specs.Places.{table_from, table, any, count, least, greatest}

-- ---- tests

pub case {ℓ} : {C : Type ℓ} (b : Bool) → (b ≡ true → C) → (b ≡ false → C) → C
case true y z = y refl
case false y z = z refl

pub clash {ℓ} : {C : Type ℓ} {b : Bool} → b ≡ true → b ≡ false → C
clash y z = absurd (true≢false (sym y ∙ z))

pub both : {a b : Bool} → a ≡ true → b ≡ true → (a && b) ≡ true
both y z = rw y z

pub left : (a b : Bool) → (a && b) ≡ true → a ≡ true
left true b e = refl
left false b e = e

pub right : (a b : Bool) → (a && b) ≡ true → b ≡ true
right true b e = e
right false b e = absurd (false≢true e)

pub either : (a b : Bool) → (a || b) ≡ true → (a ≡ true) ⊎ (b ≡ true)
either true b e = inl refl
either false b e = inr e

pub neither : (a b : Bool) → (a || b) ≡ false → (a ≡ false) × (b ≡ false)
neither true b e = absurd (true≢false e)
neither false b e = (refl, e)

pub or_left : {a : Bool} (b : Bool) → a ≡ true → (a || b) ≡ true
or_left b y = rw y

pub or_right : (a : Bool) {b : Bool} → b ≡ true → (a || b) ≡ true
or_right true y = refl
or_right false y = y

pub not_true : {b : Bool} → not b ≡ true → b ≡ false
not_true {b = true} e = absurd (false≢true e)
not_true {b = false} e = refl

pub not_false : {b : Bool} → b ≡ false → not b ≡ true
not_false y = rw y

pub from_T : (b : Bool) → T b → b ≡ true
from_T true t = refl
from_T false t = absurd t

pub to_T : {b : Bool} → b ≡ true → T b
to_T y = rw y tt

-- two tests that pass together are equal
pub same_test : {a b : Bool} → (a ≡ true → b ≡ true) → (b ≡ true → a ≡ true) → a ≡ b
same_test {a = true} {b} f g = sym (f refl)
same_test {a = false} {b = true} f g = g refl
same_test {a = false} {b = false} f g = refl

pub eqb_yes : {m n : ℕ} → eqb m n ≡ true → m ≡ n
eqb_yes {m} {n} e = eqb→eq m n (to_T e)

pub yes_eqb : {m n : ℕ} → m ≡ n → eqb m n ≡ true
yes_eqb {m} {n} e = rw e (from_T (eqb n n) (eqb_refl n))

pub leb_yes : {m n : ℕ} → leb m n ≡ true → m ≤ n
leb_yes {m} {n} e = leb→le m n (to_T e)

pub yes_leb : {m n : ℕ} → m ≤ n → leb m n ≡ true
yes_leb {m} {n} h = from_T (leb m n) (le→leb m n h)

pub no_leb : {m n : ℕ} → leb m n ≡ false → n < m
no_leb {m} {n} e = nleb→lt m n (to_T (not_false e))

-- ---- tables

module _ {A : Type 0} where
  from_at : (n i : ℕ) (f : ℕ → A) (d : A) (p : ℕ) → p < n → get_or (table_from i n f) p d ≡ f (i + p)
  unfolding table_from
  from_at zero i f d p h = absurd (not-suc-le-zero h)
  from_at (suc n) i f d zero h = ap f (sym (add-zero i))
  from_at (suc n) i f d (suc p) h = from_at n (suc i) f d p (le_of_suc-le-suc h) ∙ ap f (suc-add i p ∙ sym (add-suc i p))

  pub table_at : (n : ℕ) (f : ℕ → A) (d : A) (p : ℕ) → p < n → get_or (table n f) p d ≡ f p
  unfolding table
  table_at n f d p h = from_at n 0 f d p h ∙ ap f (zero-add p)

  from-length : (n i : ℕ) (f : ℕ → A) → length (table_from i n f) ≡ n
  unfolding table_from
  from-length zero i f = refl
  from-length (suc n) i f = ap suc (from-length n (suc i) f)

  pub table-length : (n : ℕ) (f : ℕ → A) → length (table n f) ≡ n
  unfolding table
  table-length n f = from-length n 0 f

  pub table_same : (n : ℕ) (f g : ℕ → A) → A → ((p : ℕ) → p < n → f p ≡ g p) → table n f ≡ table n g
  table_same n f g d e =
      ext_get_or d (table n f) (table n g) (table-length n f ∙ sym (table-length n g))
      (λ p h. let l : p < n = omega (arith, table-length n f) in table_at n f d p l ∙ e p l ∙ sym (table_at n g d p l))

-- within a list the value for places past its end does not matter: code reads with another one than `at`
pub get_d_within : {A : Type 0} (l : List A) (p : ℕ) (d e : A) → p < length l → get_or l p d ≡ get_or l p e
get_d_within [] p d e h = absurd (not-suc-le-zero h)
get_d_within (x ∷ xs) zero d e h = refl
get_d_within (x ∷ xs) (suc p) d e h = get_d_within xs p d e (le_of_suc-le-suc h)

-- ---- any

pub any_yes : (n : ℕ) (t : ℕ → Bool) → any n t ≡ true → (p : ℕ) × (p < n) × (t p ≡ true)
unfolding any
any_yes zero t e = absurd (false≢true e)
any_yes (suc n) t e =
    case (t n) (λ h. (n, lt-suc_self n, h)) (λ h. let r = any_yes n t (rw h at e) in (r.0, le_step r.1, r.2))

pub yes_any : (n : ℕ) (t : ℕ → Bool) (p : ℕ) → p < n → t p ≡ true → any n t ≡ true
unfolding any
yes_any zero t p h y = absurd (not-suc-le-zero h)
yes_any (suc n) t p h y =
    case (t n) (λ z. rw z) (λ z. rw z (⊎_elim (λ k. yes_any n t p k y) (λ k. clash (subst (λ (x : ℕ). t x ≡ true) k y) z) (last h)))
  where
    last : p < suc n → (p < n) ⊎ (p ≡ n)
    last k = elim (ℕ_discrete p n) [ yes e ↦ inr e | no d ↦ inl (omega arith) ]

pub any_no : (n : ℕ) (t : ℕ → Bool) → any n t ≡ false → (p : ℕ) → p < n → t p ≡ false
any_no n t e p h = case (t p) (λ y. clash (yes_any n t p h y) e) (λ z. z)

pub any_same : (n : ℕ) (t u : ℕ → Bool) → ((p : ℕ) → p < n → t p ≡ u p) → any n t ≡ any n u
unfolding any
any_same zero t u f = refl
any_same (suc n) t u f = rw (f n (lt-suc_self n), any_same n t u (λ p h. f p (le_step h)))

-- ---- count

bit_le : {a b : Bool} → (a ≡ true → b ≡ true) → cond a 1 0 ≤ cond b 1 0
bit_le {a = true} {b} f = rw (f refl) (le_refl 1)
bit_le {a = false} {b} f = zero-le

pub count_none : (n : ℕ) → count n (λ p. false) ≡ 0
unfolding count
count_none zero = refl
count_none (suc n) = omega (arith, count_none n)

pub count_le : (n : ℕ) (t : ℕ → Bool) → count n t ≤ n
unfolding count
count_le zero t = zero-le
count_le (suc n) t = let h = count_le n t in case (t n) (λ y. rw y (omega arith)) (λ z. rw z (omega arith))

pub count_mono : (n : ℕ) (t u : ℕ → Bool) → ((p : ℕ) → p < n → t p ≡ true → u p ≡ true) → count n t ≤ count n u
unfolding count
count_mono zero t u f = zero-le
count_mono (suc n) t u f =
    let h = count_mono n t u (λ p k. f p (le_step k)) in
    let b = bit_le {a = t n} {b = u n} (f n (lt-suc_self n)) in
    omega arith

pub count_less : (n : ℕ) (t u : ℕ → Bool) → ((p : ℕ) → p < n → t p ≡ true → u p ≡ true) → (q : ℕ) → q < n → t q ≡ false → u q ≡ true → count n t < count n u
unfolding count
count_less zero t u f q k z y = absurd (not-suc-le-zero k)
count_less (suc n) t u f q k z y =
    elim (ℕ_discrete q n) [
      | yes e ↦ (let h = count_mono n t u (λ p l. f p (le_step l)) in
          let z' : t n ≡ false = rw e at z in
          let y' : u n ≡ true = rw e at y in
          rw (z', y') (omega arith))
      | no d ↦ (let l : q < n = omega arith in
          let h = count_less n t u (λ p j. f p (le_step j)) q l z y in
          let b = bit_le {a = t n} {b = u n} (f n (lt-suc_self n)) in
          omega arith)
    ]

pub count_same : (n : ℕ) (t u : ℕ → Bool) → ((p : ℕ) → p < n → t p ≡ true → u p ≡ true) → ((p : ℕ) → p < n → u p ≡ true → t p ≡ true) → count n t ≡ count n u
count_same n t u f g = let a = count_mono n t u f in let b = count_mono n u t g in omega arith

pub count_some : (n : ℕ) (t : ℕ → Bool) (q : ℕ) → q < n → t q ≡ true → 0 < count n t
count_some n t q h y =
    let k = count_less n (λ p. false) t (λ p l e. absurd (false≢true e)) q h refl y in
    omega arith

pub count_yes : (n : ℕ) (t : ℕ → Bool) → 0 < count n t → (p : ℕ) × (p < n) × (t p ≡ true)
unfolding count
count_yes zero t h = absurd (not-suc-le-zero h)
count_yes (suc n) t h =
    case (t n) (λ y. (n, lt-suc_self n, y))
    (λ z. let k : 0 + count n t ≡ count n t = zero-add (count n t) in
    let w = count_yes n t (rw (z, k) at h) in (w.0, le_step w.1, w.2))

-- one more place that passes
pub count_insert : (n : ℕ) (t u : ℕ → Bool) (q : ℕ) → q < n → ((p : ℕ) → p < n → ¬ (p ≡ q) → u p ≡ t p) → t q ≡ false → u q ≡ true → count n u ≡ suc (count n t)
unfolding count
count_insert zero t u q h f z y = absurd (not-suc-le-zero h)
count_insert (suc n) t u q h f z y =
    elim (ℕ_discrete q n) [
      | yes e ↦ (let g : (p : ℕ) → p < n → ¬ (p ≡ q) = (λ p k d. let x : n ≡ p = sym e ∙ sym d in absurd (omega arith)) in
          let a = count_same n u t (λ p k w. sym (f p (le_step k) (g p k)) ∙ w) (λ p k w. f p (le_step k) (g p k) ∙ w) in
          let z' : t n ≡ false = rw e at z in
          let y' : u n ≡ true = rw e at y in
          rw (z', y') (omega arith))
      | no d ↦ (let i = count_insert n t u q (omega arith) (λ p k w. f p (le_step k) w) z y in
          let c : u n ≡ t n = f n (lt-suc_self n) (λ x. d (sym x)) in
          rw c (omega arith))
    ]

-- ---- least

pub least_start : (n : ℕ) (t : ℕ → Bool) (v : ℕ → ℕ) (b : ℕ) → least n t v b ≤ b
unfolding least
least_start zero t v b = le_refl b
least_start (suc n) t v b = le_trans (min-le_right _ _) (least_start n t v b)

pub least-below : (n : ℕ) (t : ℕ → Bool) (v : ℕ → ℕ) (b q : ℕ) → q < n → t q ≡ true → least n t v b ≤ v q
unfolding least
least-below zero t v b q h y = absurd (not-suc-le-zero h)
least-below (suc n) t v b q h y = elim (ℕ_discrete q n) [ yes e ↦ at_end e | no d ↦ le_trans (min-le_right _ _) (least-below n t v b q (omega arith) y) ]
  where
    at_end : q ≡ n → least (suc n) t v b ≤ v q
    at_end e = let y' : t n ≡ true = rw e at y in rw (e, y') (min-le_left _ _)

pub min-is : (a b : ℕ) → (min a b ≡ a) ⊎ (min a b ≡ b)
min-is a b = case (leb a b) (λ y. inl (min-eq_left (leb_yes y))) (λ z. inr (min-eq_right (le_of_lt (no_leb z))))

pub least-is : (n : ℕ) (t : ℕ → Bool) (v : ℕ → ℕ) (b : ℕ) → (least n t v b ≡ b) ⊎ ((q : ℕ) × (q < n) × (t q ≡ true) × (least n t v b ≡ v q))
unfolding least
least-is zero t v b = inl refl
least-is (suc n) t v b =
    ⊎_elim (λ e. case (t n) (λ y. inr (n, lt-suc_self n, y, e ∙ ap (λ (x : Bool). cond x (v n) b) y)) (λ z. inl (e ∙ ap (λ (x : Bool). cond x (v n) b) z)))
    (λ e. ⊎_elim (λ l. inl (e ∙ l)) (λ l. inr (l.0, le_step l.1, l.2, e ∙ l.3)) (least-is n t v b))
    (min-is (cond (t n) (v n) b) (least n t v b))

-- ---- greatest

pub greatest_above : (n : ℕ) (t : ℕ → Bool) (v : ℕ → ℕ) (q : ℕ) → q < n → t q ≡ true → v q ≤ greatest n t v
unfolding greatest
greatest_above zero t v q h y = absurd (not-suc-le-zero h)
greatest_above (suc n) t v q h y =
    elim (ℕ_discrete q n) [
      | yes e ↦ (let y' : t n ≡ true = rw e at y in rw (e, y') (le-max_left _ _))
      | no d ↦ le_trans (greatest_above n t v q (omega arith) y) (le-max_right _ _)
    ]

pub max-is : (a b : ℕ) → (max a b ≡ a) ⊎ (max a b ≡ b)
max-is a b = case (leb a b) (λ y. inr (max-eq_right (leb_yes y))) (λ z. inl (max-eq_left (le_of_lt (no_leb z))))

pub greatest-is : (n : ℕ) (t : ℕ → Bool) (v : ℕ → ℕ) → (greatest n t v ≡ 0) ⊎ ((q : ℕ) × (q < n) × (t q ≡ true) × (greatest n t v ≡ v q))
unfolding greatest
greatest-is zero t v = inl refl
greatest-is (suc n) t v =
    ⊎_elim (λ e. case (t n) (λ y. inr (n, lt-suc_self n, y, e ∙ ap (λ (x : Bool). cond x (v n) 0) y)) (λ z. inl (e ∙ ap (λ (x : Bool). cond x (v n) 0) z)))
    (λ e. ⊎_elim (λ l. inl (e ∙ l)) (λ l. inr (l.0, le_step l.1, l.2, e ∙ l.3)) (greatest-is n t v))
    (max-is (cond (t n) (v n) 0) (greatest n t v))

-- the greatest is reached, where anything is tested
pub greatest-at : (n : ℕ) (t : ℕ → Bool) (v : ℕ → ℕ) (p : ℕ) → p < n → t p ≡ true → (q : ℕ) × (q < n) × (t q ≡ true) × (v q ≡ greatest n t v)
greatest-at n t v p h y =
    ⊎_elim (λ e. let l = greatest_above n t v p h y in (p, h, y, omega arith)) (λ w. (w.0, w.1, w.2, sym w.3)) (greatest-is n t v)
