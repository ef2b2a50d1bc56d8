-- Labels number the regions 1 to n in the order of their first cells. Assumes nothing.
use Prim.Native.Nat.{ℕ, zero, suc, ◌+◌, ◌≤◌, ◌<◌, zero-le}
use mathlib.Core.Path.{◌≡◌, sym, ap, ◌∙◌}
use mathlib.Core.Logic.{◌↔◌}
use mathlib.Core.Bool.{Bool, true, false}
use mathlib.Core.List.{List}
use native.Mathlib.Nat.{le_refl, le_trans, le_step, not-suc-le-zero, lt-suc_self}
use native.Mathlib.Decide.{ℕ_discrete}
use native.Mathlib.Omega.{arith}
use lib.IntN.{ℤ}
use lib.Dec.{leb, eqb}
use lib.ListN.{length}
use Rattle.base.specs.Places.{count}
use Rattle.rules.specs.Regions.{opaque, Joined, held, roots, root, inside, first, label, Symmetric}
use Rattle.base.proofs.Counting.{case, leb_yes, no_leb, left, right, eqb_yes, count_some}
use Rattle.rules.proofs.Roots.{root_below, join_root, root_join, first-root}

count_prefix : (a b : ℕ) (t : ℕ → Bool) → a ≤ b → count a t ≤ count b t
unfolding count
count_prefix a zero t h = let e : a ≡ 0 = omega arith in rw e zero-le
count_prefix a (suc b) t h = elim (ℕ_discrete a (suc b)) [ yes e ↦ rw e (le_refl _) | no d ↦ (let i = count_prefix a b t (omega arith) in omega arith) ]

count-further : (a q b : ℕ) (t : ℕ → Bool) → a ≤ q → q < b → t q ≡ true → count a t < count b t
unfolding count
count-further a q b t h l y =
    let i = count_prefix a q t h in
    let j = count_prefix (suc q) b t l in
    let e : count (suc q) t ≡ 1 + count q t = rw y in
    omega arith

-- each number from 1 to the count is the number of passed places up to some passed place
count_hit : (n : ℕ) (t : ℕ → Bool) (l : ℕ) → 0 < l → l ≤ count n t → (p : ℕ) × (p < n) × (t p ≡ true) × (count (suc p) t ≡ l)
unfolding count
count_hit zero t l h k = absurd (not-suc-le-zero (le_trans h k))
count_hit (suc n) t l h k =
    case (leb l (count n t))
    (λ y. let w = count_hit n t l h (leb_yes y) in (w.0, le_step w.1, w.2, w.3))
    (λ z. let m = no_leb {m = l} {n = count n t} z in
    case (t n) (λ y. let k' : l ≤ 1 + count n t = rw y at k in (n, lt-suc_self n, y, rw y (omega arith))) (λ u. let k' : l ≤ 0 + count n t = rw u at k in absurd (omega arith)))

module _ (n : ℕ) (adj : ℕ → ℕ → Bool) (cells : List ℤ) (len : length cells ≡ n) (symm : Symmetric adj) where
  abbrev lab : ℕ → ℕ
  lab p = label cells (roots n adj cells) p

  abbrev firsts : ℕ → Bool
  firsts = first cells (roots n adj cells)

  lab-is : (p : ℕ) → opaque cells p ≡ true → lab p ≡ count (suc (root n adj cells p)) firsts
  unfolding label root
  lab-is p o = rw o

  -- 0 marks transparent cells
  pub label_clear : (p : ℕ) → opaque cells p ≡ false → lab p ≡ 0
  unfolding label
  label_clear p z = rw z

  pub label_positive : (p : ℕ) → opaque cells p ≡ true → 0 < lab p
  label_positive p o = rw (lab-is p o) (count_some (suc (root n adj cells p)) firsts (root n adj cells p) (lt-suc_self _) (first-root n adj cells len symm p o))

  pub label_le : (p : ℕ) → opaque cells p ≡ true → lab p ≤ count n firsts
  label_le p o = rw (lab-is p o) (count_prefix (suc (root n adj cells p)) n firsts (root_below n adj cells len p o))

  -- a region whose first cell comes earlier has a lower label
  pub label_order : (p q : ℕ) → opaque cells p ≡ true → opaque cells q ≡ true → root n adj cells p < root n adj cells q → lab p < lab q
  label_order p q o u h =
      rw (lab-is p o, lab-is q u)
      (count-further (suc (root n adj cells p)) (root n adj cells q) (suc (root n adj cells q)) firsts h (lt-suc_self _) (first-root n adj cells len symm q u))

  -- cells have one label exactly when they are in one region
  pub label-joined : (p q : ℕ) → opaque cells p ≡ true → opaque cells q ≡ true → (lab p ≡ lab q) ↔ Joined adj cells p q
  label-joined p q o u = (
    (λ e. root_join n adj cells len symm p q o u (same e)),
    (λ j. lab-is p o ∙ ap (λ (m : ℕ). count (suc m) firsts) (join_root n adj cells len symm j) ∙ sym (lab-is q u)),
  )
    where
      same : lab p ≡ lab q → root n adj cells p ≡ root n adj cells q
      same e =
          let a : ℕ = root n adj cells p in
          let b : ℕ = root n adj cells q in
          elim (ℕ_discrete a b) [
            | yes d ↦ d
            | no d ↦ case (leb a b)
                (λ y. let l : a ≤ b = leb_yes y in let c = label_order p q o u (omega arith) in absurd (omega arith))
                (λ z. let l : b < a = no_leb {m = a} {n = b} z in let c = label_order q p u o l in absurd (omega arith))
          ]

  own : (p : ℕ) → held (roots n adj cells) p ≡ p → count (suc (root n adj cells p)) firsts ≡ count (suc p) firsts
  unfolding root
  own p e = ap (λ (m : ℕ). count (suc m) firsts) e

  -- and no number up to the number of regions is left out
  pub label_hit : (l : ℕ) → 0 < l → l ≤ count n firsts → (p : ℕ) × (opaque cells p ≡ true) × (lab p ≡ l)
  unfolding first inside
  label_hit l h k =
      let w = count_hit n firsts l h k in
      let p = w.0 in
      let o = left (opaque cells p) (eqb (held (roots n adj cells) p) p) w.2 in
      let e : held (roots n adj cells) p ≡ p = eqb_yes (right (opaque cells p) (eqb (held (roots n adj cells) p) p) w.2) in
      (p, o, lab-is p o ∙ own p e ∙ w.3)
