-- What the planes of regions tell: the places of a region, its size and its root. Assumes nothing.
use Prim.Native.Nat.{ℕ, zero, suc, ◌+◌, ◌-◌, ◌≤◌, ◌<◌, zero-le}
use mathlib.Core.Path.{◌≡◌, refl, sym, ap, ◌∙◌, subst}
use mathlib.Core.Bool.{Bool, true, not, ◌&&◌}
use mathlib.Core.List.{List}
use native.Mathlib.Nat.{lt-suc_self, le_step}
use native.Mathlib.Omega.{arith}
use borrow.Author.Tests.{ne_eqb}
use lib.Dec.{eqb, leb, ltb}
use lib.IntN.{ℤ}
use lib.ListN.{length}
use Rattle.base.specs.Places.{any, count}
use Rattle.base.proofs.Counting.{case, clash, or_left, not_true, not_false, same_test, eqb_yes, yes_eqb, leb_yes, yes_leb, no_leb, any_yes, yes_any, count_le, count_same, count_insert, count_none}
use Rattle.rules.specs.Regions.{opaque, Joined, roots, root, inside, first, label, Symmetric}
use Rattle.rules.specs.Masks as masks
use Rattle.rules.specs.Pass.{size}
use Rattle.rules.proofs.Roots.{opaque-below, join_left, join_right, join_root, join_inside, inside_join}
use Rattle.rules.proofs.Labels.{label_clear, label_positive, label_le, label-joined, label_hit}
use Rattle.grid.specs.Planes.{plane, group_at, end_of, Labelled}
use Rattle.orphans.specs.Starting.{size_of, in_large}

-- a list of different places counts as many
count_listed : (n m : ℕ) (f : ℕ → ℕ) → ((i : ℕ) → i < m → f i < n) → ((i j : ℕ) → i < j → j < m → f i ≡ f j → ⊥) → count n (λ p. any m (λ i. eqb (f i) p)) ≡ m
unfolding any
count_listed n zero f b d = count_none n
count_listed n (suc m) f b d =
    count_insert n (λ p. any m (λ i. eqb (f i) p)) (λ p. any (suc m) (λ i. eqb (f i) p)) (f m) (b m (lt-suc_self m))
    (λ p h z. rw (ne_eqb (f m) p (λ y. z (sym y))))
    (case (any m (λ i. eqb (f i) (f m)))
    (λ y. let w = any_yes m (λ i. eqb (f i) (f m)) y in absurd (d w.0 m w.1 (lt-suc_self m) (eqb_yes w.2)))
    (λ z. z))
    (or_left (any m (λ i. eqb (f i) (f m))) (yes_eqb {m = f m} refl))
    ∙ ap suc (count_listed n m f (λ i l. b i (le_step l)) (λ i j l h. d i j l (le_step h)))

not_few : (a b : ℕ) → not (ltb a b) ≡ leb b a
not_few a b =
    same_test (λ y. let l : b ≤ a = (let z = no_leb {m = suc a} {n = b} (not_true y) in omega arith) in yes_leb l)
    (λ y. not_false (case (ltb a b) (λ z. let l = leb_yes {m = suc a} {n = b} z in let k = leb_yes {m = b} {n = a} y in absurd (omega arith)) (λ z. z)))

module _ (n : ℕ) (adj : ℕ → ℕ → Bool) (cells : List ℤ) (work : List ℕ) (regions taken : ℕ) (len : length cells ≡ n) (symm : Symmetric adj) (lab : Labelled adj cells n work regions taken) where
  abbrev R : List ℕ
  R = roots n adj cells

  label_is : (p : ℕ) → p < n → plane n 1 work p ≡ label cells R p
  unfolding masks.label_at
  label_is p h = lab.labels p h

  pub regions_are : regions ≡ count n (first cells R)
  unfolding masks.regions
  regions_are = lab.count

  pub regions_le : regions ≤ n
  regions_le = rw regions_are (count_le n _)

  -- a place has a label exactly if it is opaque
  pub labelled : (p : ℕ) → opaque cells p ≡ true → 1 ≤ plane n 1 work p
  labelled p o = rw (label_is p (opaque-below n adj cells len p o)) (label_positive n adj cells len symm p o)

  pub shown : (p : ℕ) → p < n → (plane n 1 work p ≡ 0 → ⊥) → opaque cells p ≡ true
  shown p h z = case (opaque cells p) (λ y. y) (λ y. absurd (z (label_is p h ∙ label_clear n adj cells len symm p y)))

  pub label_in : (p : ℕ) → p < n → plane n 1 work p ≤ regions
  label_in p h =
      case (opaque cells p)
      (λ y. rw (label_is p h, regions_are) (label_le n adj cells len symm p y))
      (λ y. rw (label_is p h, label_clear n adj cells len symm p y) zero-le)

  -- one label, one region
  together : (p q : ℕ) → opaque cells p ≡ true → opaque cells q ≡ true → plane n 1 work p ≡ plane n 1 work q → Joined adj cells p q
  together p q o u e =
      (label-joined n adj cells len symm p q o u).0
      (sym (label_is p (opaque-below n adj cells len p o)) ∙ e ∙ label_is q (opaque-below n adj cells len q u))

  joined-label : {p q : ℕ} → Joined adj cells p q → plane n 1 work p ≡ plane n 1 work q
  joined-label {p} {q} j =
      let o = join_left adj cells j in
      let u = join_right adj cells j in
      label_is p (opaque-below n adj cells len p o) ∙ (label-joined n adj cells len symm p q o u).1 j ∙ sym (label_is q (opaque-below n adj cells len q u))

  -- ---- the region with the label suc k

  module _ (k : ℕ) (lk : k < regions) where
    abbrev from : ℕ
    from = end_of n work k

    abbrev to : ℕ
    to = end_of n work (suc k)

    in_run : (i : ℕ) → i < taken → group_at n work i ≡ suc k → (from ≤ i) × (i < to)
    in_run i l e = (
      (let z : i < from → ⊥ = (λ y. let g = (lab.ends k (omega arith) i l).1 y in omega arith) in omega arith),
      (lab.ends (suc k) lk i l).0 (omega arith),
    )

    pub run_in : (i : ℕ) → from ≤ i → i < to → (i < taken) × (group_at n work i ≡ suc k)
    run_in i h l =
        let t = lab.limits (suc k) lk in
        let b : i < taken = omega arith in
        let g = (lab.ends (suc k) lk i b).1 l in
        let z : group_at n work i ≤ k → ⊥ = (λ y. let x = (lab.ends k (omega arith) i b).0 y in omega arith) in
        (b, omega arith)

    pub placed_at : (p : ℕ) → p < n → plane n 1 work p ≡ suc k → (i : ℕ) × (from ≤ i) × (i < to) × (plane n 2 work i ≡ p)
    unfolding group_at
    placed_at p h e =
        let w = lab.listed p h (λ z. let x : suc k ≡ 0 = sym e ∙ z in omega arith) in
        let r = in_run w.0 w.1 (ap (plane n 1 work) w.2 ∙ e) in
        (w.0, r.0, r.1, w.2)

    pub not_empty : from < to
    not_empty =
        let w = label_hit n adj cells len symm (suc k) (omega arith) (rw (← regions_are) lk) in
        let h = opaque-below n adj cells len w.0 w.1 in
        let r = placed_at w.0 h (label_is w.0 h ∙ w.2) in
        omega (arith, r.1, r.2)

    -- its first place is its root
    abbrev lead : ℕ
    lead = plane n 2 work from

    lead_run : (from < taken) × (group_at n work from ≡ suc k)
    lead_run = run_in from (omega arith) not_empty

    pub lead-below : lead < n
    lead-below = (lab.placed from lead_run.0).0

    pub lead-label : plane n 1 work lead ≡ suc k
    unfolding group_at
    lead-label = lead_run.1

    pub lead-opaque : opaque cells lead ≡ true
    lead-opaque = shown lead lead-below (λ z. let x : suc k ≡ 0 = sym lead-label ∙ z in omega arith)

    pub lead-root : root n adj cells lead ≡ lead
    lead-root = lab.foremost k lk

    -- its cells are those with its label
    pub member : (p : ℕ) → p < n → plane n 1 work p ≡ suc k → inside cells R lead p ≡ true
    member p h e =
        let o = shown p h (λ z. let x : suc k ≡ 0 = sym e ∙ z in omega arith) in
        subst (λ (m : ℕ). inside cells R m p ≡ true) lead-root
        (join_inside n adj cells len symm (together lead p lead-opaque o (lead-label ∙ sym e)))

    pub of_label : (p : ℕ) → inside cells R lead p ≡ true → (p < n) × (plane n 1 work p ≡ suc k)
    of_label p y =
        let j = inside_join n adj cells len symm lead p lead-opaque (subst (λ (m : ℕ). inside cells R m p ≡ true) (sym lead-root) y) in
        (opaque-below n adj cells len p (join_right adj cells j), sym (joined-label j) ∙ lead-label)

    pub root-lead : (p : ℕ) → p < n → plane n 1 work p ≡ suc k → root n adj cells p ≡ lead
    root-lead p h e =
        let o = shown p h (λ z. let x : suc k ≡ 0 = sym e ∙ z in omega arith) in
        sym (join_root n adj cells len symm (together lead p lead-opaque o (lead-label ∙ sym e))) ∙ lead-root

    -- ---- its places, in order

    abbrev nth : ℕ → ℕ
    nth i = plane n 2 work (from + i)

    pub nth_in : (i : ℕ) → i < to - from → (from + i < taken) × (nth i < n) × (plane n 1 work (nth i) ≡ suc k)
    unfolding group_at
    nth_in i l = let r = run_in (from + i) (omega arith) (omega arith) in (r.0, (lab.placed (from + i) r.0).0, r.1)

    pub at-nth : (p : ℕ) → inside cells R lead p ≡ true → (i : ℕ) × (i < to - from) × (nth i ≡ p)
    at-nth p y =
        let m = of_label p y in
        let w = placed_at p m.0 m.1 in
        (w.0 - from, omega (arith, w.1, w.2), ap (plane n 2 work) (omega (arith, w.1)) ∙ w.3)

    -- and it has as many cells as places
    pub run_size : size n cells R lead ≡ to - from
    unfolding size
    run_size =
        count_same n (inside cells R lead) (λ p. any (to - from) (λ i. eqb (nth i) p))
        (λ p h y. let i = at-nth p y in yes_any (to - from) (λ i. eqb (nth i) p) i.0 i.1 (yes_eqb i.2))
        (λ p h y. let w = any_yes (to - from) (λ i. eqb (nth i) p) y in
        let m = nth_in w.0 w.1 in
        subst (λ (x : ℕ). inside cells R lead x ≡ true) (eqb_yes w.2) (member (nth w.0) m.1 m.2))
        ∙ count_listed n (to - from) nth (λ i l. (nth_in i l).1)
        (λ i j l h. lab.distinct (from + i) (from + j) (omega arith) (nth_in j h).0)

    pub size_is : size_of n work (suc k) ≡ size n cells R lead
    unfolding size_of
    size_is = let e : suc k - 1 ≡ k = omega arith in ap (λ (x : ℕ). to - end_of n work x) e ∙ sym run_size

  -- ---- large regions

  pub in_large-is : (limit q : ℕ) → q < n → in_large n limit work q ≡ (opaque cells q && not (ltb (size n cells R (root n adj cells q)) limit))
  unfolding in_large
  in_large-is limit q h =
      case (eqb (plane n 1 work q) 0)
      (λ y. let o = case (opaque cells q) (λ u. let l = labelled q u in let e : plane n 1 work q ≡ 0 = eqb_yes y in absurd (omega arith)) (λ u. u) in
      rw (y, o))
      (λ z. let k : ℕ = plane n 1 work q - 1 in
      let ne : plane n 1 work q ≡ 0 → ⊥ = (λ e. clash (yes_eqb {m = plane n 1 work q} {n = 0} e) z) in
      let e : plane n 1 work q ≡ suc k = omega arith in
      let lk : k < regions = omega (arith, label_in q h) in
      let s : size_of n work (plane n 1 work q) ≡ size n cells R (root n adj cells q) =
      ap (size_of n work) e ∙ size_is k lk ∙ ap (size n cells R) (sym (root-lead k lk q h e)) in
      rw (z, shown q h ne, s) (sym (not_few (size n cells R (root n adj cells q)) limit)))
