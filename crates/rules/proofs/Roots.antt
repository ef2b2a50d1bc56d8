-- `roots` is right: two opaque places have one root exactly when they are joined, and the root is the first place of the region.
-- For any neighbourhood that works both ways round. Assumes nothing.
use Prim.Native.Nat.{ℕ, zero, suc, ◌≤◌, ◌<◌}
use mathlib.Core.Path.{◌≡◌, refl, sym, ap, ◌∙◌}
use mathlib.Core.Logic.{◌⊎◌, inl, inr, ⊎_elim, ◌↔◌}
use mathlib.Core.Bool.{Bool, true, false, not, ◌&&◌, false≢true}
use mathlib.Core.List.{List}
use native.Mathlib.Nat.{le_refl, le_trans, le_antisymm}
use native.Mathlib.Omega.{arith}
use lib.IntN.{ℤ, pos, negsuc}
use lib.Signed.{non_neg}
use lib.Dec.{leb, eqb}
use lib.ListN.{length, get_or-eq_default}
use Rattle.base.specs.Places.{table, any, count, least, times}
use Rattle.rules.specs.Regions.{at, opaque, alike, link, Joined, here, step, held, spread, roots, root, inside, first, Symmetric}
use Rattle.base.proofs.Counting.{case, clash, both, left, right, not_true, not_false, eqb_yes, yes_eqb, leb_yes, yes_leb, no_leb, table_at, any_yes, any_no, count_le, count_less, count_some, least_start, least-below, least-is}

-- ---- cells that are alike

alike_same : (a b : ℤ) → alike a b ≡ true → a ≡ b
unfolding alike
alike_same (pos i) (pos j) e = ap pos (eqb_yes e)
alike_same (pos i) (negsuc j) e = absurd (false≢true e)
alike_same (negsuc i) b e = absurd (false≢true e)

alike-opaque : (a b : ℤ) → alike a b ≡ true → non_neg a ≡ true
unfolding alike
alike-opaque (pos i) b e = refl
alike-opaque (negsuc i) b e = e

opaque-alike : (a b : ℤ) → non_neg a ≡ true → a ≡ b → alike a b ≡ true
unfolding alike
opaque-alike (pos i) b h e = rw (← e) (yes_eqb {m = i} refl)
opaque-alike (negsuc i) b h e = absurd (false≢true h)

-- ---- joined places, on one sheet

module _ (adj : ℕ → ℕ → Bool) (cells : List ℤ) where
  pub link-adj : (p q : ℕ) → link adj cells p q ≡ true → adj p q ≡ true
  unfolding link
  link-adj p q e = left _ _ e

  pub link-same : (p q : ℕ) → link adj cells p q ≡ true → at cells p ≡ at cells q
  unfolding link
  link-same p q e = alike_same _ _ (right (adj p q) (alike (at cells p) (at cells q)) e)

  pub link_left : (p q : ℕ) → link adj cells p q ≡ true → opaque cells p ≡ true
  unfolding link opaque
  link_left p q e = alike-opaque (at cells p) (at cells q) (right (adj p q) (alike (at cells p) (at cells q)) e)

  pub to-link : (p q : ℕ) → adj p q ≡ true → opaque cells p ≡ true → at cells p ≡ at cells q → link adj cells p q ≡ true
  unfolding link opaque
  to-link p q a o e = both a (opaque-alike (at cells p) (at cells q) o e)

  pub same-opaque : (p q : ℕ) → at cells p ≡ at cells q → opaque cells p ≡ true → opaque cells q ≡ true
  unfolding opaque
  same-opaque p q e o = rw (← e) o

  pub link-right : (p q : ℕ) → link adj cells p q ≡ true → opaque cells q ≡ true
  link-right p q e = same-opaque p q (link-same p q e) (link_left p q e)

  pub join_left : {p q : ℕ} → Joined adj cells p q → opaque cells p ≡ true
  join_left (here o) = o
  join_left (step {p} {q} l j) = link_left p q l

  pub join_right : {p q : ℕ} → Joined adj cells p q → opaque cells q ≡ true
  join_right (here o) = o
  join_right (step l j) = join_right j

  pub join_same : {p q : ℕ} → Joined adj cells p q → at cells p ≡ at cells q
  join_same (here o) = refl
  join_same (step {p} {q} l j) = link-same p q l ∙ join_same j

  pub join_trans : {p q r : ℕ} → Joined adj cells p q → Joined adj cells q r → Joined adj cells p r
  join_trans (here o) k = k
  join_trans (step l j) k = step l (join_trans j k)

  module _ (symm : Symmetric adj) where
    pub link_sym : (p q : ℕ) → link adj cells p q ≡ true → link adj cells q p ≡ true
    unfolding Symmetric
    link_sym p q e = to-link q p (symm p q (link-adj p q e)) (link-right p q e) (sym (link-same p q e))

    pub join_sym : {p q : ℕ} → Joined adj cells p q → Joined adj cells q p
    join_sym (here o) = here o
    join_sym (step {p} {q} l j) = join_trans (join_sym j) (step (link_sym p q l) (here (link_left p q l)))

-- ---- the numbers that spread

module _ (n : ℕ) (adj : ℕ → ℕ → Bool) (cells : List ℤ) (len : length cells ≡ n) where
  pub opaque-below : (p : ℕ) → opaque cells p ≡ true → p < n
  unfolding opaque at
  opaque-below p o =
      case (leb (suc p) n) leb_yes
      (λ z. let h : length cells ≤ p = (let k = no_leb {m = suc p} {n = n} z in omega arith) in
      absurd (false≢true (sym (ap non_neg (get_or-eq_default cells (negsuc 0) h)) ∙ o)))

  abbrev start : List ℕ
  start = table n (λ p. p)

  -- what stands at a place after k steps
  after : ℕ → ℕ → ℕ
  after k p = held (times k (spread n adj cells) start) p

  after_zero : (p : ℕ) → p < n → after zero p ≡ p
  unfolding after times held
  after_zero p h = table_at n (λ p. p) p p h

  after_suc : (k p : ℕ) → p < n → after (suc k) p ≡ least n (link adj cells p) (after k) (after k p)
  unfolding after times spread held
  after_suc k p h = table_at n _ p p h

  down : (k p : ℕ) → p < n → after (suc k) p ≤ after k p
  down k p h = rw (after_suc k p h) (least_start n (link adj cells p) (after k) (after k p))

  reach : (k p q : ℕ) → link adj cells p q ≡ true → after (suc k) p ≤ after k q
  reach k p q e =
      rw (after_suc k p (opaque-below p (link_left adj cells p q e)))
      (least-below n (link adj cells p) (after k) (after k p) q (opaque-below q (link-right adj cells p q e)) e)

  joined-after : (k p : ℕ) → opaque cells p ≡ true → Joined adj cells p (after k p)
  joined-after zero p o = rw (after_zero p (opaque-below p o)) (here o)
  joined-after (suc k) p o =
      rw (after_suc k p (opaque-below p o))
      (⊎_elim (λ e. rw e (joined-after k p o)) (λ w. rw w.3 (step w.2 (joined-after k w.0 (link-right adj cells p w.0 w.2))))
      (least-is n (link adj cells p) (after k) (after k p)))

  after-below : (k p : ℕ) → opaque cells p ≡ true → after k p < n
  after-below k p o = opaque-below (after k p) (join_right adj cells (joined-after k p o))

  -- The places that hold at most m after k steps. Either one more step adds none, and then no later one does, or there are more than k of them.
  low : ℕ → ℕ → ℕ → Bool
  low m k p = leb (after k p) m

  Settled : ℕ → ℕ → Type 0
  Settled m k = (p : ℕ) → p < n → after (suc k) p ≤ m → after k p ≤ m

  settled_suc : (m k : ℕ) → Settled m k → Settled m (suc k)
  unfolding Settled
  settled_suc m k f p h l =
      ⊎_elim (λ e. rw e at l')
      (λ w. le_trans (reach k p w.0 w.2) (f w.0 w.1 (rw w.3 at l')))
      (least-is n (link adj cells p) (after (suc k)) (after (suc k) p))
    where
      l' : least n (link adj cells p) (after (suc k)) (after (suc k) p) ≤ m
      l' = rw (after_suc (suc k) p h) at l

  grows : (m k : ℕ) → m < n → Settled m k ⊎ (k < count n (low m k))
  unfolding low Settled
  grows m zero h = inr (count_some n (low m zero) m h (yes_leb {m = after zero m} {n = m} (rw (after_zero m h) (le_refl m))))
  grows m (suc k) h = ⊎_elim (λ f. inl (settled_suc m k f)) more (grows m k h)
    where
      new : ℕ → Bool
      new p = low m (suc k) p && not (low m k p)

      more : k < count n (low m k) → Settled m (suc k) ⊎ (suc k < count n (low m (suc k)))
      more c =
          case (any n new)
          (λ y. let w = any_yes n new y in
          let d = count_less n (low m k) (low m (suc k)) (λ p j e. yes_leb (le_trans (down k p j) (leb_yes e))) w.0 w.1
          (not_true (right (low m (suc k) w.0) (not (low m k w.0)) w.2)) (left (low m (suc k) w.0) (not (low m k w.0)) w.2) in
          inr (omega arith))
          (λ z. inl (settled_suc m k (λ p j e. case (low m k p) leb_yes (λ u. clash (both (yes_leb e) (not_false u)) (any_no n new z p j)))))

  settled : (m : ℕ) → m < n → Settled m n
  settled m h = ⊎_elim (λ f. f) (λ c. let d = count_le n (low m n) in absurd (omega arith)) (grows m n h)

  at_most : (p q : ℕ) → link adj cells p q ≡ true → after n p ≤ after n q
  unfolding Settled
  at_most p q e =
      settled (after n q) (after-below n q (link-right adj cells p q e)) p (opaque-below p (link_left adj cells p q e)) (reach n p q e)

  -- ---- the theorem

  root-after : (p : ℕ) → root n adj cells p ≡ after n p
  unfolding root after roots
  root-after p = refl

  pub joined-root : (p : ℕ) → opaque cells p ≡ true → Joined adj cells p (root n adj cells p)
  joined-root p o = rw (root-after p) (joined-after n p o)

  pub root_below : (p : ℕ) → opaque cells p ≡ true → root n adj cells p < n
  root_below p o = rw (root-after p) (after-below n p o)

  after_le : (k p : ℕ) → p < n → after k p ≤ p
  after_le zero p h = rw (after_zero p h) (le_refl p)
  after_le (suc k) p h = le_trans (down k p h) (after_le k p h)

  pub root_le : (p : ℕ) → p < n → root n adj cells p ≤ p
  root_le p h = rw (root-after p) (after_le n p h)

  after_clear : (k p : ℕ) → p < n → opaque cells p ≡ false → after k p ≡ p
  after_clear zero p h z = after_zero p h
  after_clear (suc k) p h z =
      after_suc k p h
      ∙ ⊎_elim (λ e. e ∙ after_clear k p h z) (λ w. clash (link_left adj cells p w.0 w.2) z)
      (least-is n (link adj cells p) (after k) (after k p))

  -- a transparent place is its own root
  pub clear_root : (p : ℕ) → p < n → opaque cells p ≡ false → root n adj cells p ≡ p
  clear_root p h z = root-after p ∙ after_clear n p h z

  module _ (symm : Symmetric adj) where
    link-root : (p q : ℕ) → link adj cells p q ≡ true → root n adj cells p ≡ root n adj cells q
    link-root p q e =
        rw (root-after p, root-after q) (le_antisymm (at_most p q e) (at_most q p (link_sym adj cells symm p q e)))

    pub join_root : {p q : ℕ} → Joined adj cells p q → root n adj cells p ≡ root n adj cells q
    join_root (here o) = refl
    join_root (step {p} {q} l j) = link-root p q l ∙ join_root j

    pub root_join : (p q : ℕ) → opaque cells p ≡ true → opaque cells q ≡ true → root n adj cells p ≡ root n adj cells q → Joined adj cells p q
    root_join p q o u e =
        join_trans adj cells (joined-root p o) (rw e (join_sym adj cells symm (joined-root q u)))

    -- two opaque places have one root exactly when they are joined
    pub roots-right : (p q : ℕ) → opaque cells p ≡ true → opaque cells q ≡ true → (root n adj cells p ≡ root n adj cells q) ↔ Joined adj cells p q
    roots-right p q o u = (root_join p q o u, join_root)

    -- and the root is the first place of the region
    pub root-first : {p q : ℕ} → Joined adj cells p q → root n adj cells p ≤ q
    root-first {p} {q} j = rw (join_root j) (root_le q (opaque-below q (join_right adj cells j)))

    pub root-root : (p : ℕ) → opaque cells p ≡ true → root n adj cells (root n adj cells p) ≡ root n adj cells p
    root-root p o = sym (join_root (joined-root p o))

    -- the cells of a region, by its root
    pub inside_join : (p q : ℕ) → opaque cells p ≡ true → inside cells (roots n adj cells) (root n adj cells p) q ≡ true → Joined adj cells p q
    unfolding inside root
    inside_join p q o e =
        root_join p q o (left (opaque cells q) (eqb (root n adj cells q) (root n adj cells p)) e) (sym (eqb_yes (right (opaque cells q) (eqb (root n adj cells q) (root n adj cells p)) e)))

    pub join_inside : {p q : ℕ} → Joined adj cells p q → inside cells (roots n adj cells) (root n adj cells p) q ≡ true
    unfolding inside root
    join_inside {p} {q} j = both (join_right adj cells j) (yes_eqb (sym (join_root j)))

    -- a root is a first cell
    pub first-root : (p : ℕ) → opaque cells p ≡ true → first cells (roots n adj cells) (root n adj cells p) ≡ true
    unfolding first inside root
    first-root p o = both (join_right adj cells (joined-root p o)) (yes_eqb (root-root p o))

    -- the least place of a region is its root
    pub root_unique : (p r : ℕ) → Joined adj cells p r → ((q : ℕ) → Joined adj cells p q → r ≤ q) → r ≡ root n adj cells p
    root_unique p r j f = le_antisymm (f (root n adj cells p) (joined-root p (join_left adj cells j))) (root-first j)

-- ---- two sheets

-- a region whose cells all come to hold one opaque cell stays together
pub lift_join : (adj : ℕ → ℕ → Bool) (cells cells' : List ℤ) (z : ℤ) → non_neg z ≡ true → {p q : ℕ} → ((x : ℕ) → Joined adj cells p x → at cells' x ≡ z) → Joined adj cells p q → Joined adj cells' p q
unfolding opaque
lift_join adj cells cells' z o {p = p} {q} f (here u) = here {p = p} (rw (f p (here u)) o)
lift_join adj cells cells' z o {p = p} {q} f (step {q = y} l j) =
    step (to-link adj cells' p y (link-adj adj cells p y l) (rw (f p (here (link_left adj cells p y l))) o)
    (f p (here (link_left adj cells p y l)) ∙ sym (f y (step l (here (link-right adj cells p y l))))))
    (lift_join adj cells cells' z o (λ x k. f x (step l k)) j)
