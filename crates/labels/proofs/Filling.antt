-- What one more label does to the invariants of labelling. Assumes nothing.
use Prim.Native.Nat.{ℕ, zero, suc, ◌+◌, ◌*◌, ◌≤◌, ◌<◌}
use mathlib.Core.Path.{◌≡◌, refl, sym, ap, ◌∙◌, subst}
use mathlib.Core.Logic.{◌⊎◌, inl, inr, ⊎_elim, ◌↔◌}
use mathlib.Core.Bool.{Bool, true, false}
use mathlib.Core.List.{List}
use native.Mathlib.Decide.{ℕ_discrete, dec_lt}
use native.Mathlib.Numerals.{add-one}
use native.Mathlib.Omega.{arith}
use borrow.Author.Tests.{ne_eqb}
use lib.Dec.{eqb}
use lib.IntN.{ℤ}
use lib.ListN.{length, set, length-set}
use Rattle.base.specs.Places.{count}
use Rattle.base.proofs.Counting.{case, both, left, right, eqb_yes, yes_eqb, count_insert, count_some}
use Rattle.rules.specs.Regions.{opaque, link, Joined, here, step, held, roots, root, inside, first, label, Symmetric}
use Rattle.rules.specs.Masks.{label_at}
use Rattle.rules.proofs.Roots.{link_left, link-right, join_right, join_sym, opaque-below, joined-root, root_le}
use Rattle.rules.proofs.Labels.{label_clear, label-joined}
use Rattle.grid.specs.declared.Neighbourhood.{Neighbourhood}
use Rattle.grid.specs.Steps.{neighbours}
use Rattle.grid.specs.Planes.{plane, cells_of, group_at, end_of}
use Rattle.grid.proofs.Places.{neighbours_symmetric}
use Rattle.grid.proofs.Planes.{plane-same, plane_else, plane_other, cells-size, cells_kept}
use Rattle.labels.specs.declared.Tally.{Tally}
use Rattle.labels.specs.Filling.{blanks, joined, Right, Ordered, Ended, Filled, Shut, PlanesKept, Since}

-- ---- the planes after one more label

pub record Put (n : ℕ) (work : List ℕ) (q m i : ℕ) (new : List ℕ) : Type 0 where
  pub size : length new ≡ length work
  pub mine : plane n 1 new q ≡ m
  pub theirs : (r : ℕ) → r < n → (r ≡ q → ⊥) → plane n 1 new r ≡ plane n 1 work r
  pub last : plane n 2 new i ≡ q
  pub older : (j : ℕ) → j < n → (j ≡ i → ⊥) → plane n 2 new j ≡ plane n 2 work j
  pub others : (j p : ℕ) → (j ≡ 1 → ⊥) → (j ≡ 2 → ⊥) → p < n → plane n j new p ≡ plane n j work p

pub put_is : (n q m i : ℕ) (work : List ℕ) → q < n → i < n → 3 * n ≤ length work → Put n work q m i (joined n q m i work)
put_is n q m i work lq li long = record {
  size = simp length-set;
  mine = plane_other n 2 i (2 * n + i) first q refl 1 q (λ z. omega arith) li lq ∙ plane-same n 1 q (n + q) work m at (omega arith);
  theirs = λ r lr ne. plane_other n 2 i (2 * n + i) first q refl 1 r (λ z. omega arith) li lr ∙ plane_else n 1 q (n + q) work m at r ne;
  last = plane-same n 2 i (2 * n + i) first q refl (simp length-set (omega arith));
  older = λ j lj ne. plane_else n 2 i (2 * n + i) first q refl j ne ∙ plane_other n 1 q (n + q) work m at 2 j (λ z. omega arith) lq lj;
  others = λ j p a b lp. plane_other n 2 i (2 * n + i) first q refl j p (λ z. b (sym z)) li lp ∙ plane_other n 1 q (n + q) work m at j p (λ z. a (sym z)) lq lp;
}
  where
    first : List ℕ
    first = set work (n + q) m

    at : n + q ≡ 1 * n + q
    at = omega arith

-- a place without a label leaves room in the order
pub room_left : {n : ℕ} {work : List ℕ} {taken : ℕ} → Ordered n work taken → (q : ℕ) → q < n → plane n 1 work q ≡ 0 → taken < n
unfolding blanks
room_left {n = n} {work = work} o q lq free =
    omega (arith, o.free, count_some n (λ p. eqb (plane n 1 work p) 0) q lq (yes_eqb free))

module _ {n : ℕ} {work new : List ℕ} {q m i : ℕ} (u : Put n work q m i new) (lq : q < n) (free : plane n 1 work q ≡ 0) (one : 1 ≤ m) where
  pub look : (r : ℕ) → r < n → ((r ≡ q) × (plane n 1 new r ≡ m)) ⊎ ((r ≡ q → ⊥) × (plane n 1 new r ≡ plane n 1 work r))
  look r lr =
      elim (ℕ_discrete r q) [
        | yes e ↦ inl (e, ap (plane n 1 new) e ∙ u.mine)
        | no ne ↦ inr (ne, u.theirs r lr ne)
      ]

  -- a label stays once it is given
  pub still : (r : ℕ) → r < n → (plane n 1 work r ≡ 0 → ⊥) → plane n 1 new r ≡ plane n 1 work r
  still r lr nz = ⊎_elim (λ a. absurd (nz (ap (plane n 1 work) a.0 ∙ free))) (λ b. b.1) (look r lr)

  pub put_since : Since n work new
  put_since = record {
    kept = record {
      size = u.size;
      others = λ j p s lp. u.others j p (λ z. ⊎_elim (λ a. omega arith) (λ a. omega arith) s) (λ z. ⊎_elim (λ a. omega arith) (λ a. omega arith) s) lp;
    };
    given = still;
  }

  fewer_blanks : blanks n new + 1 ≡ blanks n work
  unfolding blanks
  fewer_blanks =
      let c = count_insert n (λ p. eqb (plane n 1 new p) 0) (λ p. eqb (plane n 1 work p) 0) q lq
      (λ p lp ne. ap (λ (x : ℕ). eqb x 0) (sym (u.theirs p lp ne))) (ne_eqb (plane n 1 new q) 0 (λ z. omega (arith, u.mine))) (yes_eqb free) in
      omega arith

  -- ---- the order
  module _ (o : Ordered n work i) (most : (p : ℕ) → p < n → plane n 1 work p ≤ m) where
    spot : i < n
    spot = room_left o q lq free

    pub at_old : (j : ℕ) → j < i → (plane n 2 new j ≡ plane n 2 work j) × (group_at n new j ≡ group_at n work j)
    unfolding group_at
    at_old j lj =
        let e : plane n 2 new j ≡ plane n 2 work j = u.older j (omega (arith, spot)) (λ z. omega arith) in
        let p = o.placed j lj in
        (e, ap (plane n 1 new) e ∙ still (plane n 2 work j) p.0 (λ z. omega (arith, p.1)))

    pub at_new : group_at n new i ≡ m
    unfolding group_at
    at_new = ap (plane n 1 new) u.last ∙ u.mine

    value : (j : ℕ) → j < i + 1 → ((j < i) × (plane n 2 new j ≡ plane n 2 work j) × (group_at n new j ≡ group_at n work j)) ⊎ ((j ≡ i) × (plane n 2 new j ≡ q) × (group_at n new j ≡ m))
    value j lj =
        elim (dec_lt j i) [
          | yes l ↦ (let a = at_old j l in inl (l, a.0, a.1))
          | no k ↦ (let e : j ≡ i = omega arith in inr (e, ap (plane n 2 new) e ∙ u.last, ap (group_at n new) e ∙ at_new))
        ]

    old_most : (j : ℕ) → j < i → group_at n work j ≤ m
    unfolding group_at
    old_most j lj = most (plane n 2 work j) (o.placed j lj).0

    put_placed : (j : ℕ) → j < i + 1 → (plane n 2 new j < n) × (1 ≤ group_at n new j)
    put_placed j lj =
        ⊎_elim (λ a. let p = o.placed j a.0 in (omega (arith, a.1, p.0), omega (arith, a.2, p.1)))
        (λ b. (omega (arith, b.1), omega (arith, b.2))) (value j lj)

    put_sorted : (j k : ℕ) → j ≤ k → k < i + 1 → group_at n new j ≤ group_at n new k
    put_sorted j k le lk =
        ⊎_elim
        (λ b. let a = at_old j (omega (arith, b.0)) in omega (arith, a.1, b.2, o.sorted j k le b.0))
        (λ b. ⊎_elim (λ a. omega (arith, a.2, b.2, old_most j a.0)) (λ a. omega (arith, a.2, b.2)) (value j (omega arith)))
        (value k lk)

    put_distinct : (j k : ℕ) → j < k → k < i + 1 → plane n 2 new j ≡ plane n 2 new k → ⊥
    unfolding group_at
    put_distinct j k lt lk e =
        let a = at_old j (omega arith) in
        ⊎_elim (λ b. o.distinct j k lt b.0 (sym a.0 ∙ e ∙ b.1))
        (λ b. let z : plane n 2 work j ≡ q = sym a.0 ∙ e ∙ b.1 in omega (arith, (o.placed j (omega arith)).1, ap (plane n 1 work) z))
        (value k lk)

    put_listed : (p : ℕ) → p < n → (plane n 1 new p ≡ 0 → ⊥) → (j : ℕ) × (j < i + 1) × (plane n 2 new j ≡ p)
    put_listed p lp nz =
        ⊎_elim (λ a. (i, omega arith, u.last ∙ sym a.0))
        (λ b. let f = o.listed p lp (λ z. nz (b.1 ∙ z)) in (f.0, omega (arith, f.1), (at_old f.0 f.1).0 ∙ f.2))
        (look p lp)

    pub put_order : Ordered n new (i + 1)
    put_order = record {
      free = omega (arith, o.free, fewer_blanks);
      placed = put_placed;
      sorted = put_sorted;
      distinct = put_distinct;
      listed = put_listed;
    }

    -- ---- the ends, of regions before the one that grows
    module _ {adj : ℕ → ℕ → Bool} {cells : List ℤ} {done regions : ℕ} (d : Ended adj cells n work done regions i) (next : m ≡ done + 1) (few : done ≤ i) where
      end_same : (k : ℕ) → k ≤ done → end_of n new k ≡ end_of n work k
      unfolding end_of
      end_same zero l = refl
      end_same (suc k) l = u.others 3 k (λ z. omega arith) (λ z. omega arith) (omega (arith, spot))

      put_ends : (k : ℕ) → k ≤ done → (j : ℕ) → j < i + 1 → (group_at n new j ≤ k) ↔ (j < end_of n new k)
      put_ends k lk j lj =
          let e = end_same k lk in
          ⊎_elim
          (λ a. let f = d.ends k lk j a.0 in ((λ x. let y = f.0 (omega (arith, a.2)) in omega arith), (λ x. let y = f.1 (omega arith) in omega (arith, a.2))))
          (λ b. let f = d.limits k lk in ((λ x. absurd (omega (arith, b.2))), (λ x. absurd (omega (arith, b.0)))))
          (value j lj)

      pub put_ended : ((k : ℕ) → k < m → (k < regions) ⊎ ((end_of n work k ≡ i) × (root n adj cells q ≡ q))) → Ended adj cells n new done m (i + 1)
      put_ended fore = record {
        limits = λ k l. omega (arith, end_same k l, d.limits k l);
        ends = put_ends;
        begun = λ k l. let e = end_same k (omega arith) in ⊎_elim (λ a. omega (arith, d.begun k a)) (λ b. omega (arith, b.0)) (fore k l);
        foremost = λ k l.
            let e = end_same k (omega arith) in
            ⊎_elim
            (λ a. let f : plane n 2 new (end_of n new k) ≡ plane n 2 work (end_of n work k) = ap (plane n 2 new) e ∙ (at_old (end_of n work k) (d.begun k a)).0 in ap (root n adj cells) f ∙ d.foremost k a ∙ sym f)
            (λ b. let f : plane n 2 new (end_of n new k) ≡ q = ap (plane n 2 new) (e ∙ b.0) ∙ u.last in ap (root n adj cells) f ∙ b.1 ∙ sym f)
            (fore k l);
      }

  -- ---- the labels
  pub put_right : {adj : ℕ → ℕ → Bool} {cells : List ℤ} {k : ℕ} {Open New : ℕ → Type 0} → Right adj cells n work k Open → k ≤ m → label_at n adj cells q ≡ m → ((p : ℕ) → Open p → New p) → New q → Right adj cells n new m New
  put_right {New = New} g up is mono mine = record {
    most = λ p lp. ⊎_elim (λ a. omega (arith, a.1)) (λ b. omega (arith, b.1, g.most p lp)) (look p lp);
    right = λ p lp nz. ⊎_elim (λ a. a.1 ∙ sym is ∙ ap (label_at n _ _) (sym a.0)) (λ b. b.1 ∙ g.right p lp (λ z. nz (b.1 ∙ z))) (look p lp);
    closed = λ p r lp lr nz k.
        ⊎_elim (λ a. inr (subst New (sym a.0) mine))
        (λ b. ⊎_elim (λ f. inl (λ z. f (sym (still r lr f) ∙ z))) (λ o. inr (mono p o)) (g.closed p r lp lr (λ z. nz (b.1 ∙ z)) k))
        (look p lp);
  }

-- ---- the sheet

pub sheet_kept : {n : ℕ} {work new : List ℕ} → PlanesKept n work new → cells_of n new ≡ cells_of n work
sheet_kept {n = n} {work = work} {new = new} s = cells_kept n new work (λ p lp. s.others 0 p (inl refl) lp)

pub kept_refl : {n : ℕ} (work : List ℕ) → PlanesKept n work work
kept_refl work = record { size = refl; others = λ j p s lp. refl }

pub kept_trans : {n : ℕ} {a b c : List ℕ} → PlanesKept n a b → PlanesKept n b c → PlanesKept n a c
kept_trans f g = record { size = g.size ∙ f.size; others = λ j p s lp. g.others j p s lp ∙ f.others j p s lp }

pub since_refl : {n : ℕ} (work : List ℕ) → Since n work work
since_refl work = record { kept = kept_refl work; given = λ p lp nz. refl }

pub since_trans : {n : ℕ} {a b c : List ℕ} → Since n a b → Since n b c → Since n a c
since_trans f g = record {
  kept = kept_trans f.kept g.kept;
  given = λ p lp nz. g.given p lp (λ z. nz (sym (f.given p lp nz) ∙ z)) ∙ f.given p lp nz;
}

-- ---- what labels say of places

module _ (n : ℕ) (adj : ℕ → ℕ → Bool) (cells : List ℤ) (len : length cells ≡ n) (symm : Symmetric adj) where
  abbrev firsts : ℕ → Bool
  firsts = first cells (roots n adj cells)

  pub clear_label : (p : ℕ) → opaque cells p ≡ false → label_at n adj cells p ≡ 0
  unfolding label_at
  clear_label p z = label_clear n adj cells len symm p z

  pub link-label : (p q : ℕ) → link adj cells p q ≡ true → label_at n adj cells p ≡ label_at n adj cells q
  unfolding label_at
  link-label p q k =
      let o = link-right adj cells p q k in
      (label-joined n adj cells len symm p q (link_left adj cells p q k) o).1 (step k (here o))

  -- a first cell has the next number
  first-label : (s : ℕ) → firsts s ≡ true → label_at n adj cells s ≡ count (suc s) firsts
  unfolding label_at label first inside
  first-label s f =
      let e : held (roots n adj cells) s ≡ s = eqb_yes (right (opaque cells s) (eqb (held (roots n adj cells) s) s) f) in
      rw (left (opaque cells s) (eqb (held (roots n adj cells) s) s) f) (ap (λ (x : ℕ). count (suc x) firsts) e)

  pub first_next : (s : ℕ) → firsts s ≡ true → count (s + 1) firsts ≡ count s firsts + 1
  unfolding count
  first_next s f = rw (add-one s, f) (omega arith)

  pub not_first : (s : ℕ) → firsts s ≡ false → count (s + 1) firsts ≡ count s firsts
  unfolding count
  not_first s f = rw (add-one s, f) (omega arith)

  pub first-number : (s : ℕ) → firsts s ≡ true → label_at n adj cells s ≡ count s firsts + 1
  first-number s f = first-label s f ∙ ap (λ (x : ℕ). count x firsts) (sym (add-one s)) ∙ first_next s f

  pub root-is-first : (s : ℕ) → opaque cells s ≡ true → root n adj cells s ≡ s → firsts s ≡ true
  unfolding first inside root
  root-is-first s o e = both o (yes_eqb e)

  pub clear_not_first : (s : ℕ) → opaque cells s ≡ false → firsts s ≡ false
  unfolding first inside
  clear_not_first s z = rw z

  pub labelled-opaque : {work : List ℕ} {m : ℕ} {Open : ℕ → Type 0} → Right adj cells n work m Open → (p : ℕ) → p < n → (plane n 1 work p ≡ 0 → ⊥) → opaque cells p ≡ true
  labelled-opaque g p lp nz = case (opaque cells p) (λ y. y) (λ z. absurd (nz (g.right p lp nz ∙ clear_label p z)))

  module _ {work : List ℕ} {m : ℕ} (g : Right adj cells n work m Shut) where
    -- where no place is open, labels reach whole regions
    along : {p q : ℕ} → Joined adj cells p q → (plane n 1 work p ≡ 0 → ⊥) → plane n 1 work q ≡ 0 → ⊥
    along (here o) nz = nz
    along (step {p} {q} k j) nz =
        along j (⊎_elim (λ f. f) (λ z. absurd z) (g.closed p q (opaque-below n adj cells len p (link_left adj cells p q k)) (opaque-below n adj cells len q (link-right adj cells p q k)) nz k))

    module _ (s : ℕ) (ls : s < n) (passed : (p : ℕ) → p < s → opaque cells p ≡ true → plane n 1 work p ≡ 0 → ⊥) where
      -- the first opaque place without a label is a first cell
      pub next-root : opaque cells s ≡ true → plane n 1 work s ≡ 0 → root n adj cells s ≡ s
      next-root o free =
          elim (dec_lt (root n adj cells s) s) [
            | yes l ↦ (let j = joined-root n adj cells len s o in
                absurd (along (join_sym adj cells symm j) (passed (root n adj cells s) l (join_right adj cells j)) free))
            | no k ↦ (let l = root_le n adj cells len s ls in omega arith)
          ]

      -- and one that has a label is none
      pub old_not_first : m ≡ count s firsts → (plane n 1 work s ≡ 0 → ⊥) → firsts s ≡ false
      old_not_first e nz =
          case (firsts s) (λ y. absurd (omega (arith, first-number s y, g.right s ls nz, g.most s ls))) (λ z. z)

-- ---- one more label, all told

module _ {h w : ℕ} {near : Neighbourhood} {work : List ℕ} {done : ℕ} {t : Tally} {Open : ℕ → Type 0} (f : Filled h w near work done t Open) where
  abbrev adj : ℕ → ℕ → Bool
  adj = neighbours near w

  abbrev cells : List ℤ
  cells = cells_of (h * w) work

  pub symm : Symmetric (neighbours near w)
  symm = neighbours_symmetric near w

  pub len : length (cells_of (h * w) work) ≡ h * w
  len = cells-size (h * w) work

  module _ (q m : ℕ) (lq : q < h * w) (free : plane (h * w) 1 work q ≡ 0) where
    fits : t.taken < h * w
    fits = room_left f.order q lq free

    pub put_here : Put (h * w) work q m t.taken (joined (h * w) q m t.taken work)
    put_here = put_is (h * w) q m t.taken work lq fits (omega (arith, f.sized.planes))

    pub filled_put : {New : ℕ → Type 0} → m ≡ done + 1 → done ≤ t.taken → t.regions ≤ m → label_at (h * w) adj cells q ≡ m →
        ((k : ℕ) → k < m → (k < t.regions) ⊎ ((end_of (h * w) work k ≡ t.taken) × (root (h * w) adj cells q ≡ q))) →
        ((p : ℕ) → Open p → New p) → New q → Filled h w near (joined (h * w) q m t.taken work) done (record { regions = m; taken = t.taken + 1 }) New
    filled_put {New = New} next few up is fore mono mine =
        let one : 1 ≤ m = omega arith in
        let u = put_here in
        let same : cells ≡ cells_of (h * w) (joined (h * w) q m t.taken work) = sym (sheet_kept (put_since u lq free one).kept) in
        let most : (p : ℕ) → p < h * w → plane (h * w) 1 work p ≤ m = (λ p lp. let l = f.labels.most p lp in omega arith) in
        record {
          sized = record { rows = f.sized.rows; cols = f.sized.cols; planes = omega (arith, f.sized.planes, u.size) };
          labels = subst (λ (c : List ℤ). Right adj c (h * w) (joined (h * w) q m t.taken work) m New) same (put_right u lq free one f.labels up is mono mine);
          order = put_order u lq free one f.order most;
          ended = subst (λ (c : List ℤ). Ended adj c (h * w) (joined (h * w) q m t.taken work) done m (t.taken + 1)) same (put_ended u lq free one f.order most f.ended next few fore);
          under = omega arith;
        }
