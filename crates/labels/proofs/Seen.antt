-- The work area as labelling sees it: its planes, its stores, and what words of plane 1 tell. Assumes nothing.
use Prim.Native.Nat.{ℕ, zero, suc, ◌+◌, ◌-◌, ◌*◌, ◌≤◌, ◌<◌}
use mathlib.Core.Path.{◌≡◌, refl, sym, ap, ◌∙◌}
use mathlib.Core.Logic.{◌⊎◌, inl, inr, ⊎_elim}
use mathlib.Core.Bool.{true}
use mathlib.Core.List.{List}
use native.Mathlib.Nat.{mul-le-mul_right}
use native.Mathlib.Decide.{ℕ_discrete, dec_lt}
use native.Mathlib.Omega.{arith}
use borrow.Author.Tests.{lt-ltb, le-ltb, le-leb, lt-leb}
use lib.Dec.{leb, ltb}
use lib.ListN.{length, get_or, set, length-set, get_or-eq_default}
use lib.Seq.{get_or-set_same, get_or-set_other, ext_get_or}
use Rattle.base.proofs.Counting.{case, table_at, table-length}
use Rattle.rules.specs.Regions.{opaque}
use Rattle.grid.specs.declared.Neighbourhood.{Neighbourhood}
use Rattle.grid.specs.Planes.{plane, cells_of}
use Rattle.grid.proofs.Planes.{plane_read, plane_other, opaque_paint}
use Rattle.labels.specs.Filling.{joined, shown, seen, Coded, Filled, Shut, LabelledTo, PlanesKept, word_of, Cleared}
use Rattle.labels.specs.declared.Tally.{Tally}
use Rattle.labels.proofs.Filling.{put_is}
use Rattle.labels.proofs.Flooding.{pass_clear, pass_old}

pub seen_size : (n : ℕ) (work : List ℕ) → length (seen n work) ≡ length work
unfolding seen
seen_size n work = table-length (length work) (λ i. shown n i (get_or work i 0))

-- a small word, and one outside plane 1, are seen as they are
pub shown-small : (n i v : ℕ) → v ≤ 264196 → shown n i v ≡ v
unfolding shown
shown-small n i v l = rw (le-ltb 264196 v l)

pub shown_outside : (n i v : ℕ) → (i < n) ⊎ (2 * n ≤ i) → shown n i v ≡ v
unfolding shown
shown_outside n i v s =
    case (ltb 264196 v)
    (λ y. rw y (⊎_elim (λ a. rw (lt-leb n i a)) (λ b. case (leb n i) (λ t. rw (t, le-ltb i (2 * n) b)) (λ z. rw z)) s)) (λ z. rw z)

shown-code : (n i v : ℕ) → 264196 < v → n ≤ i → i < 2 * n → shown n i v ≡ 0
unfolding shown
shown-code n i v l lo hi = rw (lt-ltb 264196 v l, le-leb n i lo, lt-ltb i (2 * n) hi)

seen_at : (n : ℕ) (work : List ℕ) (i : ℕ) → get_or (seen n work) i 0 ≡ shown n i (get_or work i 0)
unfolding seen
seen_at n work i =
    elim (dec_lt i (length work)) [
      | yes l ↦ table_at (length work) (λ k. shown n k (get_or work k 0)) 0 i l
      | no m ↦ (let e : get_or work i 0 ≡ 0 = get_or-eq_default work 0 (omega arith) in
          get_or-eq_default (seen n work) 0 (omega (arith, seen_size n work)) ∙ sym (ap (shown n i) e ∙ shown-small n i 0 (omega arith)))
    ]

-- a store that is seen as it is
pub seen-set : (n : ℕ) (work : List ℕ) (i v : ℕ) → i < length work → shown n i v ≡ v → seen n (set work i v) ≡ set (seen n work) i v
seen-set n work i v l e =
    ext_get_or 0 (seen n (set work i v)) (set (seen n work) i v) (seen_size n (set work i v) ∙ simp length-set (sym (seen_size n work)))
    (λ k lk. seen_at n (set work i v) k ∙ elim (ℕ_discrete k i) [
      | yes y ↦ ap (λ (x : ℕ). shown n x (get_or (set work i v) x 0)) y ∙ ap (shown n i) (get_or-set_same work i v 0 l) ∙ e
          ∙ sym (ap (λ (x : ℕ). get_or (set (seen n work) i v) x 0) y ∙ get_or-set_same (seen n work) i v 0 (omega (arith, seen_size n work)))
      | no ne ↦ ap (shown n k) (get_or-set_other work i k v 0 ne) ∙ sym (seen_at n work k) ∙ sym (get_or-set_other (seen n work) i k v 0 ne)
    ])

-- the planes as they are seen
module _ (n : ℕ) (work : List ℕ) where
  pub seen_other : (j p : ℕ) → (j ≡ 1 → ⊥) → p < n → plane n j (seen n work) p ≡ plane n j work p
  unfolding plane
  seen_other j p ne lp = seen_at n work (j * n + p) ∙ shown_outside n (j * n + p) (get_or work (j * n + p) 0) (side j ne)
    where
      side : (k : ℕ) → (k ≡ 1 → ⊥) → (k * n + p < n) ⊎ (2 * n ≤ k * n + p)
      side k nk = elim (ℕ_discrete k 0) [ yes y ↦ inl (rw y (omega arith)) | no m ↦ (let t : 2 ≤ k = omega arith in inr (omega (arith, mul-le-mul_right n t))) ]

  pub seen-label : (p : ℕ) → plane n 1 work p ≤ 264196 → plane n 1 (seen n work) p ≡ plane n 1 work p
  unfolding plane
  seen-label p l = seen_at n work (1 * n + p) ∙ shown-small n (1 * n + p) (get_or work (1 * n + p) 0) l

  pub seen-code : (p : ℕ) → p < n → 264196 < plane n 1 work p → plane n 1 (seen n work) p ≡ 0
  unfolding plane
  seen-code p lp l = seen_at n work (1 * n + p) ∙ shown-code n (1 * n + p) (get_or work (1 * n + p) 0) l (omega arith) (omega arith)

-- one more label, as it is seen
pub seen-joined : (n q m i : ℕ) (work : List ℕ) → q < n → i < n → m ≤ 264196 → 8 * n ≤ length work → seen n (joined n q m i work) ≡ joined n q m i (seen n work)
seen-joined n q m i work lq li lm room =
    seen-set n (set work (n + q) m) (2 * n + i) q (simp length-set (omega arith)) (shown_outside n (2 * n + i) q (inr (omega arith)))
    ∙ ap (λ (l : List ℕ). set l (2 * n + i) q) (seen-set n work (n + q) m (omega arith) (shown-small n (n + q) m lm))

-- an end, as it is seen
pub seen_end : (n k v : ℕ) (work : List ℕ) → 3 * n + k < length work → seen n (set work (3 * n + k) v) ≡ set (seen n work) (3 * n + k) v
seen_end n k v work l = seen-set n work (3 * n + k) v l (shown_outside n (3 * n + k) v (inr (omega arith)))

-- what is kept as it is seen has its length
pub seen-length : (n : ℕ) (a b : List ℕ) → length (seen n b) ≡ length (seen n a) → length b ≡ length a
seen-length n a b e = omega (arith, e, seen_size n a, seen_size n b)

-- ---- what a word of plane 1 tells

-- the place q has no label, and the code's paint
pub record Fresh (n : ℕ) (work : List ℕ) (code q : ℕ) : Type 0 where
  pub free : plane n 1 (seen n work) q ≡ 0
  pub paint : plane n 0 (seen n work) q ≡ code - 264196

module _ {n : ℕ} {work : List ℕ} (c : Coded n work) where
  pub code-fresh : {code : ℕ} → 264196 < code → (q : ℕ) → q < n → plane n 1 work q ≡ code → Fresh n work code q
  code-fresh l q lq e = record {
    free = seen-code n work q lq (omega (arith, e));
    paint = seen_other n work 0 q (λ z. omega arith) lq ∙ ⊎_elim (λ a. absurd (omega (arith, a.0))) (λ b. omega (arith, b.0)) (c.word q lq);
  }

  pub code_kept : {code : ℕ} → 264196 < code → (q : ℕ) → q < n → (plane n 1 work q ≡ code → ⊥) → plane n 0 (seen n work) q ≡ code - 264196 → plane n 1 (seen n work) q ≡ 0 → ⊥
  code_kept l q lq ne same free =
      let s : plane n 0 work q ≡ _ = sym (seen_other n work 0 q (λ z. omega arith) lq) ∙ same in
      ⊎_elim (λ a. let z = a.1 (sym (seen-label n work q a.0) ∙ free) in omega (arith, s, z)) (λ b. ne (omega (arith, b.0, s))) (c.word q lq)

  pub coded_joined : (q m i : ℕ) → q < n → i < n → 0 < m → m ≤ 264196 → 8 * n ≤ length work → Coded n (joined n q m i work)
  coded_joined q m i lq li some most room =
      let u = put_is n q m i work lq li (omega arith) in
      record {
        small = λ p lp. omega (arith, u.others 0 p (λ z. omega arith) (λ z. omega arith) lp, c.small p lp);
        word = λ p lp. elim (ℕ_discrete p q) [
          | yes y ↦ (let e : plane n 1 (joined n q m i work) p ≡ m = ap (plane n 1 (joined n q m i work)) y ∙ u.mine in inl (omega arith, λ z. absurd (omega arith)))
          | no ne ↦ (let e = u.theirs p lp ne in
              let o = u.others 0 p (λ z. omega arith) (λ z. omega arith) lp in
              ⊎_elim (λ a. inl (omega (arith, a.0), λ z. o ∙ a.1 (sym e ∙ z))) (λ b. inr (omega (arith, b.0), omega (arith, b.1))) (c.word p lp))
        ];
      }

  -- a store in plane 3
  pub coded_end : (k v : ℕ) → k < n → Coded n (set work (3 * n + k) v)
  coded_end k v lk =
      let o : (j p : ℕ) → (3 ≡ j → ⊥) → p < n → plane n j (set work (3 * n + k) v) p ≡ plane n j work p = λ j p ne lp. plane_other n 3 k (3 * n + k) work v refl j p ne lk lp in
      record {
        small = λ p lp. omega (arith, o 0 p (λ z. omega arith) lp, c.small p lp);
        word = λ p lp.
            let e = o 1 p (λ z. omega arith) lp in
            let f = o 0 p (λ z. omega arith) lp in
            ⊎_elim (λ a. inl (omega (arith, a.0), λ z. f ∙ a.1 (sym e ∙ z))) (λ b. inr (omega (arith, b.0), omega (arith, b.1))) (c.word p lp);
      }

  -- once every opaque place has a label, all is seen as it is
  pub seen_all : ((p : ℕ) → p < n → opaque (cells_of n (seen n work)) p ≡ true → plane n 1 (seen n work) p ≡ 0 → ⊥) → seen n work ≡ work
  unfolding plane
  seen_all done =
      ext_get_or 0 (seen n work) work (seen_size n work)
      (λ i li. seen_at n work i ∙ elim (dec_lt i n) [
        | yes l ↦ shown_outside n i (get_or work i 0) (inl l)
        | no m ↦ elim (dec_lt i (2 * n)) [
          | yes l ↦ (let p : ℕ = i - n in
              let lp : p < n = omega arith in
              let e : get_or work i 0 ≡ plane n 1 work p = plane_read n 1 p i work (omega arith) in
              ⊎_elim (λ a. shown-small n i (get_or work i 0) (omega (arith, e, a.0)))
              (λ b. absurd (done p lp (opaque_paint n (seen n work) p lp ∙ lt-ltb 0 (plane n 0 (seen n work) p) (omega (arith, b.1, seen_other n work 0 p (λ z. omega arith) lp))) (seen-code n work p lp (omega (arith, b.0, b.1)))))
              (c.word p lp))
          | no k ↦ shown_outside n i (get_or work i 0) (inr (omega arith))
        ]
      ])

-- ---- the place s, by its word

module _ {h w : ℕ} {near : Neighbourhood} {work : List ℕ} {t : Tally} {s : ℕ} (c : Coded (h * w) work) (f : Filled h w near (seen (h * w) work) t.regions t Shut) (passed : LabelledTo h w near (seen (h * w) work) t s) (ls : s < h * w) where
  -- nothing begins at a place whose word is no code
  pub pass-low : plane (h * w) 1 work s ≤ 264196 → LabelledTo h w near (seen (h * w) work) t (s + 1)
  pass-low low =
      ⊎_elim
      (λ a. elim (ℕ_discrete (plane (h * w) 1 work s) 0) [
        | yes z ↦ pass_clear f passed ls (seen_other (h * w) work 0 s (λ y. omega arith) ls ∙ a.1 z)
        | no ne ↦ pass_old f passed ls (λ z. ne (sym (seen-label (h * w) work s a.0) ∙ z))
      ])
      (λ b. absurd (omega (arith, b.0, b.1))) (c.word s ls)

-- ---- before the first place

module _ {n : ℕ} {old new : List ℕ} (k : Cleared n n old new) where
  word_code : (p : ℕ) → p < n → ((plane n 1 new p ≡ 0) × (plane n 0 new p ≡ 0)) ⊎ ((plane n 1 new p ≡ plane n 0 new p + 264196) × (0 < plane n 0 new p))
  unfolding word_of
  word_code p lp = go (plane n 0 old p) (k.word p lp) (k.others 0 p (λ z. omega arith) lp)
    where
      go : (x : ℕ) → plane n 1 new p ≡ word_of x → plane n 0 new p ≡ x → ((plane n 1 new p ≡ 0) × (plane n 0 new p ≡ 0)) ⊎ ((plane n 1 new p ≡ plane n 0 new p + 264196) × (0 < plane n 0 new p))
      go zero e f = inl (e, f)
      go (suc x) e f = inr (omega (arith, e, f), omega (arith, f))

  pub cleared_coded : ((p : ℕ) → p < n → plane n 0 old p ≤ 2147483648) → Coded n new
  cleared_coded small = record {
    small = λ p lp. omega (arith, k.others 0 p (λ z. omega arith) lp, small p lp);
    word = λ p lp. ⊎_elim (λ a. inl (omega (arith, a.0), λ z. a.1)) (λ b. inr b) (word_code p lp);
  }

  pub cleared_blank : (p : ℕ) → p < n → plane n 1 (seen n new) p ≡ 0
  cleared_blank p lp =
      ⊎_elim (λ a. seen-label n new p (omega (arith, a.0)) ∙ a.0) (λ b. seen-code n new p lp (omega (arith, b.0, b.1))) (word_code p lp)

  pub cleared_kept : PlanesKept n old (seen n new)
  cleared_kept = record {
    size = seen_size n new ∙ k.size;
    others = λ j p s lp.
        let ne : j ≡ 1 → ⊥ = λ z. ⊎_elim (λ a. omega arith) (λ a. omega arith) s in
        seen_other n new j p ne lp ∙ k.others j p ne lp;
  }
