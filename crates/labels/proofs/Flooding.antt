-- The turns of labelling: neighbours visited, a region begun, filled and ended, and all places passed. Assumes nothing.
use Prim.Native.Nat.{ℕ, zero, suc, ◌+◌, ◌-◌, ◌*◌, ◌/◌, ◌%◌, ◌≤◌, ◌<◌}
use mathlib.Core.Path.{◌≡◌, refl, sym, ap, ◌∙◌, subst}
use mathlib.Core.Logic.{◌⊎◌, inl, inr, ⊎_elim}
use mathlib.Core.Bool.{Bool, true, false}
use mathlib.Core.List.{List}
use Rattle.std.specs.Prelude.{Some}
use native.Mathlib.Nat.{not-suc-le-zero, le_refl}
use native.Mathlib.Decide.{ℕ_discrete, dec_lt}
use native.Mathlib.Omega.{arith}
use borrow.Author.Tests.{lt-ltb}
use lib.Dec.{eqb, ltb, lit<}
use lib.IntN.{ℤ}
use lib.ListN.{length, get_or, set, length-set}
use Rattle.base.specs.Places.{count}
use Rattle.base.proofs.Counting.{case, clash, count_same, count_le}
use Rattle.rules.specs.Regions.{opaque, link, roots, root, first}
use Rattle.rules.specs.Grid.{step_to}
use Rattle.rules.specs.Masks.{label_at, regions}
use Rattle.rules.proofs.Roots.{link-same, link-adj, link-right, to-link}
use Rattle.grid.specs.declared.Neighbourhood.{Neighbourhood}
use Rattle.grid.specs.declared.Neighbourhood.TheVariants.{Four, Eight}
use Rattle.grid.specs.Steps.{steps_of, neighbours}
use Rattle.grid.specs.Planes.{plane, paint_of, cell_of, cells_of, group_at, end_of, Labelled}
use Rattle.grid.proofs.Places.{rows_of, cols_of, hop, hop_in, neighbours-four, neighbours-eight, neighbours-sound, neighbours_complete, some_inj, After, eight-after, four-after}
use Rattle.grid.proofs.Planes.{plane_read, plane-same, plane_else, plane_other, cells_at, cells_paint, opaque_paint}
use Rattle.labels.specs.declared.Tally.{Tally}
use Rattle.labels.specs.Filling.{Sized, blanks, joined, Right, Ordered, Ended, Filled, Shut, Waits, Flood, Begun, Alone, Tinted, LabelledTo, PlanesKept, Since, Visited}
use Rattle.labels.proofs.Filling.{Put, room_left, put_since, at_old, at_new, sheet_kept, since_refl, since_trans, clear_label, link-label, first_next, not_first, first-number, root-is-first, clear_not_first, labelled-opaque, next-root, old_not_first, symm, len, put_here, filled_put}

-- ---- the turns of `visit_all`

-- while the neighbours of p, which waits at head, are visited: k of them are done, since the work area and the tally were work₀ and t₀
pub record Turn (h w : ℕ) (near : Neighbourhood) (work₀ : List ℕ) (t₀ : Tally) (head p k : ℕ) (work : List ℕ) (t : Tally) : Type 0 where
  pub flood : Flood h w near work head t
  pub is : plane (h * w) 2 work head ≡ p
  pub done : (j q : ℕ) → j < k → hop h w p j ≡ Some q → plane (h * w) 0 work q ≡ plane (h * w) 0 work p → plane (h * w) 1 work q ≡ 0 → ⊥
  pub alike : (i : ℕ) → head ≤ i → i < t.taken → plane (h * w) 0 work (plane (h * w) 2 work i) ≡ plane (h * w) 0 work p
  pub since : Since (h * w) work₀ work
  pub regions : t.regions ≡ t₀.regions
  pub taken : t₀.taken ≤ t.taken

pub turn_start : {h w : ℕ} {near : Neighbourhood} {work : List ℕ} {head paint : ℕ} {t : Tally} → Flood h w near work head t → Tinted (h * w) work head t.taken paint → head < t.taken → Turn h w near work t head (plane (h * w) 2 work head) 0 work t
turn_start {work = work} {head = head} f tint lh = record {
  flood = f;
  is = refl;
  done = λ j q l. absurd (not-suc-le-zero l);
  alike = λ i lo hi. tint.alike i lo hi ∙ sym (tint.alike head (le_refl head) lh);
  since = since_refl work;
  regions = refl;
  taken = le_refl _;
}

module _ {h w : ℕ} {near : Neighbourhood} {work₀ : List ℕ} {t₀ : Tally} {head p k : ℕ} {work : List ℕ} {t : Tally} (u : Turn h w near work₀ t₀ head p k work t) (lh : head < t₀.taken) where
  -- p is on the grid and has the last label
  pub turn_in : p < h * w
  turn_in = let l = (u.flood.filled.order.placed head (omega (arith, u.taken))).0 in omega (arith, u.is)

  turn_mine : plane (h * w) 1 work p ≡ t.regions
  unfolding group_at
  turn_mine = ap (plane (h * w) 1 work) (sym u.is) ∙ u.flood.wait head (le_refl head) (omega (arith, u.taken))

  turn_opaque : opaque (cells_of (h * w) work) p ≡ true
  turn_opaque =
      let f = u.flood.filled in
      labelled-opaque (h * w) (neighbours near w) (cells_of (h * w) work) (len f) (symm f) f.labels p turn_in (λ z. omega (arith, turn_mine, u.flood.some))

  module _ (lk : k < steps_of near) where
    turn_link : (q : ℕ) → hop h w p k ≡ Some q → plane (h * w) 0 work q ≡ plane (h * w) 0 work p → link (neighbours near w) (cells_of (h * w) work) p q ≡ true
    turn_link q e same =
        let f = u.flood.filled in
        let lq = hop_in h w p k q e in
        to-link (neighbours near w) (cells_of (h * w) work) p q (neighbours-sound near h w p k q lk e) turn_opaque
        (cells_at (h * w) work p turn_in ∙ ap cell_of (sym same) ∙ sym (cells_at (h * w) work q lq))

    turn_kept : ((q : ℕ) → hop h w p k ≡ Some q → plane (h * w) 0 work q ≡ plane (h * w) 0 work p → plane (h * w) 1 work q ≡ 0 → ⊥) → Turn h w near work₀ t₀ head p (k + 1) work t
    turn_kept not = record {
      flood = u.flood;
      is = u.is;
      done = λ j q l e. elim (dec_lt j k) [ yes m ↦ u.done j q m e | no m ↦ (let z : j ≡ k = omega arith in not q (subst (λ (x : ℕ). hop h w p x ≡ Some q) z e)) ];
      alike = u.alike;
      since = u.since;
      regions = u.regions;
      taken = u.taken;
    }

    module _ (q : ℕ) (e : hop h w p k ≡ Some q) (same : plane (h * w) 0 work q ≡ plane (h * w) 0 work p) (free : plane (h * w) 1 work q ≡ 0) where
      abbrev m : ℕ
      m = t.regions

      abbrev new : List ℕ
      new = joined (h * w) q m t.taken work

      abbrev f : Filled h w near work (t.regions - 1) t (Waits (h * w) work head t.taken)
      f = u.flood.filled

      lq : q < h * w
      lq = hop_in h w p k q e

      put : Put (h * w) work q m t.taken new
      put = put_here f q m lq free

      grown : Since (h * w) work new
      grown = put_since put lq free u.flood.some

      fits_in : t.taken < h * w
      fits_in = room_left f.order q lq free

      took_label : label_at (h * w) (neighbours near w) (cells_of (h * w) work) q ≡ m
      took_label =
          sym (link-label (h * w) (neighbours near w) (cells_of (h * w) work) (len f) (symm f) p q (turn_link q e same))
          ∙ sym (f.labels.right p turn_in (λ z. omega (arith, turn_mine, u.flood.some))) ∙ turn_mine

      most : (r : ℕ) → r < h * w → plane (h * w) 1 work r ≤ m
      most r lr = f.labels.most r lr

      took_wait : (i : ℕ) → head ≤ i → i < t.taken + 1 → group_at (h * w) new i ≡ m
      took_wait i lo hi =
          elim (dec_lt i t.taken) [
            | yes l ↦ (at_old put lq free u.flood.some f.order most i l).1 ∙ u.flood.wait i lo l
            | no k ↦ (let z : i ≡ t.taken = omega arith in ap (group_at (h * w) new) z ∙ at_new put lq free u.flood.some f.order most)
          ]

      took_flood : Flood h w near new head (record { regions = m; taken = t.taken + 1 })
      took_flood = record {
        filled =
            filled_put f q m lq free (omega (arith, u.flood.some)) (omega (arith, f.under)) (le_refl m) took_label (λ k l. inl l)
            (λ r a. record { at = a.at; low = a.low; high = omega (arith, a.high); is = put.older a.at (omega (arith, a.high, fits_in)) (λ z. omega (arith, a.high)) ∙ a.is })
            (record { at = t.taken; low = omega (arith, u.taken); high = omega arith; is = put.last });
        wait = took_wait;
        some = u.flood.some;
      }

      paint_kept : (r : ℕ) → r < h * w → plane (h * w) 0 new r ≡ plane (h * w) 0 work r
      paint_kept r lr = grown.kept.others 0 r (inl refl) lr

      took_done : (j r : ℕ) → j < k + 1 → hop h w p j ≡ Some r → plane (h * w) 0 new r ≡ plane (h * w) 0 new p → plane (h * w) 1 new r ≡ 0 → ⊥
      took_done j r l g paint z =
          elim (ℕ_discrete r q) [
            | yes y ↦ omega (arith, u.flood.some, put.mine, ap (plane (h * w) 1 new) y)
            | no ny ↦ elim (dec_lt j k) [
              | yes lj ↦ (let lr = hop_in h w p j r g in
                  let nz : plane (h * w) 1 work r ≡ 0 → ⊥ = u.done j r lj g (sym (paint_kept r lr) ∙ paint ∙ paint_kept p turn_in) in
                  nz (sym (grown.given r lr nz) ∙ z))
              | no nj ↦ (let y : j ≡ k = omega arith in ny (some_inj (sym g ∙ ap (hop h w p) y ∙ e)))
            ]
          ]

      took_alike : (i : ℕ) → head ≤ i → i < t.taken + 1 → plane (h * w) 0 new (plane (h * w) 2 new i) ≡ plane (h * w) 0 new p
      took_alike i lo hi =
          elim (dec_lt i t.taken) [
            | yes l ↦ ap (plane (h * w) 0 new) (put.older i (omega (arith, fits_in)) (λ z. omega arith)) ∙ paint_kept (plane (h * w) 2 work i) (f.order.placed i l).0
                ∙ u.alike i lo l ∙ sym (paint_kept p turn_in)
            | no m ↦ (let z : i ≡ t.taken = omega arith in
                ap (λ (x : ℕ). plane (h * w) 0 new (plane (h * w) 2 new x)) z ∙ ap (plane (h * w) 0 new) put.last ∙ paint_kept q lq ∙ same ∙ sym (paint_kept p turn_in))
          ]

      turn_took : Turn h w near work₀ t₀ head p (k + 1) new (record { regions = m; taken = t.taken + 1 })
      turn_took = record {
        flood = took_flood;
        is = put.older head (omega (arith, u.taken, fits_in)) (λ z. omega (arith, u.taken)) ∙ u.is;
        done = took_done;
        alike = took_alike;
        since = since_trans u.since grown;
        regions = u.regions;
        taken = omega (arith, u.taken);
      }

pub turn_on : {h w : ℕ} {near : Neighbourhood} {work₀ : List ℕ} {t₀ : Tally} {head p k : ℕ} {work new : List ℕ} {t next : Tally} → Turn h w near work₀ t₀ head p k work t → head < t₀.taken → k < steps_of near →
    Visited (h * w) (step_to h w (p / w) (p % w) (rows_of k) (cols_of k)) (plane (h * w) 0 work p) work t new next → Turn h w near work₀ t₀ head p (k + 1) new next
unfolding hop
turn_on u lh lk (Visited.kept not) = turn_kept u lh lk not
turn_on u lh lk (Visited.took q e same free) = turn_took u lh lk q e same free

-- fewer places are open
fewer : {adj : ℕ → ℕ → Bool} {cells : List ℤ} {n : ℕ} {work : List ℕ} {m : ℕ} {Open New : ℕ → Type 0} → Right adj cells n work m Open →
    ((p q : ℕ) → p < n → q < n → link adj cells p q ≡ true → Open p → (plane n 1 work q ≡ 0 → ⊥) ⊎ New p) → Right adj cells n work m New
fewer g f = record {
  most = g.most;
  right = g.right;
  closed = λ p q lp lq nz k. ⊎_elim (λ a. inl a) (λ o. f p q lp lq k o) (g.closed p q lp lq nz k);
}

refilled : {h w : ℕ} {near : Neighbourhood} {work : List ℕ} {done : ℕ} {t : Tally} {Open New : ℕ → Type 0} → Filled h w near work done t Open →
    ((p q : ℕ) → p < h * w → q < h * w → link (neighbours near w) (cells_of (h * w) work) p q ≡ true → Open p → (plane (h * w) 1 work q ≡ 0 → ⊥) ⊎ New p) → Filled h w near work done t New
refilled f g = record { sized = f.sized; labels = fewer f.labels g; order = f.order; ended = f.ended; under = f.under }

-- linked places have one paint
link_paint : (adj : ℕ → ℕ → Bool) (n : ℕ) (work : List ℕ) (p q : ℕ) → p < n → q < n → link adj (cells_of n work) p q ≡ true → plane n 0 work q ≡ plane n 0 work p
link_paint adj n work p q lp lq k =
    sym (cells_paint n work q lq) ∙ ap paint_of (sym (link-same adj (cells_of n work) p q k)) ∙ cells_paint n work p lp

-- all neighbours are done: on to the next place that waits
pub turn_off : {h w : ℕ} {near : Neighbourhood} {work₀ : List ℕ} {t₀ : Tally} {head p k : ℕ} {work : List ℕ} {t : Tally} → Turn h w near work₀ t₀ head p k work t → head < t₀.taken → steps_of near ≤ k → Flood h w near work (head + 1) t
turn_off {h = h} {w = w} {near = near} {head = head} {p = p} {work = work} {t = t} u lh all = record {
  filled = refilled u.flood.filled shut;
  wait = λ i lo hi. u.flood.wait i (omega arith) hi;
  some = u.flood.some;
}
  where
    shut : (r q : ℕ) → r < h * w → q < h * w → link (neighbours near w) (cells_of (h * w) work) r q ≡ true → Waits (h * w) work head t.taken r → (plane (h * w) 1 work q ≡ 0 → ⊥) ⊎ Waits (h * w) work (head + 1) t.taken r
    shut r q lr lq k a =
        elim (ℕ_discrete a.at head) [
          | yes e ↦ (let z : r ≡ p = sym a.is ∙ ap (plane (h * w) 2 work) e ∙ u.is in
              let c = neighbours_complete near h w r q lq (link-adj (neighbours near w) (cells_of (h * w) work) r q k) in
              inl (u.done c.0 q (omega (arith, c.1)) (subst (λ (x : ℕ). hop h w x c.0 ≡ Some q) z c.2) (link_paint (neighbours near w) (h * w) work r q lr lq k ∙ ap (plane (h * w) 0 work) z)))
          | no ne ↦ inr (record { at = a.at; low = omega (arith, a.low); high = a.high; is = a.is })
        ]

-- nothing waits: the region is whole
pub whole : {h w : ℕ} {near : Neighbourhood} {work : List ℕ} {head : ℕ} {t : Tally} → Flood h w near work head t → t.taken ≤ head → Filled h w near work (t.regions - 1) t Shut
whole f le = refilled f.filled (λ p q lp lq k a. absurd (omega (arith, a.low, a.high)))

-- ---- a region of one cell

-- the words of the neighbours after s, none of which is the one asked for
module _ (n w s word : ℕ) (work : List ℕ) (pw : 0 < w) (next : get_or work (n + s + 1) 0 ≡ word → ⊥) (below : get_or work (n + s + w) 0 ≡ word → ⊥) where
  unread : (q i : ℕ) → i ≡ n + q → (get_or work i 0 ≡ word → ⊥) → plane n 1 work q ≡ word → ⊥
  unread q i e f z = f (plane_read n 1 q i work (omega arith) ∙ z)

  pub alone_four : Alone n w Four work s word
  alone_four = record {
    none = λ q l a.
        ⊎_elim (λ y. unread q (n + s + 1) (omega arith) next) (λ y. unread q (n + s + w) (omega arith) below) (four-after w s q pw l (sym (ap (λ (f : ℕ → ℕ → Bool). f s q) (neighbours-four w)) ∙ a));
  }

  pub alone_eight : (get_or work (n + s + w - 1) 0 ≡ word → ⊥) → (get_or work (n + s + w + 1) 0 ≡ word → ⊥) → Alone n w Eight work s word
  alone_eight left right = record { none = λ q l a. go q (eight-after w s q pw l (sym (ap (λ (f : ℕ → ℕ → Bool). f s q) (neighbours-eight w)) ∙ a)) }
    where
      go : (q : ℕ) → After w s q → plane n 1 work q ≡ word → ⊥
      go q (After.next y) = unread q (n + s + 1) (omega arith) next
      go q (After.below y) = unread q (n + s + w) (omega arith) below
      go q (After.aside a) = ⊎_elim (λ y. unread q (n + s + w - 1) (omega arith) left) (λ y. unread q (n + s + w + 1) (omega arith) right) a.is

module _ {h w : ℕ} {near : Neighbourhood} {work : List ℕ} {s head : ℕ} {t : Tally} (b : Begun h w near work s head t) where
  -- s is on the grid, has the last label and the paint of what waits
  pub alone_in : s < h * w
  alone_in = let l = (b.flood.filled.order.placed head (omega (arith, b.last))).0 in omega (arith, b.is)

  alone_mine : plane (h * w) 1 work s ≡ t.regions
  unfolding group_at
  alone_mine = ap (plane (h * w) 1 work) (sym b.is) ∙ b.flood.wait head (le_refl head) (omega (arith, b.last))

  pub alone_paint : {paint : ℕ} → Tinted (h * w) work head t.taken paint → plane (h * w) 0 work s ≡ paint
  alone_paint tint = ap (plane (h * w) 0 work) (sym b.is) ∙ tint.alike head (le_refl head) (omega (arith, b.last))

  -- if nothing after s joins it, the region is whole
  module _ (none : (q : ℕ) → q < h * w → s < q → neighbours near w s q ≡ true → plane (h * w) 0 work q ≡ plane (h * w) 0 work s → plane (h * w) 1 work q ≡ 0 → ⊥) where
    alone_done : (q : ℕ) → q < h * w → link (neighbours near w) (cells_of (h * w) work) s q ≡ true → plane (h * w) 1 work q ≡ 0 → ⊥
    alone_done q lq k z =
        elim (dec_lt q s) [
          | yes l ↦ b.before q l (link-right (neighbours near w) (cells_of (h * w) work) s q k) z
          | no m ↦ elim (dec_lt s q) [
            | yes l ↦ none q lq l (link-adj (neighbours near w) (cells_of (h * w) work) s q k) (link_paint (neighbours near w) (h * w) work s q alone_in lq k) z
            | no r ↦ (let e : q ≡ s = omega arith in omega (arith, b.flood.some, alone_mine, ap (plane (h * w) 1 work) e))
          ]
        ]

    pub alone_whole : Filled h w near work (t.regions - 1) t Shut
    alone_whole =
        refilled b.flood.filled (λ p q lp lq k a.
        let y : a.at ≡ head = omega (arith, a.low, a.high, b.last) in
        let e : p ≡ s = sym a.is ∙ ap (plane (h * w) 2 work) y ∙ b.is in
        inl (alone_done q lq (subst (λ (x : ℕ). link (neighbours near w) (cells_of (h * w) work) x q ≡ true) e k)))

-- ---- a region ends: its end is stored in plane 3

-- the planes 0 to 2 are kept
record Same (n : ℕ) (work new : List ℕ) : Type 0 where
  pub size : length new ≡ length work
  pub low : (j p : ℕ) → j < 3 → p < n → plane n j new p ≡ plane n j work p

module _ {n : ℕ} {work new : List ℕ} (s : Same n work new) where
  same-blanks : blanks n new ≡ blanks n work
  unfolding blanks
  same-blanks =
      count_same n (λ p. eqb (plane n 1 new p) 0) (λ p. eqb (plane n 1 work p) 0)
      (λ p lp e. rw (← s.low 1 p (lit< tt) lp) e) (λ p lp e. rw (s.low 1 p (lit< tt) lp) e)

  same-right : {adj : ℕ → ℕ → Bool} {cells : List ℤ} {m : ℕ} {Open : ℕ → Type 0} → Right adj cells n work m Open → Right adj cells n new m Open
  same-right g = record {
    most = λ p lp. omega (arith, s.low 1 p (lit< tt) lp, g.most p lp);
    right = λ p lp nz. s.low 1 p (lit< tt) lp ∙ g.right p lp (λ z. nz (s.low 1 p (lit< tt) lp ∙ z));
    closed = λ p q lp lq nz k. ⊎_elim (λ f. inl (λ z. f (sym (s.low 1 q (lit< tt) lq) ∙ z))) inr (g.closed p q lp lq (λ z. nz (s.low 1 p (lit< tt) lp ∙ z)) k);
  }

  module _ {taken : ℕ} (o : Ordered n work taken) where
    inside-n : (i : ℕ) → i < taken → i < n
    inside-n i li = omega (arith, o.free)

    same_place : (i : ℕ) → i < taken → plane n 2 new i ≡ plane n 2 work i
    same_place i li = s.low 2 i (lit< tt) (inside-n i li)

    same-group : (i : ℕ) → i < taken → group_at n new i ≡ group_at n work i
    unfolding group_at
    same-group i li = ap (plane n 1 new) (same_place i li) ∙ s.low 1 (plane n 2 work i) (lit< tt) (o.placed i li).0

    same_order : Ordered n new taken
    same_order = record {
      free = omega (arith, o.free, same-blanks);
      placed = λ i li. (omega (arith, same_place i li, (o.placed i li).0), omega (arith, same-group i li, (o.placed i li).1));
      sorted = λ i j le lj. omega (arith, same-group i (omega arith), same-group j lj, o.sorted i j le lj);
      distinct = λ i j lt lj e. o.distinct i j lt lj (sym (same_place i (omega arith)) ∙ e ∙ same_place j lj);
      listed = λ p lp nz. let f = o.listed p lp (λ z. nz (s.low 1 p (lit< tt) lp ∙ z)) in (f.0, f.1, same_place f.0 f.1 ∙ f.2);
    }

module _ {h w : ℕ} {near : Neighbourhood} {work : List ℕ} {t : Tally} {done : ℕ} (f : Filled h w near work done t Shut) (next : t.regions ≡ done + 1) where
  abbrev stored : List ℕ
  stored = set work (3 * (h * w) + done) t.taken

  in_order : done < h * w
  in_order = omega (arith, f.under, f.order.free)

  pub end_size : 3 * (h * w) + done < length work
  end_size = omega (arith, in_order, f.sized.planes)

  kept_low : (j p : ℕ) → (3 ≡ j → ⊥) → p < h * w → plane (h * w) j stored p ≡ plane (h * w) j work p
  kept_low j p ne lp = plane_other (h * w) 3 done (3 * (h * w) + done) work t.taken refl j p ne in_order lp

  same : Same (h * w) work stored
  same = record { size = simp length-set; low = λ j p l lp. kept_low j p (λ z. omega arith) lp }

  pub end_since : Since (h * w) work stored
  end_since = record {
    kept = record { size = simp length-set; others = λ j p s lp. kept_low j p (λ z. ⊎_elim (λ a. omega arith) (λ a. omega arith) s) lp };
    given = λ p lp nz. same.low 1 p (lit< tt) lp;
  }

  end_old : (k : ℕ) → k ≤ done → end_of (h * w) stored k ≡ end_of (h * w) work k
  unfolding end_of
  end_old zero l = refl
  end_old (suc k) l = plane_else (h * w) 3 done (3 * (h * w) + done) work t.taken refl k (λ z. omega arith)

  end_new : end_of (h * w) stored (suc done) ≡ t.taken
  unfolding end_of
  end_new = plane-same (h * w) 3 done (3 * (h * w) + done) work t.taken refl end_size

  -- the end of one of the first regions, or of the last
  which : (k : ℕ) → k ≤ t.regions → ((k ≤ done) × (end_of (h * w) stored k ≡ end_of (h * w) work k)) ⊎ ((k ≡ t.regions) × (end_of (h * w) stored k ≡ t.taken))
  which k l =
      elim (dec_lt done k) [
        | yes m ↦ (let e : k ≡ suc done = omega arith in inr (omega arith, ap (end_of (h * w) stored) e ∙ end_new))
        | no m ↦ inl (omega arith, end_old k (omega arith))
      ]

  group-most : (i : ℕ) → i < t.taken → group_at (h * w) stored i ≤ t.regions
  unfolding group_at
  group-most i li = let g = f.labels.most (plane (h * w) 2 work i) (f.order.placed i li).0 in omega (arith, same-group same f.order i li)

  end_ended : Ended (neighbours near w) (cells_of (h * w) work) (h * w) stored t.regions t.regions t.taken
  end_ended =
      let d = f.ended in
      record {
        limits = λ k l. ⊎_elim (λ a. omega (arith, a.1, d.limits k a.0)) (λ b. omega (arith, b.1)) (which k l);
        ends = λ k l i li.
            let g = same-group same f.order i li in
            ⊎_elim
            (λ a. let e = d.ends k a.0 i li in ((λ x. let y = e.0 (omega arith) in omega (arith, a.1)), (λ x. let y = e.1 (omega (arith, a.1)) in omega arith)))
            (λ b. ((λ x. omega (arith, b.1)), (λ x. omega (arith, b.0, group-most i li)))) (which k l);
        begun = λ k l. omega (arith, end_old k (omega arith), d.begun k l);
        foremost = λ k l.
            let e : plane (h * w) 2 stored (end_of (h * w) stored k) ≡ plane (h * w) 2 work (end_of (h * w) work k) =
            ap (plane (h * w) 2 stored) (end_old k (omega arith)) ∙ same_place same f.order (end_of (h * w) work k) (d.begun k l) in
            ap (root (h * w) (neighbours near w) (cells_of (h * w) work)) e ∙ d.foremost k l ∙ sym e;
      }

  pub end_filled : Filled h w near stored t.regions t Shut
  end_filled =
      let c : cells_of (h * w) work ≡ cells_of (h * w) stored = sym (sheet_kept end_since.kept) in
      record {
        sized = record { rows = f.sized.rows; cols = f.sized.cols; planes = omega (arith, f.sized.planes, same.size) };
        labels = subst (λ (x : List ℤ). Right (neighbours near w) x (h * w) stored t.regions Shut) c (same-right same f.labels);
        order = same_order same f.order;
        ended = subst (λ (x : List ℤ). Ended (neighbours near w) x (h * w) stored t.regions t.regions t.taken) c end_ended;
        under = f.under;
      }

-- an opaque place that has a label keeps it
labelled_since : {n : ℕ} {work new : List ℕ} (p : ℕ) → Since n work new → p < n → (opaque (cells_of n work) p ≡ true → plane n 1 work p ≡ 0 → ⊥) → opaque (cells_of n new) p ≡ true → plane n 1 new p ≡ 0 → ⊥
labelled_since p since lp has o z =
    let nz = has (subst (λ (x : List ℤ). opaque x p ≡ true) (sheet_kept since.kept) o) in
    nz (sym (since.given p lp nz) ∙ z)

-- ---- the place s, all opaque places before which have their labels

module _ {h w : ℕ} {near : Neighbourhood} {work : List ℕ} {t : Tally} {s : ℕ} (f : Filled h w near work t.regions t Shut) (passed : LabelledTo h w near work t s) (ls : s < h * w) where
  abbrev sheet : List ℤ
  sheet = cells_of (h * w) work

  -- nothing begins at s
  pass_on : first sheet (roots (h * w) (neighbours near w) sheet) s ≡ false → (opaque sheet s ≡ true → plane (h * w) 1 work s ≡ 0 → ⊥) → LabelledTo h w near work t (s + 1)
  pass_on z has = record {
    labelled = λ p lp o e. elim (ℕ_discrete p s) [ yes y ↦ has (subst (λ (x : ℕ). opaque sheet x ≡ true) y o) (sym (ap (plane (h * w) 1 work) y) ∙ e) | no n ↦ passed.labelled p (omega arith) o e ];
    number = passed.number ∙ sym (not_first (h * w) (neighbours near w) sheet (len f) (symm f) s z);
  }

  pub pass_clear : plane (h * w) 0 work s ≡ 0 → LabelledTo h w near work t (s + 1)
  pass_clear e =
      let z : opaque sheet s ≡ false = opaque_paint (h * w) work s ls ∙ ap (ltb 0) e in
      pass_on (clear_not_first (h * w) (neighbours near w) sheet (len f) (symm f) s z) (λ o k. clash o z)

  pub pass_old : (plane (h * w) 1 work s ≡ 0 → ⊥) → LabelledTo h w near work t (s + 1)
  pass_old nz = pass_on (old_not_first (h * w) (neighbours near w) sheet (len f) (symm f) f.labels s ls passed.labelled passed.number nz) (λ o. nz)

  -- a region begins at s
  module _ (paint : plane (h * w) 0 work s ≡ 0 → ⊥) (free : plane (h * w) 1 work s ≡ 0) where
    abbrev next : Tally
    next = record { regions = t.regions + 1; taken = t.taken + 1 }

    abbrev begun : List ℕ
    begun = joined (h * w) s (t.regions + 1) t.taken work

    opaque-here : opaque sheet s ≡ true
    opaque-here = opaque_paint (h * w) work s ls ∙ lt-ltb 0 (plane (h * w) 0 work s) (omega arith)

    root-here : root (h * w) (neighbours near w) sheet s ≡ s
    root-here = next-root (h * w) (neighbours near w) sheet (len f) (symm f) f.labels s ls passed.labelled opaque-here free

    first-here : first sheet (roots (h * w) (neighbours near w) sheet) s ≡ true
    first-here = root-is-first (h * w) (neighbours near w) sheet (len f) (symm f) s opaque-here root-here

    put_begun : Put (h * w) work s (t.regions + 1) t.taken begun
    put_begun = put_here f s (t.regions + 1) ls free

    pub begin_fits : t.taken < h * w
    begin_fits = room_left f.order s ls free

    -- the places so far are those of the regions so far
    full : end_of (h * w) work t.regions ≡ t.taken
    unfolding group_at
    full =
        let l = f.ended.limits t.regions (le_refl _) in
        elim (ℕ_discrete t.taken 0) [
          | yes z ↦ omega arith
          | no z ↦ (let i : ℕ = t.taken - 1 in
              let li : i < t.taken = omega arith in
              let k = (f.ended.ends t.regions (le_refl _) i li).0 (f.labels.most (plane (h * w) 2 work i) (f.order.placed i li).0) in
              omega arith)
        ]

    foremost_here : (k : ℕ) → k < t.regions + 1 → (k < t.regions) ⊎ ((end_of (h * w) work k ≡ t.taken) × (root (h * w) (neighbours near w) sheet s ≡ s))
    foremost_here k l =
        elim (dec_lt k t.regions) [
          | yes m ↦ inl m
          | no m ↦ (let e : k ≡ t.regions = omega arith in inr (ap (end_of (h * w) work) e ∙ full, root-here))
        ]

    begin_filled : Filled h w near begun t.regions next (Waits (h * w) begun t.taken (t.taken + 1))
    begin_filled =
        filled_put f s (t.regions + 1) ls free refl f.under (omega arith)
        (first-number (h * w) (neighbours near w) sheet (len f) (symm f) s first-here ∙ ap (λ (x : ℕ). x + 1) (sym passed.number))
        foremost_here (λ p a. absurd a) (record { at = t.taken; low = le_refl _; high = omega arith; is = put_begun.last })

    begin_flood : Flood h w near begun t.taken next
    begin_flood =
        let d : t.regions ≡ t.regions + 1 - 1 = omega arith in
        record {
          filled = subst (λ (x : ℕ). Filled h w near begun x next (Waits (h * w) begun t.taken (t.taken + 1))) d begin_filled;
          wait = λ i lo hi.
              let e : i ≡ t.taken = omega arith in
              ap (group_at (h * w) begun) e ∙ at_new put_begun ls free (omega arith) f.order (λ p lp. let l = f.labels.most p lp in omega arith);
          some = omega arith;
        }

    -- s alone waits, and what waits has its paint
    pub begin_alone : Begun h w near begun s t.taken next
    begin_alone = record {
      flood = begin_flood;
      last = refl;
      is = put_begun.last;
      before = λ p lp. labelled_since p (put_since put_begun ls free (omega arith)) (omega arith) (passed.labelled p lp);
    }

    pub begin_tint : Tinted (h * w) begun t.taken (t.taken + 1) (plane (h * w) 0 work s)
    begin_tint = record {
      alike = λ i lo hi.
          let e : i ≡ t.taken = omega arith in
          ap (λ (x : ℕ). plane (h * w) 0 begun (plane (h * w) 2 begun x)) e ∙ ap (plane (h * w) 0 begun) put_begun.last ∙ put_begun.others 0 s (λ z. omega arith) (λ z. omega arith) ls;
    }

    -- once it is whole, and its end is stored
    module _ {new : List ℕ} {r : Tally} (g : Filled h w near new (r.regions - 1) r Shut) (num : r.regions ≡ t.regions + 1) (since : Since (h * w) begun new) where
      begun-filled : Filled h w near new t.regions r Shut
      begun-filled = let d : r.regions - 1 ≡ t.regions = omega arith in subst (λ (x : ℕ). Filled h w near new x r Shut) d g

      abbrev closing : List ℕ
      closing = set new (3 * (h * w) + t.regions) r.taken

      pub closed_size : 3 * (h * w) + t.regions < length new
      closed_size = end_size begun-filled num

      pub closed_filled : Filled h w near closing r.regions r Shut
      closed_filled = end_filled begun-filled num

      pub closed_since : Since (h * w) work closing
      closed_since = since_trans (since_trans (put_since put_begun ls free (omega arith)) since) (end_since begun-filled num)

      pub closed_passed : LabelledTo h w near closing r (s + 1)
      closed_passed =
          let c : cells_of (h * w) closing ≡ sheet = sheet_kept closed_since.kept in
          record {
            labelled = λ p lp o e.
                elim (ℕ_discrete p s) [
                  | yes y ↦ (let mine : plane (h * w) 1 closing s ≡ t.regions + 1 =
                      (since_trans since (end_since begun-filled num)).given s ls (λ z. omega (arith, put_begun.mine)) ∙ put_begun.mine in
                      omega (arith, ap (plane (h * w) 1 closing) y))
                  | no n ↦ labelled_since p closed_since (omega arith) (passed.labelled p (omega arith)) o e
                ];
            number =
                num ∙ ap (λ (x : ℕ). x + 1) passed.number ∙ sym (first_next (h * w) (neighbours near w) sheet (len f) (symm f) s first-here)
                ∙ ap (λ (x : List ℤ). count (s + 1) (first x (roots (h * w) (neighbours near w) x))) (sym c);
          }

-- ---- before the first place, and after the last

module _ {h w : ℕ} {near : Neighbourhood} {work : List ℕ} (sized : Sized h w work) (blank : (p : ℕ) → p < h * w → plane (h * w) 1 work p ≡ 0) where
  pub start-filled : Filled h w near work 0 (record { regions = 0; taken = 0 }) Shut
  unfolding blanks end_of
  start-filled = record {
    sized = sized;
    labels = record {
      most = λ p lp. omega (arith, blank p lp);
      right = λ p lp nz. absurd (nz (blank p lp));
      closed = λ p q lp lq nz k. absurd (nz (blank p lp));
    };
    order = record {
      free = omega (arith, count_le (h * w) (λ p. eqb (plane (h * w) 1 work p) 0));
      placed = λ i l. absurd (not-suc-le-zero l);
      sorted = λ i j le l. absurd (not-suc-le-zero l);
      distinct = λ i j lt l. absurd (not-suc-le-zero l);
      listed = λ p lp nz. absurd (nz (blank p lp));
    };
    ended = record {
      limits = λ k l. let e : k ≡ 0 = omega arith in rw e (le_refl 0);
      ends = λ k l i li. absurd (not-suc-le-zero li);
      begun = λ k l. absurd (not-suc-le-zero l);
      foremost = λ k l. absurd (not-suc-le-zero l);
    };
    under = le_refl 0;
  }

  pub start_passed : LabelledTo h w near work (record { regions = 0; taken = 0 }) 0
  unfolding count
  start_passed = record { labelled = λ p l. absurd (not-suc-le-zero l); number = refl }

all_number : {h w : ℕ} {near : Neighbourhood} {work : List ℕ} {t : Tally} {s : ℕ} → LabelledTo h w near work t s → s ≡ h * w → t.regions ≡ regions (h * w) (neighbours near w) (cells_of (h * w) work)
unfolding regions
all_number {h = h} {w = w} {near = near} {work = work} passed e =
    passed.number ∙ ap (λ (x : ℕ). count x (first (cells_of (h * w) work) (roots (h * w) (neighbours near w) (cells_of (h * w) work)))) e

pub all_labelled : {h w : ℕ} {near : Neighbourhood} {work₀ work : List ℕ} {t : Tally} {s : ℕ} → Filled h w near work t.regions t Shut → LabelledTo h w near work t s → s ≡ h * w → PlanesKept (h * w) work₀ work →
    Labelled (neighbours near w) (cells_of (h * w) work₀) (h * w) work t.regions t.taken
all_labelled {h = h} {w = w} {near = near} {work₀ = work₀} {work = work} {t = t} f passed e kept =
    subst (λ (c : List ℤ). Labelled (neighbours near w) c (h * w) work t.regions t.taken) (sheet_kept kept) (record {
      labels = λ p lp.
          case (opaque (cells_of (h * w) work) p) (λ o. f.labels.right p lp (passed.labelled p (omega arith) o))
          (λ z. let k = clear_label (h * w) (neighbours near w) (cells_of (h * w) work) (len f) (symm f) p z in
          elim (ℕ_discrete (plane (h * w) 1 work p) 0) [ yes y ↦ y ∙ sym k | no n ↦ absurd (n (f.labels.right p lp n ∙ k)) ]);
      count = all_number passed e;
      room = omega (arith, f.order.free);
      placed = f.order.placed;
      sorted = f.order.sorted;
      distinct = f.order.distinct;
      listed = f.order.listed;
      limits = f.ended.limits;
      ends = f.ended.ends;
      foremost = f.ended.foremost;
    })
