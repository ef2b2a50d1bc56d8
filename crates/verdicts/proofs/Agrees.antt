-- Where all large cells beside a region have one paint, that is the index of every vote on it. Assumes nothing.
use Prim.Native.Nat.{ℕ, zero, suc, ◌+◌, ◌-◌, ◌*◌, ◌≤◌, ◌<◌}
use mathlib.Core.Path.{◌≡◌, refl, sym, ap, ◌∙◌}
use mathlib.Core.Logic.{◌⊎◌, inl, inr, ⊎_elim}
use mathlib.Core.List.{List}
use Rattle.std.specs.Prelude.{Option, None, Some}
use native.Mathlib.Nat.{not-suc-le-zero, lt-suc_self, le_step}
use native.Mathlib.Numerals.{add-one}
use native.Mathlib.Decide.{ℕ_discrete}
use native.Mathlib.Omega.{arith}
use borrow.Author.Tests.{eq-eqb, ne_eqb}
use lib.Dec.{eqb}
use lib.ListN.{get_or}
use Rattle.base.proofs.Counting.{case}
use Rattle.grid.specs.declared.Grid.{Grid}
use Rattle.grid.specs.Planes.{plane}
use Rattle.grid.specs.Steps.{steps_of}
use Rattle.grid.proofs.Planes.{plane_read}
use Rattle.grid.proofs.Places.{hop, some_inj, none_some, hop_in, neighbours-sound, neighbours_complete}
use Rattle.verdicts.specs.Steps.{area_of}
use Rattle.verdicts.specs.Groups.{GroupedSheet}
use Rattle.verdicts.specs.Polling.{Beside}
use Rattle.verdicts.specs.Judging.{Indexed}
use Rattle.verdicts.specs.declared.agreeing.Agreement.{Agreement}
use Rattle.verdicts.specs.declared.agreeing.Agreement.TheVariants.{Silent, One, Several}
use Rattle.verdicts.specs.Agreeing.{with_paint, asked_step, asked_beside, asked_around, one_paint}

-- ---- a step

-- it finds no cell
pub asked-none : (n : ℕ) (work : List ℕ) (t : Agreement) {o : Option ℕ} → o ≡ None → t ≡ asked_step n work o t
unfolding asked_step
asked-none n work t e = rw e

-- it finds the cell q
module _ (n q : ℕ) (work : List ℕ) (t : Agreement) {o : Option ℕ} (found : o ≡ Some q) where
  pub asked-small : get_or work (5 * n + q) 0 ≡ 0 → t ≡ asked_step n work o t
  unfolding asked_step
  asked-small e = rw (found, eq-eqb (plane n 5 work q) 0 (sym (plane_read n 5 q (5 * n + q) work refl) ∙ e))

  pub asked-large : (get_or work (5 * n + q) 0 ≡ 0 → ⊥) → with_paint t (get_or work q 0) ≡ asked_step n work o t
  unfolding asked_step
  asked-large z = rw (found, ne_eqb (plane n 5 work q) 0 (λ y. z (plane_read n 5 q (5 * n + q) work refl ∙ y))) (ap (with_paint t) (plane_read n 0 q q work (omega arith)))

-- ---- a turn of the loops

pub beside_more : (grid : Grid) (work : List ℕ) (p k : ℕ) (t : Agreement) → asked_step (area_of grid) work (hop grid.h grid.w p k) (asked_beside grid work p k t) ≡ asked_beside grid work p (k + 1) t
unfolding asked_beside
beside_more grid work p k t = rw (add-one k)

pub around_more : (grid : Grid) (work : List ℕ) (from k : ℕ) → asked_beside grid work (plane (area_of grid) 2 work (from + k)) (steps_of grid.near) (asked_around grid work from k) ≡ asked_around grid work from (k + 1)
unfolding asked_around
around_more grid work from k = rw (add-one k)

-- several stay several
several-asked : (n : ℕ) (work : List ℕ) (o : Option ℕ) → asked_step n work o Several ≡ Several
unfolding asked_step with_paint
several-asked n work None = refl
several-asked n work (Some q) = case (eqb (plane n 5 work q) 0) (λ y. rw y) (λ y. rw y)

several-beside : (grid : Grid) (work : List ℕ) (p k : ℕ) → asked_beside grid work p k Several ≡ Several
unfolding asked_beside
several-beside grid work p zero = refl
several-beside grid work p (suc k) = ap (asked_step (area_of grid) work (hop grid.h grid.w p k)) (several-beside grid work p k) ∙ several-asked (area_of grid) work (hop grid.h grid.w p k)

pub several-further : (grid : Grid) (work : List ℕ) (p k m : ℕ) (t : Agreement) → k ≤ m → Several ≡ asked_beside grid work p k t → Several ≡ asked_beside grid work p m t
unfolding asked_beside
several-further grid work p k zero t l e = let z : k ≡ 0 = omega arith in rw z at e
several-further grid work p k (suc m) t l e =
    elim (ℕ_discrete k (suc m)) [
      | yes z ↦ rw z at e
      | no d ↦ sym (several-asked (area_of grid) work (hop grid.h grid.w p m)) ∙ ap (asked_step (area_of grid) work (hop grid.h grid.w p m)) (several-further grid work p k m t (omega arith) e)
    ]

pub several-around : (grid : Grid) (work : List ℕ) (from k m : ℕ) → k ≤ m → Several ≡ asked_around grid work from k → Several ≡ asked_around grid work from m
unfolding asked_around
several-around grid work from k zero l e = let z : k ≡ 0 = omega arith in rw z at e
several-around grid work from k (suc m) l e =
    elim (ℕ_discrete k (suc m)) [
      | yes z ↦ rw z at e
      | no d ↦ sym (several-beside grid work (plane (area_of grid) 2 work (from + m)) (steps_of grid.near)) ∙ ap (asked_beside grid work (plane (area_of grid) 2 work (from + m)) (steps_of grid.near)) (several-around grid work from k m (omega arith) e)
    ]

-- ---- what the paint says

-- What the places that A names have: none is large; all large ones have that paint, and one is; or nothing is said
pub data Agrees (n : ℕ) (a : List ℕ) (A : ℕ → Type 0) : Agreement → Type 0 where
  silent : ((q : ℕ) → A q → plane n 5 a q ≡ 0) → Agrees n a A Silent
  one : {t : ℕ} (q : ℕ) → A q → (plane n 5 a q ≡ 0 → ⊥) → ((p : ℕ) → A p → (plane n 5 a p ≡ 0 → ⊥) → plane n 0 a p ≡ t) → Agrees n a A (One t)
  several : Agrees n a A Several

module _ (n : ℕ) (a : List ℕ) where
  agrees_none : Agrees n a (λ q. ⊥) Silent
  agrees_none = silent (λ q z. absurd z)

  agrees_as : {A B : ℕ → Type 0} {t : Agreement} → ((q : ℕ) → A q → B q) → ((q : ℕ) → B q → A q) → Agrees n a A t → Agrees n a B t
  agrees_as f g (silent u) = silent (λ q y. u q (g q y))
  agrees_as f g (one q y l u) = one q (f q y) l (λ p x. u p (g p x))
  agrees_as f g several = several

  -- one more place is asked, which is not large
  agrees-small : {A : ℕ → Type 0} {t : Agreement} (p : ℕ) → plane n 5 a p ≡ 0 → Agrees n a A t → Agrees n a (λ q. A q ⊎ (q ≡ p)) t
  agrees-small p e (silent u) = silent (λ q. ⊎_elim (u q) (λ y. rw y e))
  agrees-small p e (one q y l u) = one q (inl y) l (λ x. ⊎_elim (u x) (λ z m. absurd (m (rw z e))))
  agrees-small p e several = several

  -- or is large
  agrees-large : {A : ℕ → Type 0} {t : Agreement} (p : ℕ) → (plane n 5 a p ≡ 0 → ⊥) → Agrees n a A t → Agrees n a (λ q. A q ⊎ (q ≡ p)) (with_paint t (plane n 0 a p))
  unfolding with_paint
  agrees-large p l (silent u) = one p (inr refl) l (λ x. ⊎_elim (λ y m. absurd (m (u x y))) (λ y m. rw y))
  agrees-large p l (one {t} q y m u) =
      elim (ℕ_discrete t (plane n 0 a p)) [
        | yes e ↦ rw (eq-eqb t (plane n 0 a p) e) (one p (inr refl) l (λ x. ⊎_elim (λ z w. u x z w ∙ e) (λ z w. rw z)))
        | no f ↦ rw (ne_eqb t (plane n 0 a p) f) several
      ]
  agrees-large p l several = several

  agrees_step : {A : ℕ → Type 0} {t : Agreement} (o : Option ℕ) → Agrees n a A t → Agrees n a (λ q. A q ⊎ (o ≡ Some q)) (asked_step n a o t)
  unfolding asked_step
  agrees_step None u = agrees_as (λ q. inl) (λ q. ⊎_elim (λ y. y) (λ y. absurd (none_some y))) u
  agrees_step (Some p) u =
      agrees_as (λ q. ⊎_elim inl (λ y. inr (ap (λ (x : ℕ). Some x) (sym y)))) (λ q. ⊎_elim inl (λ y. inr (sym (some_inj y))))
      (elim (ℕ_discrete (plane n 5 a p) 0) [ yes e ↦ rw (eq-eqb (plane n 5 a p) 0 e) (agrees-small p e u) | no d ↦ rw (ne_eqb (plane n 5 a p) 0 d) (agrees-large p d u) ])

-- the paint that is told is that of every large neighbour of the run from `from` on and before `to`, and there is one
pub record OnePaint (grid : Grid) (a : List ℕ) (from to v : ℕ) : Type 0 where
  pub place : ℕ
  pub bound : place < area_of grid
  pub beside : Beside grid a from to place
  pub big : plane (area_of grid) 5 a place ≡ 0 → ⊥
  pub same : (q : ℕ) → q < area_of grid → Beside grid a from to q → (plane (area_of grid) 5 a q ≡ 0 → ⊥) → plane (area_of grid) 0 a q ≡ v

-- it is a paint of some index in use
pub one_some : {grid : Grid} {a : List ℕ} {from to v : ℕ} → GroupedSheet grid a → OnePaint grid a from to v → 1 ≤ v
one_some sheet u = rw (← u.same u.place u.bound u.beside u.big) (sheet.large u.place u.bound u.big)

pub one_most : {grid : Grid} {a : List ℕ} {k from to v : ℕ} → Indexed (area_of grid) k a → OnePaint grid a from to v → v ≤ k
one_most known u = rw (← u.same u.place u.bound u.beside u.big) (known.below u.place u.bound)

module _ (grid : Grid) (a : List ℕ) (sheet : GroupedSheet grid a) where
  abbrev n : ℕ
  n = area_of grid

  abbrev h : ℕ
  h = grid.h

  abbrev w : ℕ
  w = grid.w

  abbrev steps : ℕ
  steps = steps_of grid.near

  -- a place, step by step
  agrees_beside : {A : ℕ → Type 0} {t : Agreement} (p k : ℕ) → Agrees n a A t → Agrees n a (λ q. A q ⊎ ((i : ℕ) × (i < k) × (hop h w p i ≡ Some q))) (asked_beside grid a p k t)
  unfolding asked_beside
  agrees_beside p zero u = agrees_as n a (λ q. inl) (λ q. ⊎_elim (λ y. y) (λ y. absurd (not-suc-le-zero y.1))) u
  agrees_beside p (suc k) u =
      agrees_as n a
      (λ q. ⊎_elim (⊎_elim inl (λ y. inr (y.0, le_step y.1, y.2))) (λ y. inr (k, lt-suc_self k, y)))
      (λ q. ⊎_elim (λ y. inl (inl y)) (λ y. elim (ℕ_discrete y.0 k) [ yes e ↦ inr (rw e at y.2) | no d ↦ inl (inr (y.0, omega (arith, y.1), y.2)) ]))
      (agrees_step n a (hop h w p k) (agrees_beside p k u))

  -- the places of a run, one by one
  agrees-around : (from many : ℕ) → Agrees n a (λ q. (j : ℕ) × (j < many) × (i : ℕ) × (i < steps) × (hop h w (plane n 2 a (from + j)) i ≡ Some q)) (asked_around grid a from many)
  unfolding asked_around
  agrees-around from zero = agrees_as n a (λ q z. absurd z) (λ q z. absurd (not-suc-le-zero z.1)) (agrees_none n a)
  agrees-around from (suc many) =
      agrees_as n a
      (λ q. ⊎_elim (λ y. (y.0, le_step y.1, y.2, y.3, y.4)) (λ y. (many, lt-suc_self many, y.0, y.1, y.2)))
      (λ q y. elim (ℕ_discrete y.0 many) [ yes e ↦ inr (y.2, y.3, rw e at y.4) | no d ↦ inl (y.0, omega (arith, y.1), y.2, y.3, y.4) ])
      (agrees_beside (plane n 2 a (from + many)) steps (agrees-around from many))

  told : (from to v : ℕ) (t : Agreement) → from ≤ to → Agrees n a (λ q. (j : ℕ) × (j < to - from) × (i : ℕ) × (i < steps) × (hop h w (plane n 2 a (from + j)) i ≡ Some q)) t → Some v ≡ one_paint t → OnePaint grid a from to v
  unfolding one_paint
  told from to v Silent le u e = absurd cc
  told from to v Several le u e = absurd cc
  told from to v (One t) le (one q p big same) e =
      let f : v ≡ t = cc in
      record {
        place = q;
        bound = hop_in h w (plane n 2 a (from + p.0)) p.2 q p.4;
        beside = (from + p.0, omega arith, omega (arith, p.1), neighbours-sound grid.near h w (plane n 2 a (from + p.0)) p.2 q p.3 p.4);
        big = big;
        same = λ x l b y. let s = neighbours_complete grid.near h w (plane n 2 a b.0) x l b.3 in
            let i : from + (b.0 - from) ≡ b.0 = omega (arith, b.1) in
            same x (b.0 - from, omega (arith, b.1, b.2), s.0, s.1, rw i s.2) y ∙ sym f;
      }

  pub one_paint_lem : (from to v : ℕ) → from ≤ to → Some v ≡ one_paint (asked_around grid a from (to - from)) → OnePaint grid a from to v
  one_paint_lem from to v le e = told from to v (asked_around grid a from (to - from)) le (agrees-around from (to - from)) e
