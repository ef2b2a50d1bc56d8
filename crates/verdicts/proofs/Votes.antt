-- Cells that are asked for their vote, one after the other. Assumes nothing.
use Prim.Native.Nat.{ℕ, ◌+◌, ◌*◌, ◌≤◌, ◌<◌}
use mathlib.Core.Path.{◌≡◌, refl, sym, ◌∙◌}
use mathlib.Core.Logic.{◌⊎◌, inl, inr, ⊎_elim}
use mathlib.Core.Bool.{true, false}
use mathlib.Core.List.{List}
use Rattle.std.specs.Prelude.{Some}
use native.Mathlib.Nat.{not-suc-le-zero}
use native.Mathlib.Decide.{ℕ_discrete}
use native.Mathlib.Omega.{arith}
use borrow.Author.Tests.{eq-eqb, ne_eqb}
use lib.Dec.{eqb}
use lib.ListN.{length, get_or, set, length-set, replicate, length-replicate, get_or-replicate}
use lib.Seq.{get_or-set_same, get_or-set_other}
use Rattle.base.specs.Places.{count}
use Rattle.base.proofs.Counting.{clash, left, eqb_yes, yes_eqb, count_same, count_insert, count_le, count_none}
use Rattle.grid.specs.declared.Grid.{Grid}
use Rattle.grid.specs.Planes.{plane}
use Rattle.grid.specs.Steps.{steps_of}
use Rattle.grid.proofs.Places.{hop, neighbours-sound, neighbours_complete}
use Rattle.grid.proofs.Planes.{plane_read, plane-same, plane_else, plane_other}
use Rattle.verdicts.specs.Steps.{area_of, adjoins}
use Rattle.verdicts.specs.Groups.{CanVote}
use Rattle.verdicts.specs.Polling.{ballot, Tallied, MarksOnly, Polled, Beside}
use Rattle.verdicts.proofs.Spans.{within_more, more_within}

-- a count is at most the number of cells
pub tally_le : {n m : ℕ} {work counts : List ℕ} → Tallied n work m counts → (c : ℕ) → c < 256 → get_or counts c 0 ≤ n
tally_le {n = n} t c l = rw (t.votes c l) (count_le n _)

-- what is read at a large cell: the paint of an index below 256
pub record Voter (n q : ℕ) (a : List ℕ) : Type 0 where
  pub large : plane n 5 a q ≡ 0 → ⊥
  pub is : get_or a q 0 ≡ plane n 0 a q
  pub some : 1 ≤ get_or a q 0
  pub most : get_or a q 0 ≤ 256

pub voter : {n q : ℕ} {a : List ℕ} → CanVote n a → q < n → (get_or a (5 * n + q) 0 ≡ 0 → ⊥) → Voter n q a
voter {n} {q} {a} can l z =
    let large : plane n 5 a q ≡ 0 → ⊥ = (λ e. z (plane_read n 5 q (5 * n + q) a refl ∙ e)) in
    let is : get_or a q 0 ≡ plane n 0 a q = plane_read n 0 q q a (omega arith) in
    record { large = large; is = is; some = rw is (can.large q l large); most = rw is (can.paint q l) }

-- ---- what a poll keeps

pub kept_none : (n : ℕ) (a : List ℕ) → MarksOnly n a a
kept_none n a = record { len = refl; same = λ j q l h. refl }

pub kept_and : {n : ℕ} {a b c : List ℕ} → MarksOnly n a b → MarksOnly n b c → MarksOnly n a c
kept_and u v = record { len = v.len ∙ u.len; same = λ j q l h. v.same j q l h ∙ u.same j q l h }

kept_store : (n p i v : ℕ) (a : List ℕ) → i ≡ 5 * n + p → p < n → MarksOnly n a (set a i v)
kept_store n p i v a e h = record { len = length-set a i v; same = λ k q z lq. plane_other n 5 p i a v e k q z h lq }

-- a place is large after a poll exactly if it was
module _ {n m : ℕ} {A : ℕ → Type 0} {a b counts : List ℕ} (some : m ≡ 0 → ⊥) (u : Polled n m A a b counts) where
  pub large_then : (q : ℕ) → q < n → (plane n 5 a q ≡ 0 → ⊥) → plane n 5 b q ≡ 0 → ⊥
  large_then q h z e = ⊎_elim (λ f. z (sym f ∙ e)) (λ f. some (sym f.0 ∙ e)) (u.marks q h)

  pub large_was : (q : ℕ) → q < n → (plane n 5 b q ≡ 0 → ⊥) → plane n 5 a q ≡ 0 → ⊥
  large_was q h z e = ⊎_elim (λ f. z (f ∙ e)) (λ f. f.2 e) (u.marks q h)

-- ---- who is asked

module _ (n m : ℕ) (nonzero : m ≡ 0 → ⊥) where
  -- whoever is asked has no vote or has voted
  pub polled_still : {A : ℕ → Type 0} (a counts : List ℕ) → Tallied n a m counts → ((q : ℕ) → q < n → A q → (plane n 5 a q ≡ 0 → ⊥) → plane n 5 a q ≡ m) → Polled n m A a a counts
  polled_still a counts t f = record {
    kept = kept_none n a;
    tally = t;
    stays = λ q h e. e;
    marks = λ q h. inl refl;
    voted = f;
  }

  -- nobody is asked
  pub polled_none : (a counts : List ℕ) → Tallied n a m counts → Polled n m (λ q. ⊥) a a counts
  polled_none a counts t = polled_still a counts t (λ q h z. absurd z)

  -- these are asked, and then those
  pub polled_and : {A B : ℕ → Type 0} {a b c : List ℕ} (counts counts' : List ℕ) → Polled n m A a b counts → Polled n m B b c counts' → Polled n m (λ q. A q ⊎ B q) a c counts'
  polled_and {A} {B} {a} {b} {c} counts counts' u v = record {
    kept = kept_and u.kept v.kept;
    tally = v.tally;
    stays = λ q h e. v.stays q h (u.stays q h e);
    marks = λ q h. ⊎_elim
        (λ e. ⊎_elim (λ f. inl (e ∙ f)) (λ f. inr (e ∙ f.0, inl f.1, f.2)) (u.marks q h))
        (λ e. inr (e.0, inr e.1, large_was nonzero u q h e.2)) (v.marks q h);
    voted = λ q h y big. ⊎_elim (λ x. v.stays q h (u.voted q h x big)) (λ x. v.voted q h x (large_then nonzero u q h big)) y;
  }

  -- the same cells, said otherwise
  pub polled_same : {A B : ℕ → Type 0} {a b counts : List ℕ} → ((q : ℕ) → q < n → A q → B q) → ((q : ℕ) → q < n → B q → A q) → Polled n m A a b counts → Polled n m B a b counts
  polled_same f g u = record {
    kept = u.kept;
    tally = u.tally;
    stays = u.stays;
    marks = λ q h. ⊎_elim inl (λ e. inr (e.0, f q h e.1, e.2)) (u.marks q h);
    voted = λ q h y. u.voted q h (g q h y);
  }

  module _ (q : ℕ) (lq : q < n) (a counts : List ℕ) (t : Tallied n a m counts) where
    -- q is asked, and has no vote or has voted
    pub polled_silent : ((plane n 5 a q ≡ 0 → ⊥) → plane n 5 a q ≡ m) → Polled n m (λ x. x ≡ q) a a counts
    polled_silent f = polled_still a counts t (λ x h e b. rw e (f (rw e at b)))

    -- q is asked, and votes for c
    module _ (c i : ℕ) (e : i ≡ 5 * n + q) (li : i < length a) (large : (plane n 5 a q ≡ 0 → ⊥)) (free : plane n 5 a q ≡ m → ⊥)
        (is : plane n 0 a q ≡ c + 1) (lc : c < 256) where
      abbrev after : List ℕ
      after = set a i m

      abbrev more : List ℕ
      more = set counts c (get_or counts c 0 + 1)

      kept : MarksOnly n a after
      kept = kept_store n q i m a e lq

      here : plane n 5 after q ≡ m
      here = plane-same n 5 q i a m e li

      there : (x : ℕ) → (x ≡ q → ⊥) → plane n 5 after x ≡ plane n 5 a x
      there x z = plane_else n 5 q i a m e x z

      ballot_there : (d x : ℕ) → x < n → (x ≡ q → ⊥) → ballot n after m d x ≡ ballot n a m d x
      unfolding ballot
      ballot_there d x h z = rw (there x z, kept.same 0 x (λ z. absurd (omega arith)) h)

      ballot_was : (d : ℕ) → ballot n a m d q ≡ false
      unfolding ballot
      ballot_was d = rw (ne_eqb (plane n 5 a q) m free)

      ballot-is : (d : ℕ) → ballot n after m d q ≡ eqb (c + 1) (d + 1)
      unfolding ballot
      ballot-is d = rw (eq-eqb (plane n 5 after q) m here, kept.same 0 q (λ z. absurd (omega arith)) lq, is)

      counted : (d : ℕ) → d < 256 → get_or more d 0 ≡ count n (ballot n after m d)
      counted d l = elim (ℕ_discrete d c) [ yes y ↦ one y | no z ↦ none z ]
        where
          one : d ≡ c → get_or more d 0 ≡ count n (ballot n after m d)
          one y =
              let s : get_or more d 0 ≡ get_or counts d 0 + 1 = rw y (get_or-set_same counts c (get_or counts c 0 + 1) 0 (omega (arith, t.size))) in
              let k = count_insert n (ballot n a m d) (ballot n after m d) q lq (λ x h z. ballot_there d x h z) (ballot_was d) (ballot-is d ∙ yes_eqb {m = c + 1} {n = d + 1} (omega arith)) in
              omega (arith, t.votes d l)

          none : (d ≡ c → ⊥) → get_or more d 0 ≡ count n (ballot n after m d)
          none z =
              let k : (x : ℕ) → x < n → ballot n after m d x ≡ ballot n a m d x =
              (λ x h. elim (ℕ_discrete x q) [ yes y ↦ (rw y (ballot-is d ∙ ne_eqb (c + 1) (d + 1) (λ u. z (omega arith)) ∙ sym (ballot_was d))) | no y ↦ ballot_there d x h y ]) in
              get_or-set_other counts c d (get_or counts c 0 + 1) 0 z
              ∙ t.votes d l
              ∙ count_same n (ballot n a m d) (ballot n after m d) (λ x h y. k x h ∙ y) (λ x h y. sym (k x h) ∙ y)

      pub polled_cast : Polled n m (λ x. x ≡ q) a after more
      polled_cast = record {
        kept = kept;
        tally = record { size = length-set counts c (get_or counts c 0 + 1) ∙ t.size; votes = counted };
        stays = λ x h y. elim (ℕ_discrete x q) [ yes z ↦ absurd (free (rw z at y)) | no z ↦ there x z ∙ y ];
        marks = λ x h. elim (ℕ_discrete x q) [ yes z ↦ inr (rw z here, z, rw z large) | no z ↦ inl (there x z) ];
        voted = λ x h y b. rw y here;
      }

-- ---- the neighbours of a place, step by step

-- one of the first k steps from p leads to q
abbrev pub Reached : Grid → ℕ → ℕ → ℕ → Type 0
Reached grid p k q = (i : ℕ) × (i < k) × (hop grid.h grid.w p i ≡ Some q)

module _ (grid : Grid) (p k : ℕ) {q : ℕ} where
  -- one step more
  pub reached_more : Reached grid p (k + 1) q → Reached grid p k q ⊎ (hop grid.h grid.w p k ≡ Some q)
  reached_more z = elim (ℕ_discrete z.0 k) [ yes e ↦ inr (rw e at z.2) | no d ↦ inl (z.0, omega (arith, z.1), z.2) ]

  pub more_reached : Reached grid p k q ⊎ (hop grid.h grid.w p k ≡ Some q) → Reached grid p (k + 1) q
  more_reached = ⊎_elim (λ z. (z.0, omega (arith, z.1), z.2)) (λ z. (k, omega arith, z))

  -- all steps lead to the neighbours
  pub reached_all : k ≤ steps_of grid.near → Reached grid p k q → adjoins grid p q ≡ true
  reached_all l z = neighbours-sound grid.near grid.h grid.w p z.0 q (omega (arith, z.1)) z.2

  pub all_reached : steps_of grid.near ≤ k → q < area_of grid → adjoins grid p q ≡ true → Reached grid p k q
  all_reached l b y = let z = neighbours_complete grid.near grid.h grid.w p q b y in (z.0, omega (arith, z.1), z.2)

module _ (grid : Grid) (m p : ℕ) (nonzero : m ≡ 0 → ⊥) where
  pub reach-start : (a counts : List ℕ) → Tallied (area_of grid) a m counts → Polled (area_of grid) m (Reached grid p 0) a a counts
  reach-start a counts t =
      polled_same (area_of grid) m nonzero (λ q l z. absurd z) (λ q l z. absurd (not-suc-le-zero z.1)) (polled_none (area_of grid) m nonzero a counts t)

  pub reach-on : {a b c : List ℕ} (counts counts' : List ℕ) (k : ℕ) → Polled (area_of grid) m (Reached grid p k) a b counts → Polled (area_of grid) m (λ q. hop grid.h grid.w p k ≡ Some q) b c counts' → Polled (area_of grid) m (Reached grid p (k + 1)) a c counts'
  reach-on counts counts' k u v = polled_same (area_of grid) m nonzero (λ q l. more_reached grid p k) (λ q l. reached_more grid p k) (polled_and (area_of grid) m nonzero counts counts' u v)

  pub reach_all : {a b counts : List ℕ} (k : ℕ) → steps_of grid.near ≡ k → Polled (area_of grid) m (Reached grid p k) a b counts → Polled (area_of grid) m (λ q. adjoins grid p q ≡ true) a b counts
  reach_all k e u = polled_same (area_of grid) m nonzero (λ q l. reached_all grid p k (omega arith)) (λ q l. all_reached grid p k (omega arith) l) u

-- ---- the neighbours of the places of a run, place by place

module _ (grid : Grid) (m from : ℕ) (nonzero : m ≡ 0 → ⊥) where
  pub beside_start : (a counts : List ℕ) → Tallied (area_of grid) a m counts → Polled (area_of grid) m (Beside grid a from from) a a counts
  beside_start a counts t =
      polled_same (area_of grid) m nonzero (λ q l z. absurd z) (λ q l z. absurd (omega (arith, z.1, z.2))) (polled_none (area_of grid) m nonzero a counts t)

  pub beside_on : {a b c : List ℕ} (counts counts' : List ℕ) (to p : ℕ) → from ≤ to → p ≡ plane (area_of grid) 2 a to → Polled (area_of grid) m (Beside grid a from to) a b counts → Polled (area_of grid) m (λ q. adjoins grid p q ≡ true) b c counts' → Polled (area_of grid) m (Beside grid a from (to + 1)) a c counts'
  beside_on counts counts' to p le e u v =
      polled_same (area_of grid) m nonzero (λ q l z. more_within le z) (λ q l z. within_more z) (polled_and (area_of grid) m nonzero counts counts' u (rw e at v))

-- ---- before the first vote

pub tally_new : (n m : ℕ) (a : List ℕ) → ((q : ℕ) → q < n → plane n 5 a q ≡ m → ⊥) → Tallied n a m (replicate 256 0)
unfolding ballot
tally_new n m a fresh = record {
  size = length-replicate {A = ℕ} 256 0;
  votes = λ c l. get_or-replicate 256 c 0 0 l ∙ sym (count_same n (ballot n a m c) (λ q. false)
      (λ q h y. absurd (fresh q h (eqb_yes (left (eqb (plane n 5 a q) m) (eqb (plane n 0 a q) (c + 1)) y))))
      (λ q h y. clash y refl) ∙ count_none n);
}
