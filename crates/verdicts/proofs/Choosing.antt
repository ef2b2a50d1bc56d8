-- The choice among indices, step by step as the code makes it, and that it is the rules' choice. Assumes nothing.
use Prim.Native.Nat.{ℕ, zero, suc, ◌+◌, ◌≤◌, ◌<◌, max, zero-le}
use mathlib.Core.Path.{◌≡◌, refl, sym, ap, ◌∙◌, subst}
use mathlib.Core.Logic.{⊎_elim}
use mathlib.Core.Bool.{Bool, true, false, ◌&&◌, cond}
use mathlib.Core.List.{List}
use Rattle.std.specs.Prelude.{Option, None, Some}
use native.Mathlib.Nat.{le_antisymm, le_refl, le_step}
use native.Mathlib.Numerals.{add-one}
use native.Mathlib.Decide.{ℕ_discrete}
use native.Mathlib.Omega.{arith}
use borrow.Author.Tests.{eq-eqb, ne_eqb}
use lib.Dec.{eqb, ltb}
use lib.Ieee.{Float, lt}
use lib.IntN.{ℤ}
use lib.ListN.{length, take, get_or, replicate, get_or-replicate}
use Rattle.std.proofs.lemmas.Grind.{common_steps}
use Rattle.base.specs.Places.{greatest}
use Rattle.base.proofs.Counting.{case, clash, left, right, both, same_test, eqb_yes, yes_eqb, leb_yes, yes_leb, no_leb, count_some, count_yes, greatest_above, greatest-is}
use Rattle.color.specs.declared.least.Least.{Least}
use Rattle.color.specs.Least.{lowered}
use Rattle.rules.specs.Palette.{first_least}
use Rattle.rules.specs.Regions.{at, index}
use Rattle.rules.specs.Pass.{Rule, marked, votes, most, frequent, judged}
use Rattle.verdicts.specs.declared.target.Verdict.TheVariants.{Stays}
use Rattle.verdicts.specs.Targets.{peak, candidate, nearest, verdict_on, as_number, decision, by_votes}
use Rattle.verdicts.specs.Judging.{fate_number}

-- ---- the loops

module _ (counts : List ℕ) where
  pub peak-start : 0 ≡ peak counts 0
  unfolding peak greatest
  peak-start = refl

  pub peak-more : (c b v : ℕ) → b ≡ peak counts c → v ≡ get_or counts c 0 → max b v ≡ peak counts (c + 1)
  unfolding peak greatest
  peak-more c b v e f = rw (add-one c, f) (omega (arith, e))

  -- what is read of the first k counts
  pub first-counts : (k i : ℕ) → i < length (take k counts) → get_or (take k counts) i 0 ≡ get_or counts i 0
  first-counts k i l = grind (arith, common_steps)

module _ (far : ℕ → Float) (counts : List ℕ) (m : ℕ) where
  pub nearest-start : None ≡ nearest far counts m 0
  unfolding nearest
  nearest-start = refl

  pub nearest-more : (c : ℕ) (t : Option Least) → t ≡ nearest far counts m c → get_or counts c 0 ≡ m → Some (lowered t (candidate c (far c))) ≡ nearest far counts m (c + 1)
  unfolding nearest
  nearest-more c t e y = rw (add-one c, eq-eqb (get_or counts c 0) m y, e)

  pub nearest-same : (c : ℕ) (t : Option Least) → t ≡ nearest far counts m c → (get_or counts c 0 ≡ m → ⊥) → t ≡ nearest far counts m (c + 1)
  unfolding nearest
  nearest-same c t e z = rw (add-one c, ne_eqb (get_or counts c 0) m z) e

  nearer-below : (t : Option Least) (c : ℕ) (d : Float) → ((x : Least) → t ≡ Some x → x.at < c) → (lowered t (candidate c d)).at < suc c
  unfolding lowered candidate
  nearer-below None c d f = omega arith
  nearer-below (Some x) c d f = case (lt d x.value) (λ u. rw u (omega arith)) (λ u. rw u (le_step (f x refl)))

  pub nearest-below : (k : ℕ) (b : Least) → nearest far counts m k ≡ Some b → b.at < k
  unfolding nearest
  nearest-below zero b e = absurd (cc)
  nearest-below (suc k) b e =
      case (eqb (get_or counts k 0) m)
      (λ y. let z : lowered (nearest far counts m k) (candidate k (far k)) ≡ b = (let h : Some (lowered (nearest far counts m k) (candidate k (far k))) ≡ Some b = rw y at e in cc) in
      rw (← z) (nearer-below (nearest far counts m k) k (far k) (λ x h. nearest-below k x h)))
      (λ z. le_step (nearest-below k b (rw z at e)))

module _ (far : ℕ → Float) (counts : List ℕ) (k m : ℕ) (reach : Float) (e : m ≡ peak counts k) where
  pub by_votes_none : m ≡ 0 → Stays ≡ by_votes far counts k reach
  unfolding by_votes
  by_votes_none z = rw (eq-eqb (peak counts k) 0 (sym e ∙ z))

  pub by_votes_some : (m ≡ 0 → ⊥) → (t : Option Least) → t ≡ nearest far counts m k → decision t reach ≡ by_votes far counts k reach
  unfolding by_votes
  by_votes_some z t h =
      rw (ne_eqb (peak counts k) 0 (λ y. z (e ∙ y)))
      (ap (λ (x : Option Least). decision x reach) h ∙ ap (λ (x : ℕ). decision (nearest far counts x k) reach) e)

-- before the first vote no index has any
pub peak_none : (k : ℕ) → k ≤ 256 → 0 ≡ peak (replicate 256 0) k
unfolding peak
peak_none k l =
    ⊎_elim sym (λ w. sym (w.3 ∙ get_or-replicate 256 w.0 0 0 (omega (arith, w.1))))
    (greatest-is k (λ c. true) (λ c. get_or (replicate 256 0) c 0))

pub decision_none : (reach : Float) → Stays ≡ decision None reach
unfolding decision
decision_none reach = refl

-- ---- the rules' choice

-- a target of the rules with its distance
as_target : (ℕ → Float) → Option ℕ → Option Least
as_target far None = None
as_target far (Some c) = Some (candidate c (far c))

module _ (rule : Rule) (cells : List ℤ) (voters : List Bool) (own : ℕ) (counts : List ℕ) (k : ℕ)
    (tallied : (c : ℕ) → c < k → get_or counts c 0 ≡ votes rule cells voters c)
    (known : (q : ℕ) → q < rule.places → marked voters q ≡ true → index (at cells q) < k) where
  abbrev far : ℕ → Float
  far = rule.dist own

  -- the target among the indices below j
  abbrev below : ℕ → Option ℕ
  below j = first_least (frequent rule cells voters) far j

  voted : (c : ℕ) → 0 < votes rule cells voters c → votes rule cells voters c ≤ most rule cells voters
  unfolding votes most
  voted c h =
      let w = count_yes rule.places (λ q. marked voters q && eqb (index (at cells q)) c) h in
      let y = left (marked voters w.0) (eqb (index (at cells w.0)) c) w.2 in
      let e : index (at cells w.0) ≡ c = eqb_yes (right (marked voters w.0) (eqb (index (at cells w.0)) c) w.2) in
      subst (λ (x : ℕ). votes rule cells voters x ≤ most rule cells voters) e
      (greatest_above rule.places (marked voters) (λ q. votes rule cells voters (index (at cells q))) w.0 w.1 y)

  peak-most : peak counts k ≡ most rule cells voters
  unfolding peak most
  peak-most = le_antisymm up down
    where
      up : greatest k (λ c. true) (λ c. get_or counts c 0) ≤ most rule cells voters
      up =
          ⊎_elim (λ z. rw z zero-le)
          (λ w. let e = tallied w.0 w.1 in
          case (ltb 0 (votes rule cells voters w.0))
          (λ y. let l = voted w.0 (leb_yes {m = 1} y) in omega (arith, w.3))
          (λ y. let l = no_leb {m = 1} {n = votes rule cells voters w.0} y in omega (arith, w.3)))
          (greatest-is k (λ c. true) (λ c. get_or counts c 0))

      down : most rule cells voters ≤ greatest k (λ c. true) (λ c. get_or counts c 0)
      down =
          ⊎_elim (λ z. rw z zero-le)
          (λ w. let l = known w.0 w.1 w.2 in
          let e = tallied (index (at cells w.0)) l in
          let g = greatest_above k (λ c. true) (λ c. get_or counts c 0) (index (at cells w.0)) l refl in
          omega (arith, w.3))
          (greatest-is rule.places (marked voters) (λ q. votes rule cells voters (index (at cells q))))

  choose_nearer : (b : Bool) (c : ℕ) (o : Option ℕ) → cond b (Some (lowered (as_target far o) (candidate c (far c)))) (as_target far o) ≡ as_target far (cond b (elim o [ None ↦ Some c | Some i ↦ Some (cond (lt (far c) (far i)) c i) ]) o)
  unfolding lowered candidate as_target
  choose_nearer false c o = refl
  choose_nearer true c None = refl
  choose_nearer true c (Some b) = case (lt (far c) (far b)) (λ y. rw y) (λ z. rw z)

  frequent-is : (most rule cells voters ≡ 0 → ⊥) → (c : ℕ) → eqb (votes rule cells voters c) (most rule cells voters) ≡ frequent rule cells voters c
  unfolding frequent
  frequent-is z c =
      same_test
      (λ y. both (yes_leb {m = 1} {n = votes rule cells voters c} (let e : votes rule cells voters c ≡ most rule cells voters = eqb_yes y in omega arith)) y)
      (λ y. right (ltb 0 (votes rule cells voters c)) (eqb (votes rule cells voters c) (most rule cells voters)) y)

  nearest-target : (most rule cells voters ≡ 0 → ⊥) → (j : ℕ) → j ≤ k → nearest far counts (most rule cells voters) j ≡ as_target far (below j)
  unfolding nearest first_least as_target
  nearest-target z zero h = refl
  nearest-target z (suc j) h =
      let i = nearest-target z j (omega arith) in
      rw (tallied j (omega arith), frequent-is z j, i) (choose_nearer (frequent rule cells voters j) j (below j))

  -- with no votes there is no target
  none_frequent : most rule cells voters ≡ 0 → (c : ℕ) → frequent rule cells voters c ≡ false
  unfolding frequent
  none_frequent z c =
      case (frequent rule cells voters c)
      (λ y. let v = votes rule cells voters c in
      let l = leb_yes {m = 1} {n = v} (left (ltb 0 v) (eqb v (most rule cells voters)) y) in
      let e : v ≡ most rule cells voters = eqb_yes (right (ltb 0 v) (eqb v (most rule cells voters)) y) in
      absurd (omega arith))
      (λ u. u)

  none_target : most rule cells voters ≡ 0 → (j : ℕ) → below j ≡ None
  unfolding first_least
  none_target z zero = refl
  none_target z (suc j) = rw (none_frequent z j) (none_target z j)

  decision-is : (o : Option ℕ) → as_number (decision (as_target far o) rule.reach) ≡ fate_number (judged rule own o)
  unfolding as_number decision verdict_on candidate as_target fate_number judged
  decision-is None = refl
  decision-is (Some c) = case (lt (far c) rule.reach) (λ y. rw y) (λ z. rw z)

  still : (o : Option ℕ) → o ≡ None → as_number Stays ≡ fate_number (judged rule own o)
  unfolding as_number fate_number judged
  still o e = rw e

  pub by_votes-is : as_number (by_votes far counts k rule.reach) ≡ fate_number (judged rule own (below k))
  by_votes-is =
      case (eqb (most rule cells voters) 0)
      (λ y. ap as_number (sym (by_votes_none far counts k (peak counts k) rule.reach refl (peak-most ∙ eqb_yes y)))
      ∙ still (below k) (none_target (eqb_yes y) k))
      (λ y. let z : most rule cells voters ≡ 0 → ⊥ = (λ e. clash (yes_eqb {m = most rule cells voters} {n = 0} e) y) in
      ap as_number (sym (by_votes_some far counts k (peak counts k) rule.reach refl (λ e. z (sym peak-most ∙ e)) (nearest far counts (peak counts k) k) refl))
      ∙ ap (λ (x : ℕ). as_number (decision (nearest far counts x k) rule.reach)) peak-most
      ∙ ap (λ (t : Option Least). as_number (decision t rule.reach)) (nearest-target z k (omega arith))
      ∙ decision-is (below k))

-- ---- all votes are for one index

module _ (rule : Rule) (cells : List ℤ) (voters : List Bool) (own c q : ℕ) (inside : q < rule.places) (votes-for : marked voters q ≡ true)
    (same : (p : ℕ) → p < rule.places → marked voters p ≡ true → index (at cells p) ≡ c) where
  one_voted : 0 < votes rule cells voters c
  unfolding votes
  one_voted = count_some rule.places (λ p. marked voters p && eqb (index (at cells p)) c) q inside (both votes-for (yes_eqb (same q inside votes-for)))

  one_most : votes rule cells voters c ≡ most rule cells voters
  unfolding most
  one_most =
      let g : votes rule cells voters c ≤ greatest rule.places (marked voters) (λ p. votes rule cells voters (index (at cells p))) =
      rw (same q inside votes-for) at (greatest_above rule.places (marked voters) (λ p. votes rule cells voters (index (at cells p))) q inside votes-for) in
      ⊎_elim (λ z. absurd (omega (arith, z, g, one_voted)))
      (λ w. ap (votes rule cells voters) (sym (same w.0 w.1 w.2)) ∙ sym w.3)
      (greatest-is rule.places (marked voters) (λ p. votes rule cells voters (index (at cells p))))

  one_frequent : frequent rule cells voters c ≡ true
  unfolding frequent
  one_frequent = both (yes_leb {m = 1} {n = votes rule cells voters c} one_voted) (yes_eqb one_most)

  other_frequent : (d : ℕ) → (d ≡ c → ⊥) → frequent rule cells voters d ≡ false
  unfolding frequent votes
  other_frequent d z =
      case (frequent rule cells voters d)
      (λ y. let v = leb_yes {m = 1} {n = votes rule cells voters d} (left (ltb 0 (votes rule cells voters d)) (eqb (votes rule cells voters d) (most rule cells voters)) y) in
      let w = count_yes rule.places (λ p. marked voters p && eqb (index (at cells p)) d) v in
      let m = left (marked voters w.0) (eqb (index (at cells w.0)) d) w.2 in
      absurd (z (sym (eqb_yes (right (marked voters w.0) (eqb (index (at cells w.0)) d) w.2)) ∙ same w.0 w.1 m)))
      (λ y. y)

  -- the target among the indices below j
  abbrev first : ℕ → Option ℕ
  first j = first_least (frequent rule cells voters) (rule.dist own) j

  one_before : (j : ℕ) → j ≤ c → first j ≡ None
  unfolding first_least
  one_before zero h = refl
  one_before (suc j) h = rw (other_frequent j (λ e. omega arith)) (one_before j (omega arith))

  -- the target is that index
  pub one_target : (j : ℕ) → c < j → first j ≡ Some c
  unfolding first_least
  one_target zero h = absurd (omega arith)
  one_target (suc j) h =
      elim (ℕ_discrete j c) [
        | yes e ↦ rw (e, one_frequent, one_before c (le_refl c)) (ap (λ (x : ℕ). Some x) e)
        | no d ↦ rw (other_frequent j d) (one_target j (omega arith))
      ]

-- a target as the number that plane 6 holds
pub decision_one : (rule : Rule) (own c : ℕ) → as_number (decision (Some (candidate c (rule.dist own c))) rule.reach) ≡ fate_number (judged rule own (Some c))
unfolding as_number decision verdict_on candidate fate_number judged
decision_one rule own c = case (lt (rule.dist own c) rule.reach) (λ y. rw y) (λ z. rw z)
