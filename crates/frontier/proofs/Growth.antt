-- The second half of a pass: regions become large one after the other, first those that are repainted, then those of the index beside them. Each is logged.
-- Assumes nothing.
use Prim.Native.Nat.{ℕ, suc, ◌+◌, ◌≤◌, ◌<◌}
use mathlib.Core.Path.{◌≡◌, refl, sym, ap, ◌∙◌}
use mathlib.Core.Logic.{◌⊎◌, inl, ⊎_elim}
use mathlib.Core.Bool.{Bool, true, false, ◌||◌}
use native.Mathlib.Decide.{ℕ_discrete}
use native.Mathlib.Omega.{arith}
use lib.Dec.{eqb, leb}
use Rattle.base.specs.Places.{count}
use Rattle.base.proofs.Counting.{case, clash, either, or_left, or_right, eqb_yes, yes_eqb, yes_leb, count_less}
use Rattle.rules.specs.Regions.{at, Symmetric}
use Rattle.rules.specs.Pass.{Rule, State, large, small, Verdict, stay, merge, freeze, merges, pass, repaints}
use Rattle.rules.proofs.Roots.{join_same}
use Rattle.rules.proofs.Passes.{small_or_large, unpainted_kept}
use Rattle.rules.proofs.Groups.{Ready, Grows, takes, joins, Grown, group-large, group-repaints}
use Rattle.verdicts.specs.Judging.{fate_number}
use Rattle.frontier.specs.Growing.{Logged}

-- a region is repainted exactly if its number is 2 or more
pub merges-number : (w : Verdict) → merges w ≡ leb 2 (fate_number w)
unfolding merges fate_number
merges-number stay = refl
merges-number (merge c d) = sym (yes_leb {m = 2} {n = c + 2} (omega arith))
merges-number (freeze c d) = refl

-- Since the pass's start `big` was told of some groups, each as a whole, that become large in it
pub record Growing (rule : Rule) (s : State) (group : ℕ → ℕ) (big₀ big : ℕ → Bool) : Type 0 where
  pub old : (x : ℕ) → x < rule.places → big₀ x ≡ true → big x ≡ true
  pub only : (x : ℕ) → x < rule.places → big x ≡ true → (big₀ x ≡ true) ⊎ Grows rule s group x
  pub whole : (x y : ℕ) → x < rule.places → y < rule.places → 0 < group x → group x ≡ group y → big x ≡ big y

module _ (rule : Rule) (symm : Symmetric rule.adj) (s : State) (group : ℕ → ℕ) (big₀ front : ℕ → Bool) (r : Ready rule s group big₀ front) where
  abbrev n : ℕ
  n = rule.places

  pub growing_start : Growing rule s group big₀ big₀
  growing_start = record {
    old = λ x b y. y;
    only = λ x b y. inl y;
    whole = λ x y b c h e. r.flags x b ∙ group-large rule symm s group r.grouped x y b c h e ∙ sym (r.flags y c);
  }

  module _ (big : ℕ → Bool) (u : Growing rule s group big₀ big) where
    little : (x : ℕ) → x < n → 0 < group x → big x ≡ false → (large rule s.cells x ≡ false) × (small rule s.cells x ≡ true)
    little x b h z =
        let l : large rule s.cells x ≡ false = sym (r.flags x b) ∙ case (big₀ x) (λ y. clash (u.old x b y) z) (λ y. y) in
        (l, ⊎_elim (λ y. y) (λ y. clash y l) (small_or_large rule symm s.cells r.grouped.size x ((r.grouped.shown x b).1 h)))

    module _ (done : (x : ℕ) → x < n → repaints rule s x ≡ true → big x ≡ true) where
      -- once all repainted places are told, a small group with a cell q beside a repainted place z of its index grows
      pub absorbed_grows : (z q : ℕ) → q < n → 0 < group q → big q ≡ false → rule.adj z q ≡ true → repaints rule s z ≡ true → at (pass rule s).cells z ≡ at (pass rule s).cells q → (x : ℕ) → x < n → group x ≡ group q → Grows rule s group x
      unfolding Symmetric
      absorbed_grows z q c h l t p e x b i =
          let g : 0 < group x = rw i h in
          let lx : big x ≡ false = u.whole x q b c g i ∙ l in
          let px : repaints rule s x ≡ false = case (repaints rule s x) (λ y. clash (done x b y) lx) (λ y. y) in
          let pq : repaints rule s q ≡ false = case (repaints rule s q) (λ y. clash (done q c y) l) (λ y. y) in
          let j = (r.grouped.region x q (little x b g lx).1 c).1 i in
          joins g (little x b g lx).0 px q z c i (symm z q t) p
          (e ∙ unpainted_kept rule symm s r.grouped.size q pq ∙ sym (join_same rule.adj s.cells j))

      -- and once no such group is left, all is told
      pub growing_end : ((z q : ℕ) → q < n → 0 < group q → rule.adj z q ≡ true → repaints rule s z ≡ true → at (pass rule s).cells z ≡ at (pass rule s).cells q → big q ≡ true) → Grown rule s group big₀ big
      unfolding Symmetric
      growing_end all = record { old = u.old; new = new; only = u.only }
        where
          new : (x : ℕ) → x < n → Grows rule s group x → big x ≡ true
          new x b (takes e) = done x b e
          new x b (joins h l e y z c i t p k) =
              let sm = ⊎_elim (λ v. v) (λ v. clash v l) (small_or_large rule symm s.cells r.grouped.size x ((r.grouped.shown x b).1 h)) in
              let j = (r.grouped.region x y sm c).1 i in
              let py : repaints rule s y ≡ false = sym (group-repaints rule symm s group r.grouped x y b c h i) ∙ e in
              u.whole x y b c h i ∙ all z y c (rw (← i) h) (symm y z t) p (k ∙ join_same rule.adj s.cells j ∙ sym (unpainted_kept rule symm s r.grouped.size y py))

-- ---- the log

module _ (n : ℕ) (group : ℕ → ℕ) (big₀ : ℕ → Bool) where
  pub logged_start : (big : ℕ → Bool) (log : ℕ → ℕ) (lo : ℕ) → ((x : ℕ) → x < n → big x ≡ big₀ x) → Logged n group big₀ big log lo lo
  logged_start big log lo same = record {
    named = λ i l h. absurd (omega arith);
    new = λ i x l h. absurd (omega arith);
    all = λ x b y z. clash y (same x b ∙ z);
  }

  -- one more group k, none of whose places is large yet
  pub logged_step : (big big' : ℕ → Bool) (log log' : ℕ → ℕ) (lo hi k : ℕ) → lo ≤ hi → Logged n group big₀ big log lo hi →
      ((x : ℕ) → x < n → big₀ x ≡ true → big x ≡ true) →
      ((x : ℕ) → x < n → group x ≡ suc k → big x ≡ false) → (y : ℕ) → y < n → group y ≡ suc k →
      ((x : ℕ) → x < n → big' x ≡ (big x || eqb (group x) (suc k))) →
      log' hi ≡ k → ((i : ℕ) → i < hi → log' i ≡ log i) → Logged n group big₀ big' log' lo (suc hi)
  logged_step big big' log log' lo hi k le u old small y ly gy is last same = record { named = named'; new = new'; all = all' }
    where
      named' : (i : ℕ) → lo ≤ i → i < suc hi → (x : ℕ) × (x < n) × (group x ≡ suc (log' i))
      named' i l h =
          elim (ℕ_discrete i hi) [
            | yes e ↦ (y, ly, gy ∙ ap suc (sym (ap log' e ∙ last)))
            | no d ↦ (let w = u.named i l (omega arith) in (w.0, w.1, w.2 ∙ ap suc (sym (same i (omega arith)))))
          ]

      new' : (i x : ℕ) → lo ≤ i → i < suc hi → x < n → group x ≡ suc (log' i) → (big' x ≡ true) × (big₀ x ≡ false)
      new' i x l h b e =
          elim (ℕ_discrete i hi) [
            | yes f ↦ (let g : group x ≡ suc k = e ∙ ap suc (ap log' f ∙ last) in
                (is x b ∙ or_right (big x) (yes_eqb g), case (big₀ x) (λ v. clash (old x b v) (small x b g)) (λ v. v)))
            | no d ↦ (let w = u.new i x l (omega arith) b (e ∙ ap suc (same i (omega arith))) in (is x b ∙ or_left (eqb (group x) (suc k)) w.0, w.1))
          ]

      all' : (x : ℕ) → x < n → big' x ≡ true → big₀ x ≡ false → (i : ℕ) × (lo ≤ i) × (i < suc hi) × (group x ≡ suc (log' i))
      all' x b v z =
          ⊎_elim
          (λ e. let w = u.all x b e z in (w.0, w.1, omega (arith, w.2), w.3 ∙ ap suc (sym (same w.0 w.2))))
          (λ e. (hi, le, omega arith, eqb_yes e ∙ ap suc (sym last)))
          (either (big x) (eqb (group x) (suc k)) (sym (is x b) ∙ v))

  -- the log has room: each group that is logged leaves fewer places that are neither large nor to be repainted
  pub room_step : (idle idle' : ℕ → Bool) (end y : ℕ) → end + count n idle ≤ n → ((x : ℕ) → x < n → idle' x ≡ true → idle x ≡ true) → y < n → idle y ≡ true → idle' y ≡ false → (end < n) × (suc end + count n idle' ≤ n)
  room_step idle idle' end y h f ly v z =
      let c = count_less n idle' idle f y ly z v in
      (omega arith, omega arith)
