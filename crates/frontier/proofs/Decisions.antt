-- The first half of a pass: regions are judged one after the other, by the state at its start. Assumes nothing.
use Prim.Native.Nat.{ℕ, ◌<◌}
use mathlib.Core.Path.{◌≡◌, sym, ◌∙◌}
use mathlib.Core.Logic.{⊎_elim}
use mathlib.Core.Bool.{Bool, true, false, not, ◌&&◌, cond}
use native.Mathlib.Decide.{ℕ_discrete}
use borrow.Author.Tests.{ne_eqb}
use lib.Dec.{eqb}
use Rattle.base.proofs.Counting.{case, clash, left, right, not_true}
use Rattle.rules.specs.Regions.{at, index, Symmetric}
use Rattle.rules.specs.Pass.{Rule, State, marked, large, fates, fate}
use Rattle.rules.proofs.Groups.{waits, Ready, group_rest, group_apart}
use Rattle.verdicts.specs.Judging.{fate_number}
use Rattle.frontier.specs.Judging.{number_of, Numbered, Judging}

waits_thawed : (rule : Rule) (s : State) (x : ℕ) → waits rule s x ≡ true → marked s.frozen x ≡ false
unfolding waits
waits_thawed rule s x y = not_true (right (not (large rule s.cells x) && rule.free (index (at s.cells x))) (not (marked s.frozen x)) y)

pub waits_little : (rule : Rule) (s : State) (x : ℕ) → waits rule s x ≡ true → large rule s.cells x ≡ false
unfolding waits
waits_little rule s x y =
    not_true (left (not (large rule s.cells x)) (rule.free (index (at s.cells x))) (left (not (large rule s.cells x) && rule.free (index (at s.cells x))) (not (marked s.frozen x)) y))

module _ (rule : Rule) (symm : Symmetric rule.adj) (s : State) (group : ℕ → ℕ) (big front : ℕ → Bool) (r : Ready rule s group big front) (num₀ : ℕ → ℕ) (told : Numbered rule s group num₀) where
  -- Once every waiting group beside the frontier has a number, the numbers tell every fate
  module _ (num : ℕ → ℕ) (frozenNow : ℕ → Bool) (u : Judging rule s group num₀ num frozenNow)
      (all : (x y q : ℕ) → x < rule.places → 0 < group x → waits rule s x ≡ true → y < rule.places → group x ≡ group y → rule.adj y q ≡ true → front q ≡ true → number_of group num x ≡ 0 → ⊥) where
    pub judging_end : (x : ℕ) → x < rule.places → 0 < group x → fate_number (fate (fates rule s) x) ≡ cond (eqb (number_of group num₀ x) 0) (number_of group num x) 0
    unfolding fate_number
    judging_end x b h =
        elim (ℕ_discrete (number_of group num₀ x) 0) [
          | yes e ↦ ⊎_elim (λ i. let z : number_of group num x ≡ 0 = i ∙ e in rw e (idle z ∙ sym z)) (λ i. rw i.0 (sym i.1)) (u.each x b h)
          | no d ↦ rw (
            ne_eqb (number_of group num₀ x) 0 d,
            group_rest rule symm s group r.grouped x b h (case (waits rule s x)
                (λ y. ⊎_elim (λ i. clash i (waits_thawed rule s x y)) (λ i. clash i (waits_little rule s x y)) (told.done x b h d)) (λ z. z)),
          )
        ]
      where
        idle : number_of group num x ≡ 0 → fate_number (fate (fates rule s) x) ≡ 0
        idle z =
            case (waits rule s x)
            (λ y. rw (group_apart rule symm s group r.grouped front r.fronted x b h (λ y' q c i t w. all x y' q b h y c i t w z)))
            (λ y. rw (group_rest rule symm s group r.grouped x b h y))
