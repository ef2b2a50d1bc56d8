-- `frontier::judging::small_found`: what the step finds. Assumes nothing.
use Rattle.std.proofs.Common.{rules, ◌≡◌, ℕ, List, ap, sym, ◌∙◌}
use Rattle.std.specs.Prelude.{Option, None, Some, MatchOption}
use Rattle.grid.proofs.Places.{none_some}
use Rattle.frontier.specs.Judging.{Small}
use Rattle.frontier.proofs.Progress.{renamed}
use Rattle.frontier.proofs.Turns.{step_read}
use Rattle.frontier.proofs.judging.small_found.Goals as goal

-- what is found at the place is found by the step
by_step : (n q : ℕ) (work : List ℕ) (o : Option ℕ) → o ≡ Some q → (r : Option ℕ) → MatchOption r ((at : ℕ) → Small n work (λ x. x ≡ q) at → ⊥) (Small n work (λ x. x ≡ q)) → MatchOption r ((at : ℕ) → Small n work (λ x. o ≡ Some x) at → ⊥) (Small n work (λ x. o ≡ Some x))
by_step n q work o e None f = λ at s. f at (renamed s (let i = s.named in cc))
by_step n q work o e (Some at) s = renamed s (e ∙ ap Some (sym s.named))

pub returns-in_err-q : goal.returns-in_err-q
returns-in_err-q c =
    let r : c.from_residual.result ≡ None = search rules in
    rw r (λ at s. none_some (sym c.in_err-q.was ∙ c.reached.ensures ∙ s.named))

pub small_region-requires : goal.small_region-requires
small_region-requires c = let seen = step_read c.args.step c.requires.0 (sym c.reached.ensures ∙ c.in_ok-q.was) in (record { few = seen.few; room = seen.room }, seen.bound)

pub returns : goal.returns
returns c = by_step _ _ _ _ (sym c.reached.ensures ∙ c.in_ok-q.was) _ c.small_region.ensures
