-- `frontier::regions::small_region`: the label that is read. Assumes nothing.
use Rattle.std.proofs.Common.{◌≡◌, ℕ, ◌-◌, ◌+◌, ◌*◌, ◌<◌, ◌≤◌, List, refl, ap, sym, ◌∙◌, arith}
use Rattle.std.specs.Prelude.{Option, None, Some, SomeIff, MatchOption}
use Rattle.base.proofs.Counting.{clash}
use Rattle.grid.specs.Planes.{plane}
use Rattle.grid.proofs.Planes.{plane_read}
use Rattle.frontier.specs.Judging.{Small}
use Rattle.frontier.proofs.Stages.{big_some, zero_big}
use Rattle.frontier.proofs.regions.small_region.Goals as goal

-- the label less one, where there is a label
less_one : (n q : ℕ) (work : List ℕ) (r : Option ℕ) → q < n → plane n 5 work q ≡ 0 → SomeIff r (1 ≤ plane n 1 work q) (plane n 1 work q - 1) → MatchOption r ((at : ℕ) → Small n work (λ x. x ≡ q) at → ⊥) (Small n work (λ x. x ≡ q))
less_one n q work None l z f = λ at s. f (let e = ap (plane n 1 work) s.named in omega (arith, s.label))
less_one n q work (Some at) l z f = record { place = q; named = refl; bound = l; little = zero_big n work q z; label = omega (arith, f.0, f.1) }

pub returns-then-large : goal.returns-then-large
returns-then-large c = λ at s.
    let n = c.args.n in
    let work = c.args.work.now in
    clash (big_some n work s.place (λ z. c.if-large.true (plane_read n 5 c.args.q (5 * n + c.args.q) work (omega arith) ∙ ap (plane n 5 work) (sym s.named) ∙ z))) s.little

pub returns : goal.returns
returns c =
    let n = c.args.n in
    let q = c.args.q in
    let work = c.args.work.now in
    less_one n q work _ (omega arith) (sym (plane_read n 5 q (5 * n + q) work (omega arith)) ∙ c.if-large.false) (rw (plane_read n 1 q (n + q) work (omega arith)) at c.checked_sub.ensures)
