-- `orphans::starting::any_small`. Assumes nothing.
use Rattle.std.proofs.Common.{◌≡◌, ℕ, suc, ltb, true, false, rules, arith, tests, refl}
use Rattle.std.proofs.lemmas.Iterator.{serves_from_Range, cases_from_any, YieldsList-from_range}
use Rattle.orphans.specs.Starting.{size_of}
use Rattle.base.proofs.Ranges.{any-from_range}
use Rattle.orphans.proofs.starting.any_small.Goals as goal

pub any-requires-clause-callable : goal.any-requires-clause-callable
any-requires-clause-callable c = serves_from_Range (λ x q k. search rules) (λ x lo hi. search (rules, c.requires.by_index x hi))

pub returns : goal.returns
unfolding size_of
returns c =
    let small = λ (at : ℕ). ltb (size_of c.args.n c.args.work.now (suc at)) c.args.limit in
    any-from_range c.args.count small _ (cases_from_any _ _ _ (λ x. small x ≡ true) (λ x. small x ≡ false) c.any.ensures.ran (YieldsList-from_range 0 c.args.count c.args.count refl (omega arith)) (λ x q k. search (rules, tests)) (λ x q k. search (rules, tests)))
