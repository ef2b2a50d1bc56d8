-- `verdicts::large::large_around`: none beside the places so far. Assumes nothing.
use Rattle.std.proofs.Common.{◌≡◌, ℕ, ◌+◌, ◌*◌, ◌-◌, below_more, ap, ◌∙◌, sym, arith, refl, rules, tests, get_or}
use Rattle.rules.specs.Grid.{eight}
use Rattle.grid.proofs.Planes.{plane_read}
use Rattle.verdicts.proofs.large.large_around.Goals as goal

pub loop-p-preserved : goal.loop-p-preserved
loop-p-preserved c =
    below_more _ _ c.loop-p.invariant
    (λ q y. let e = c.places-places.ensures.each c.loop-p.p-index c.loop-p-test.true in
    let h = c.any_near.ensures c.if-any_near.false q (ap (λ (p : ℕ). eight c.args.w p q) e ∙ y) in
    let k : get_or c.args.work.now (5 * c.args.n + q) 0 ≡ 0 = search (rules, tests) in
    sym (plane_read c.args.n 5 q (5 * c.args.n + q) c.args.work.now refl) ∙ k)

pub returns : goal.returns
returns c = λ z i lo hi.
    let e : c.args.span.from + (i - c.args.span.from) ≡ i = omega arith in
    rw e at (c.loop-p.invariant (i - c.args.span.from) (omega (arith, c.places-places.ensures.count)))
