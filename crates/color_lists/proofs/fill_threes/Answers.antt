-- `fill_threes`: the three places of one colour more a turn. Assumes nothing.
use Rattle.std.proofs.Common.{◌≡◌, ◌*◌, ◌/◌, ◌%◌, ◌∙◌, ap, arith}
use Rattle.base.specs.Outputs.{filled}
use Rattle.base.proofs.Fills.{filled_none}
use Rattle.color_lists.proofs.Fillings.{threes_more}
use Rattle.color_lists.proofs.fill_threes.Goals as goal

pub loop-i-init : goal.loop-i-init
loop-i-init g c = λ v h. filled_none _ _

pub loop-i-preserved : goal.loop-i-preserved
loop-i-preserved g c = λ v h.
    let e = h c.loop-i.i c.f-x.result c.loop-i-test.true c.f-x.ensures in
    threes_more c.args.out.now v (c.loop-i.invariant v h) (omega arith)
    (ap (λ r. r.0) e) (ap (λ r. r.1) e) (ap (λ r. r.2) e)

pub returns : goal.returns
returns g c = λ v h.
    let e : c.loop-i.i ≡ c.args.n = omega arith in
    c.loop-i.invariant v h ∙ ap (λ i. filled (3 * i) (λ k. v (k / 3) (k % 3)) c.args.out.now) e
