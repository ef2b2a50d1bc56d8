-- `fill`: one place more a turn. Assumes nothing.
use Rattle.std.proofs.Common.{◌≡◌, ◌∙◌, ap, arith}
use Rattle.base.specs.Outputs.{filled}
use Rattle.base.proofs.Fills.{filled_none}
use Rattle.color_lists.proofs.Fillings.{fill_more}
use Rattle.color_lists.proofs.fill.Goals as goal

pub loop-i-init : goal.loop-i-init
loop-i-init g c = λ v h. filled_none v _

pub loop-i-preserved : goal.loop-i-preserved
loop-i-preserved g c = λ v h. fill_more c.args.out.now v (c.loop-i.invariant v h) (omega arith) (h c.loop-i.i c.f.result c.loop-i-test.true c.f.ensures)

pub returns : goal.returns
returns g c = λ v h.
    let e : c.loop-i.i ≡ c.args.n = omega arith in
    c.loop-i.invariant v h ∙ ap (λ k. filled k v c.args.out.now) e
