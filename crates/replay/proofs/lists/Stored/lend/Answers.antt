-- Each turn writes one element more.
use Rattle.std.proofs.Common.{◌≡◌, length, take, set, ap, ◌∙◌, arith, length-take-le}
use Rattle.base.proofs.Fills.{filled_none, filled_more}
use Rattle.replay.proofs.Elements.{lent}
use Rattle.replay.specs.Lists.{element}
use Rattle.replay.proofs.lists.Stored.lend.Goals as goal

pub loop-i-init : goal.loop-i-init
loop-i-init g c = filled_none _ _

pub loop-i-preserved : goal.loop-i-preserved
loop-i-preserved g c =
    let x : c.from_number.result ≡ g.K.Kind.read (element c.args.self c.loop-i.i) = c.from_number.ensures ∙ ap g.K.Kind.read c.element.ensures in
    ap (λ l. set l c.loop-i.i c.from_number.result) c.loop-i.invariant ∙ filled_more c.loop-i.i _ _ _ c.loop-i-test.true x

pub returns : goal.returns
returns g c =
    let all = take c.min-n.result c.args.buffer.now in
    let long : length all ≡ c.min-n.result = length-take-le _ _ (omega (arith, c.min-n.ensures)) in
    let at_end : c.loop-i.i ≡ length all = omega (arith, c.loop-i-test.false, c.loop-i.auto.i-end) in
    c.loop-i.invariant ∙ lent g.K.Kind.read c.args.self (length c.args.buffer.now) c.loop-i.i all (long ∙ c.min-n.ensures) at_end
