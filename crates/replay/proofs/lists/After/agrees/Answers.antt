-- One element more is compared in each turn.
use Rattle.std.proofs.Common.{◌≡◌, ◌∙◌, ap, arith}
use Rattle.replay.specs.Lists.{element_after}
use Rattle.replay.proofs.Elements.{none_compared, one_compared, all_compared}
use Rattle.replay.proofs.lists.After.agrees.Goals as goal

pub loop-i-init : goal.loop-i-init
loop-i-init g c = none_compared

pub loop-i-preserved : goal.loop-i-preserved
loop-i-preserved g c =
    let y : c.from_number.result ≡ g.K.Kind.read (element_after c.args.self c.loop-i.i) = c.from_number.ensures ∙ ap g.K.Kind.read c.element.ensures in
    rw (c.to_number.ensures, c.to_number-in-loop-i.ensures) (one_compared c.loop-i.invariant _ _ c.loop-i-test.true c.index-list-i.is y)

pub returns : goal.returns
returns g c = all_compared c.loop-i.invariant (omega (arith, c.loop-i-test.false, c.loop-i.auto.i-end))
