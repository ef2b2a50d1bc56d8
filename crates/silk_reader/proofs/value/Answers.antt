use Rattle.std.proofs.Common.{arith}
use Rattle.silk_reader.proofs.Scanning.{valued_fits, valued_more, valued_all, valued_small}
use Rattle.silk_reader.proofs.value.Goals as goal

pub overflow_mul-v : goal.overflow_mul-v
overflow_mul-v c =
    omega (arith, valued_fits c.requires c.loop-d.invariant c.loop-d-test.true)

pub overflow_sub-d : goal.overflow_sub-d
overflow_sub-d c = (valued_fits c.requires c.loop-d.invariant c.loop-d-test.true).0

pub overflow_add-v : goal.overflow_add-v
overflow_add-v c =
    omega (arith, valued_fits c.requires c.loop-d.invariant c.loop-d-test.true)

pub loop-d-preserved : goal.loop-d-preserved
loop-d-preserved c = valued_more c.requires c.loop-d.invariant c.loop-d-test.true c.from.ensures

pub returns-clause-value : goal.returns-clause-value
returns-clause-value c = valued_all c.loop-d.invariant c.loop-d-test.false

pub returns-clause-small : goal.returns-clause-small
returns-clause-small c = valued_small c.requires c.loop-d.invariant c.loop-d.auto.d-index-end
