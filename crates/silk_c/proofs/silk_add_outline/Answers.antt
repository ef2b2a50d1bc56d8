-- `silk_c::silk_add_outline`: the facts of its entry's answer fit. Assumes nothing.
use Rattle.std.proofs.Common.{arith}
use Rattle.silk_c.proofs.FactsRows.{facts_room}
use Rattle.silk_c.proofs.Sizes.{drawn-small}
use Rattle.silk_c.proofs.silk_add_outline.Goals as goal

pub tell_outline-requires : goal.tell_outline-requires
tell_outline-requires c =
    let room = facts_room _ _ _ _ c.facts_rows.ensures c.in_default.is in
    record { facts_fit = drawn-small _ c.add_outline-answer.ensures.0; in_bounds = omega arith }
