-- `silk_c::silk_run`: the settings are those that C handed over, and the facts of its entry's answer fit. Assumes nothing.
use Rattle.std.proofs.Common.{sym, rules}
use Rattle.silk_c.proofs.FactsRows.{facts_rows_cases, facts_room}
use Rattle.silk_c.proofs.Sizes.{processed-small}
use Rattle.silk_c.proofs.silk_run.Goals as goal

pub returns : goal.returns
returns c =
    let r = rw (c.config_of-config.ensures, c.beta_of-tone.ensures, c.outline_of-line.ensures, c.is_set-toned.ensures, c.is_set-fixed.ensures) at c.run-answer.ensures in
    simp (facts_rows_cases, sym c.facts_rows.ensures, c.in_default.is) (search rules)

pub tell_run-requires : goal.tell_run-requires
tell_run-requires c = record { facts_fit = processed-small _ c.run-answer.ensures.0; in_bounds = facts_room _ _ _ _ c.facts_rows.ensures c.in_default.is }
