-- `without_leading`: the bytes at the front that pass are counted and dropped. Assumes nothing.
use Rattle.std.proofs.Common.{rules, ◌∙◌}
use Rattle.std.proofs.lemmas.Iterator.{YieldsList-from_slice}
use Rattle.std.proofs.lemmas.Iterator.Consumers.{count_from_yields_List}
use Rattle.std.proofs.lemmas.Iterator.Search.{YieldsList-from_take_while}
use Rattle.std.proofs.lemmas.List.Folds.{length-prefix_len}
use Rattle.hex_colour.proofs.Skipping.{past_front}
use Rattle.hex_colour.proofs.without_leading.Goals as goal

pub returns : goal.returns
returns g c = λ t h.
    past_front t _ (count_from_yields_List c.take_while.result _ c.count-start.ensures.ran
    (YieldsList-from_take_while _ t (YieldsList-from_slice c.args.text.now cc) c.take_while.ensures.closure c.take_while.ensures.done (λ x b q k. search (rules, h)))
    ∙ length-prefix_len t c.args.text.now)
