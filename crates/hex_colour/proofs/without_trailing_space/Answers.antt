-- `without_trailing_space`: the white space at the end is counted and left out. Assumes nothing.
use Rattle.std.proofs.Common.{rules, ◌∙◌, reverse}
use Rattle.std.proofs.lemmas.Iterator.Adapters.{YieldsList-from_rev_slice}
use Rattle.std.proofs.lemmas.Iterator.Consumers.{count_from_yields_List}
use Rattle.std.proofs.lemmas.Iterator.Search.{YieldsList-from_take_while}
use Rattle.std.proofs.lemmas.List.Folds.{length-prefix_len}
use Rattle.hex_colour.specs.Hex.{space}
use Rattle.hex_colour.proofs.Skipping.{before_end}
use Rattle.hex_colour.proofs.without_trailing_space.Goals as goal

pub returns : goal.returns
returns c =
    before_end space _ (count_from_yields_List c.take_while.result _ c.count-spaces.ensures.ran
    (YieldsList-from_take_while _ space (YieldsList-from_rev_slice c.args.text.now cc) c.take_while.ensures.closure c.take_while.ensures.done (λ x b q k. search rules))
    ∙ length-prefix_len space (reverse c.args.text.now))
