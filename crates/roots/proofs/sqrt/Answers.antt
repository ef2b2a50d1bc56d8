-- `roots::sqrt`: the library's square root is the nearest double. Assumes nothing.
use mathlib.Core.Path.{◌∙◌}
use Rattle.roots.proofs.Signs.{square_kept}
use Rattle.roots.proofs.Processor.{root_is}
use Rattle.roots.proofs.sqrt.Goals as goal

pub returns : goal.returns
returns c = square_kept _ _ c.well_formed.0.1 (c.sqrt.ensures.value ∙ root_is _ c.well_formed.0.1)
