-- At once where it is surely in range, else by every product. Assumes nothing.
use mathlib.Core.Path.{sym, ◌∙◌}
use Rattle.saturation.proofs.Reach.{surely}
use Rattle.saturation.proofs.scaling.scaled_too_far.Goals as goal

pub returns-then-surely_in_range : goal.returns-then-surely_in_range
returns-then-surely_in_range c = sym (surely _ _ _ c.requires (sym c.surely_in_range.ensures ∙ c.if-surely_in_range.true))
