-- The tests in the order of the code. Assumes nothing.
use Rattle.std.proofs.Common.{sym, ◌∙◌}
use Rattle.outline.proofs.Refusing.{some_entry, none_needed, one_needed, ring-padded, ring_plain}
use Rattle.outline.proofs.canvas.Lent.no_entry.Goals as goal

pub returns-then-k-ne0 : goal.returns-then-k-ne0
returns-then-k-ne0 c = sym (some_entry _ _ _ c.if-k-ne0.true)

pub returns-then-not-needs_entry : goal.returns-then-not-needs_entry
returns-then-not-needs_entry c = sym (none_needed _ _ _ c.if-k-ne0.false (sym c.needs_entry.ensures ∙ c.if-not-needs_entry.true))

pub returns-then-padding : goal.returns-then-padding
returns-then-padding c =
    c.if-padding.true ∙ sym (one_needed _ _ _ c.if-k-ne0.false (sym c.needs_entry.ensures ∙ c.if-not-needs_entry.false) ∙ ring-padded _ _ c.if-padding.true c.requires)

pub returns-else-padding : goal.returns-else-padding
returns-else-padding c =
    c.has_ring.ensures ∙ sym (one_needed _ _ _ c.if-k-ne0.false (sym c.needs_entry.ensures ∙ c.if-not-needs_entry.false) ∙ ring_plain _ _ c.if-padding.false)
