-- `alone`: the words of the places after s that can be its neighbours. Assumes nothing.
use borrow.Author.Tests.{eqb-false}
use Rattle.base.proofs.Counting.{not_true}
use Rattle.grid.proofs.Places.{wide}
use Rattle.labels.proofs.Flooding.{alone_four, alone_eight}
use Rattle.labels.proofs.label.alone.Goals as goal

pub returns-in-Four : goal.returns-in-Four
returns-in-Four c =
    rw c.in-Four.is (λ z. alone_four _ _ _ _ _ (wide _ _ _ c.requires.1) c.if-work-at.false c.if-work-below.false)

pub returns-then-work-below-2 : goal.returns-then-work-below-2
returns-then-work-below-2 c =
    rw c.in-Eight.is (λ z. alone_eight _ _ _ _ _ (wide _ _ _ c.requires.1) c.if-work-at.false c.if-work-below.false c.if-work-below-2.true (eqb-false _ _ (not_true z)))
