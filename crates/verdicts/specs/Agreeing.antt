-- The paint that all large cells beside a region have. Definitions only. Assumes nothing.
use Rattle.std.specs.Prelude.{ℕ, zero, suc, ◌+◌, cond, List, eqb, Option, None, Some}
use Rattle.grid.specs.declared.Grid.{Grid}
use Rattle.grid.specs.Planes.{plane}
use Rattle.grid.specs.Steps.{steps_of}
use Rattle.grid.proofs.Places.{hop}
use Rattle.verdicts.specs.declared.agreeing.Agreement.{Agreement}
use Rattle.verdicts.specs.declared.agreeing.Agreement.TheVariants.{Silent, One, Several}
use Rattle.verdicts.specs.Steps.{area_of}

-- what the cells asked so far have, with one more of the paint v
unfoldable pub with_paint : Agreement → ℕ → Agreement
with_paint Silent v = One v
with_paint (One u) v = cond (eqb u v) (One v) Several
with_paint Several v = Several

-- the cell that a step finds is asked: it counts if it is large
unfoldable pub asked_step : ℕ → List ℕ → Option ℕ → Agreement → Agreement
asked_step n work None t = t
asked_step n work (Some q) t = cond (eqb (plane n 5 work q) 0) t (with_paint t (plane n 0 work q))

-- the cells that the first k steps from p find are asked
unfoldable pub asked_beside : Grid → List ℕ → ℕ → ℕ → Agreement → Agreement
asked_beside grid work p zero t = t
asked_beside grid work p (suc k) t = asked_step (area_of grid) work (hop grid.h grid.w p k) (asked_beside grid work p k t)

-- the neighbours of the places from `from` on of the order, `many` of them
unfoldable pub asked_around : Grid → List ℕ → ℕ → ℕ → Agreement
asked_around grid work from zero = Silent
asked_around grid work from (suc many) = asked_beside grid work (plane (area_of grid) 2 work (from + many)) (steps_of grid.near) (asked_around grid work from many)

-- the paint that all have, if there is one
unfoldable pub one_paint : Agreement → Option ℕ
one_paint Silent = None
one_paint (One v) = Some v
one_paint Several = None
