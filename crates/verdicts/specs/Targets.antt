-- Which index a region takes, from the votes that each index has. Definitions only. Assumes nothing.
use Rattle.std.specs.Prelude.{ℕ, zero, suc, ◌+◌, Bool, true, cond, List, eqb, Float, get_or, Option, Some, None}
use Rattle.std.specs.Float.Ieee.{lt}
use Rattle.base.specs.Places.{greatest}
use Rattle.color.specs.declared.least.Least.{Least}
use Rattle.color.specs.Lab.{entry, distance}
use Rattle.color.specs.Least.{lowered}
use Rattle.verdicts.specs.declared.target.Verdict.{Verdict}
use Rattle.verdicts.specs.declared.target.Verdict.TheVariants.{Stays, Frozen, Takes}

-- the distance of the palette entries i and j
unfoldable pub entry_distance : List Float → ℕ → ℕ → Float
entry_distance palette i j = distance (entry palette i) (entry palette j)

-- the most votes that an index below k has
unfoldable pub peak : List ℕ → ℕ → ℕ
peak counts k = greatest k (λ c. true) (λ c. get_or counts c 0)

-- the index c at the distance d
unfoldable pub candidate : ℕ → Float → Least
candidate c d = record { at = c; value = d }

-- of the indices below k with m votes the nearest, the lowest of several; far gives their distances
unfoldable pub nearest : (ℕ → Float) → List ℕ → ℕ → ℕ → Option Least
nearest far counts m zero = None
nearest far counts m (suc c) =
    cond (eqb (get_or counts c 0) m) (Some (lowered (nearest far counts m c) (candidate c (far c)))) (nearest far counts m c)

-- a verdict as the number that the work area holds: 0 it stays, 1 it is frozen, c + 2 it takes the index c
unfoldable pub as_number : Verdict → ℕ
as_number Stays = 0
as_number Frozen = 1
as_number (Takes c) = c + 2

-- a target c gives a region its index, if it is near enough, else the region is frozen
unfoldable pub verdict_on : ℕ → Bool → Verdict
verdict_on c near = cond near (Takes c) Frozen

-- what a target gives a region
unfoldable pub decision : Option Least → Float → Verdict
decision None reach = Stays
decision (Some b) reach = verdict_on b.at (lt b.value reach)

-- the same from the votes: with none the region stays
unfoldable pub by_votes : (ℕ → Float) → List ℕ → ℕ → Float → Verdict
by_votes far counts k reach =
    cond (eqb (peak counts k) 0) Stays (decision (nearest far counts (peak counts k) k) reach)
