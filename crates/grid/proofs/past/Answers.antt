-- `past`: one more than a single step. Assumes nothing.
use mir.Facts.{to_z-of_z, Fits-nat_abs}
use Rattle.grid.proofs.Signs.{single_fits, single-on, single_past}
use Rattle.grid.proofs.past.Goals as goal

pub overflow_add-result : goal.overflow_add-result
overflow_add-result c = rw (to_z-of_z c.ranges.d) (single_fits c.requires)

pub overflow_cast-result : goal.overflow_cast-result
overflow_cast-result c = rw (to_z-of_z c.ranges.d, to_z-of_z (single_fits c.requires)) (single-on c.requires, Fits-nat_abs tt (single_fits c.requires))

pub returns : goal.returns
returns c = rw (to_z-of_z c.ranges.d, to_z-of_z (single_fits c.requires)) (single_past c.requires)
