-- `color::cielab::xyz_of_lab`, where z is below 0 or is not. Assumes nothing.
use lib.Ieee.{of_bits, round}
use Rattle.base.specs.Doubles.{decimal}
use Rattle.color.specs.Lab.{white, xyz_of_lab}
use Rattle.color.proofs.cielab.xyz_of_lab.Goals.{then-z, else-z}
use Rattle.color.proofs.cielab.xyz_of_lab.Goals as goal

pub returns : goal.returns
unfolding xyz_of_lab white decimal round of_bits
returns c = elim c.if-z.branch [ then-z w ↦ rw w.if-z.true (cc w.z-is) | else-z w ↦ rw w.if-z.false (cc w.z-is) ]
