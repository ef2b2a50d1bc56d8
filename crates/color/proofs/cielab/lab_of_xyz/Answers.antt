-- `color::cielab::lab_of_xyz`. Assumes nothing.
use lib.Ieee.{of_bits, round}
use Rattle.base.specs.Doubles.{decimal}
use Rattle.color.specs.Lab.{white, lab_of_xyz}
use Rattle.color.proofs.cielab.lab_of_xyz.Goals as goal

pub returns : goal.returns
unfolding lab_of_xyz white decimal round of_bits
returns c = cc
