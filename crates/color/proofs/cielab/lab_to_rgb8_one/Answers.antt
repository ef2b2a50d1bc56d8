-- `color::cielab::lab_to_rgb8_one`. Assumes nothing.
use lib.Ieee.{of_bits, round, neg}
use Rattle.base.specs.Doubles.{decimal}
use Rattle.color.specs.Lab.{rgb_from_xyz, lab_to_rgb8}
use Rattle.color.proofs.cielab.lab_to_rgb8_one.Goals as goal

pub returns : goal.returns
unfolding lab_to_rgb8 rgb_from_xyz decimal round of_bits neg
returns c = cc
