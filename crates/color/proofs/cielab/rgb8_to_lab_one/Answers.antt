-- `color::cielab::rgb8_to_lab_one`. Assumes nothing.
use Rattle.std.proofs.Common.{refl, ap, ◌∙◌}
use lib.Ieee.{of_bits, round}
use Rattle.base.specs.Doubles.{decimal}
use Rattle.color.specs.Lab.{xyz_from_rgb, mat_vec, lab_of_xyz, rgb8_to_lab}
use Rattle.color.proofs.cielab.rgb8_to_lab_one.Goals as goal

pub returns : goal.returns
unfolding rgb8_to_lab xyz_from_rgb decimal round of_bits
returns c = c.lab_of_xyz.ensures ∙ ap lab_of_xyz (c.mat_vec.ensures ∙ ap (mat_vec xyz_from_rgb) (rw (c.decoded.ensures, c.decoded-2.ensures, c.decoded-3.ensures) refl))
