-- `color::cielab::mat_vec`. Assumes nothing.
use Rattle.color.specs.Lab.{mat_vec}
use Rattle.color.proofs.cielab.mat_vec.Goals as goal

pub returns : goal.returns
unfolding mat_vec
returns c = cc
