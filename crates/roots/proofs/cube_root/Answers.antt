-- `roots::cube_root`: a double's root is rounded from the whole root of its significand. Assumes nothing.
use Rattle.std.proofs.Common.{arith}
use Rattle.roots.proofs.Units.{pattern_lt, no_nan}
use Rattle.roots.proofs.Cube.{cube_root_lem}
use Rattle.roots.proofs.Rounding.{root_of, of_zero}
use Rattle.roots.proofs.Signs.{double}
use Rattle.roots.proofs.cube_root.Goals as goal

pub float_to_bits-bits : goal.float_to_bits-bits
float_to_bits-bits c = no_nan c.args.x c.requires

pub returns-then-bits-eq0 : goal.returns-then-bits-eq0
returns-then-bits-eq0 c = of_zero 3 c.args.x (double _ c.well_formed.0.1 c.requires) c.if-bits-eq0.true

pub for_cube-c-requires : goal.for_cube-c-requires
for_cube-c-requires c = (omega arith, pattern_lt c.args.x (double _ c.well_formed.0.1 c.requires))

pub returns : goal.returns
returns c =
    let r = c.quick_cube.ensures in
    root_of 2 _ _ _ c.args.x _ (double _ c.well_formed.0.1 c.requires) c.for_cube-c.ensures.0 (cube_root_lem _ _ r.0) r.1 c.rounded.ensures
