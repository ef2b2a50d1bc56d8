-- `trim_cell`: a transparent cell stays, an opaque one becomes what the corners make of it. Assumes nothing.
use Rattle.std.proofs.Common.{◌-◌, sym, ◌∙◌, arith}
use mir.Syntax.{w32}
use mir.Facts.{to_z_pos}
use Rattle.grid.proofs.Places.{place_in_lem}
use Rattle.jaggies.specs.Rows.{spot_place}
use Rattle.jaggies.proofs.Rows.{shown, stays, becomes, own_place, own_paint}
use Rattle.jaggies.proofs.trim_cell.Goals as goal

pub returns-then-a-eq0 : goal.returns-then-a-eq0
returns-then-a-eq0 c old rows t =
    stays t (place_in_lem _ _ _ _ c.requires.row c.requires.col) (sym c.if-a-eq0.true ∙ own_paint c.args.at c.requires.col rows)

pub trimmed-b-requires : goal.trimmed-b-requires
trimmed-b-requires c =
    let small = c.requires.paints.small (spot_place c.args.at) (omega (arith, c.requires)) (omega arith) in
    (omega (arith, c.if-a-eq0), rw (own_place c.args.at c.requires.col) at small)

pub returns : goal.returns
returns c old rows t =
    let b = c.trimmed-b.ensures.result_nonzero in
    rw (to_z_pos w32 {n = c.trimmed-b.result - 1} (omega arith))
    (becomes t (place_in_lem _ _ _ _ c.requires.row c.requires.col) _ _ (own_paint c.args.at c.requires.col rows) (omega (arith, c.if-a-eq0)) (c.trimmed-b.ensures.sees old (shown c.requires.col rows t)) b.0)
