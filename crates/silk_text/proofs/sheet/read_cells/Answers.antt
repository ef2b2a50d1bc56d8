use Rattle.std.proofs.Common.{◌≡◌, refl, sym, arith}
use Rattle.std.proofs.lemmas.Result.{err_from_is_err_and}
use Rattle.std.proofs.lemmas.Int.{ints, to_z-of_z}
use mir.Syntax.{w32}
use mir.Val.{to_z, of_z}
use Rattle.silk_text.proofs.Laying.{laid_one}
use Rattle.silk_text.proofs.Repeating.{going_none, going_more, going_refused, going_whole}
use Rattle.silk_text.proofs.sheet.read_cells.Goals as goal

pub loop-x-init : goal.loop-x-init
loop-x-init c = going_none 1 _

pub returns-in_err-cell : goal.returns-in_err-cell
returns-in_err-cell c =
    let p = err_from_is_err_and c.from_residual.result c.from_residual.ensures.1 in
    rw (p.1, p.2) (sym (going_refused 1 _ c.loop-x.invariant (omega arith) (sym c.in_err-cell.ensures.value)))

pub loop-x-preserved : goal.loop-x-preserved
loop-x-preserved c =
    let g = c.loop-x.invariant in
    let e : to_z w32 (of_z w32 c.in_ok-cell.field-0) ≡ c.in_ok-cell.field-0 = grind (arith, ints, to_z-of_z) in
    rw e (going_more 1 _ g (omega arith) (sym c.in_ok-cell.ensures.value) refl (omega (arith, g.kept)) {place = c.loop-x.x} (laid_one _ _ _ (omega (arith, g.kept))) (omega arith))

pub returns : goal.returns
returns c = going_whole c.loop-x.invariant (omega arith)
