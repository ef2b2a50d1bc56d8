-- `read`: a refused text leaves both lists, and one that was read stands at their fronts. Assumes nothing.
use Rattle.std.proofs.Common.{sym, ap, arith}
use Rattle.std.proofs.lemmas.Result.{err_from_is_err_and}
use Rattle.std.specs.Prelude.{◌≡◌}
use Rattle.silk_reader.specs.Reader.{refused}
use Rattle.silk_text.specs.Answers.{read_into, read_answer, read_palette, read_cells}
use Rattle.silk_text.proofs.Keeping.{Handed, read_no, handed}
use Rattle.silk_text.proofs.sheet.read.Goals.{In_ok-h, In_err-h}
use Rattle.silk_text.proofs.sheet.read.Goals as goal

-- a text that was refused, and one that was read
refusal : (c : In_err-h) → read_into c.args.text.now c.args.palette.now c.args.cells.now ≡ refused c.in_err-h.field-0.0
refusal c = read_no c.args.text.now c.args.palette.now c.args.cells.now (omega arith) (omega arith) _ _ c.in_err-h.ensures

file : (c : In_ok-h) → Handed c.args.text.now c.args.palette.now c.args.cells.now c.in_ok-h.h c.read_text.new.palette c.read_text.new.cells
file c = handed c.args.text.now c.args.palette.now c.args.cells.now (omega arith) (omega arith) _ _ c.in_ok-h.ensures

pub returns-in_err-h-clause-value : goal.returns-in_err-h-clause-value
unfolding read_answer
returns-in_err-h-clause-value c =
    let p = err_from_is_err_and c.from_residual.result c.from_residual.ensures.1 in
    let n = refusal (goal.at.returns-in_err-h-clause-value c).In_err-h in
    rw (p.1, p.2, n)

pub returns-in_err-h-clause-palette_after : goal.returns-in_err-h-clause-palette_after
unfolding read_palette
returns-in_err-h-clause-palette_after c =
    sym (ap (λ g. read_palette g c.args.palette.now) (refusal (goal.at.returns-in_err-h-clause-palette_after c).In_err-h))

pub returns-in_err-h-clause-cells_after : goal.returns-in_err-h-clause-cells_after
unfolding read_cells
returns-in_err-h-clause-cells_after c =
    sym (ap (λ g. read_cells g c.args.cells.now) (refusal (goal.at.returns-in_err-h-clause-cells_after c).In_err-h))

pub overflow_mul-doubles : goal.overflow_mul-doubles
overflow_mul-doubles c =
    let h = file (goal.at.overflow_mul-doubles c).In_ok-h in
    omega (arith, h.few)

pub copy_front-requires : goal.copy_front-requires
copy_front-requires c =
    let h = file (goal.at.copy_front-requires c).In_ok-h in
    (omega (arith, h.few), omega (arith, h.few))

pub overflow_mul-places : goal.overflow_mul-places
overflow_mul-places c =
    let h = file (goal.at.overflow_mul-places c).In_ok-h in
    omega (arith, h.held)

pub copy_front-requires-2 : goal.copy_front-requires-2
copy_front-requires-2 c =
    let h = file (goal.at.copy_front-requires-2 c).In_ok-h in
    (omega (arith, h.held), omega (arith, h.held))

pub returns-clause-value : goal.returns-clause-value
unfolding read_answer
returns-clause-value c =
    let h = file (goal.at.returns-clause-value c).In_ok-h in
    rw h.read

pub returns-clause-palette_after : goal.returns-clause-palette_after
unfolding read_palette
returns-clause-palette_after c =
    let h = file (goal.at.returns-clause-palette_after c).In_ok-h in
    rw h.read c.copy_front.ensures

pub returns-clause-cells_after : goal.returns-clause-cells_after
unfolding read_cells
returns-clause-cells_after c =
    let h = file (goal.at.returns-clause-cells_after c).In_ok-h in
    rw h.read c.copy_front-2.ensures
