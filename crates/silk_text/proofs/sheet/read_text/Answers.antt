use Rattle.std.proofs.Common.{◌≡◌, ◌+◌, ◌<◌, length, sym, ◌∙◌, arith}
use Rattle.std.proofs.lemmas.Result.{err_from_is_err_and}
use Rattle.std.proofs.lemmas.Bool.Decides.{nat_tests}
use Rattle.silk_text.proofs.Whole.{parts_steps, ended_none, ended-more}
use Rattle.silk_text.proofs.sheet.read_text.Goals as goal
use Rattle.silk_text.proofs.sheet.read_text.Goals.{then-left_over-via-then-left_over, then-left_over-via-else-left_over+then-not-is_empty}

pub returns-in_err-h : goal.returns-in_err-h
returns-in_err-h c =
    let p = err_from_is_err_and c.from_residual.result c.from_residual.ensures.1 in
    let s = parts_steps c.args.palette.now c.args.cells.now c.args.text.now c.min.ensures (c.new-rest.ensures ∙ c.split_at.ensures.front) c.split_at.ensures.back in
    rw (p.1, p.2, s, ← c.in_err-h.ensures)

pub returns-then-left_over : goal.returns-then-left_over
returns-then-left_over c =
    let s = parts_steps c.args.palette.now c.args.cells.now c.args.text.now c.min.ensures (c.new-rest.ensures ∙ c.split_at.ensures.front) c.split_at.ensures.back in
    let t : 0 < length c.read_file.new.text.rest.now + length c.split_at.result.1.now =
    elim c.then-left_over.branch [ then-left_over-via-then-left_over w ↦ grind (arith, nat_tests) | then-left_over-via-else-left_over+then-not-is_empty w ↦ grind (arith, nat_tests) ] in
    rw (s, ← c.in_ok-h.ensures) (sym (ended-more _ c.read_file.new.text.rest.now c.split_at.result.1.now t))

pub returns : goal.returns
returns c =
    let s = parts_steps c.args.palette.now c.args.cells.now c.args.text.now c.min.ensures (c.new-rest.ensures ∙ c.split_at.ensures.front) c.split_at.ensures.back in
    let r : length c.read_file.new.text.rest.now ≡ 0 = grind (arith, nat_tests) in
    let b : length c.split_at.result.1.now ≡ 0 = grind (arith, nat_tests) in
    rw (s, ← c.in_ok-h.ensures) (sym (ended_none _ c.read_file.new.text.rest.now c.split_at.result.1.now r b))
