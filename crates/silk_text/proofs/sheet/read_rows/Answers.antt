use Rattle.std.proofs.Common.{◌≡◌, ◌*◌, ℕ, refl, sym, ap, ◌∙◌, arith}
use Rattle.std.proofs.lemmas.Result.{err_from_is_err_and}
use Rattle.silk_reader.specs.Reader.{got, refused}
use Rattle.silk_text.specs.Format.{row_line, row_lines}
use Rattle.silk_text.proofs.Laying.{mid_laid, onto_yes, onto_not}
use Rattle.silk_text.proofs.Repeating.{going_none, going_more, going_refused, going_all}
use Rattle.silk_text.proofs.Whole.{row-length, row_end, part_length}
use Rattle.silk_text.proofs.sheet.read_rows.Goals as goal

pub loop-y-init : goal.loop-y-init
loop-y-init c = going_none _ _

pub returns-in_err-read_row : goal.returns-in_err-read_row
unfolding row_lines
returns-in_err-read_row c =
    let p = err_from_is_err_and c.from_residual.result c.from_residual.ensures.1 in
    let n = part_length c.args.h c.args.w c.loop-y.y c.loop-y.cells (omega arith) c.loop-y-test.true in
    let q : refused c.in_err-read_row.field-0.0 ≡ row_line c.args.w c.loop-y.text.rest.now = c.in_err-read_row.ensures ∙ ap (λ (k : ℕ). row_line k c.loop-y.text.rest.now) n in
    rw (p.1, p.2) (sym (onto_not _ _ _ (rw (going_refused _ _ c.loop-y.invariant c.loop-y-test.true (sym q)))))

pub loop-y-preserved : goal.loop-y-preserved
loop-y-preserved c =
    let n = part_length c.args.h c.args.w c.loop-y.y c.loop-y.cells (omega arith) c.loop-y-test.true in
    let q : got c.read_row.new.row c.read_row.new.text.rest.now ≡ row_line c.args.w c.loop-y.text.rest.now = c.in_ok-read_row.ensures ∙ ap (λ (k : ℕ). row_line k c.loop-y.text.rest.now) n in
    let r = row-length _ _ (sym q) in
    going_more _ _ c.loop-y.invariant c.loop-y-test.true (sym q) r (row_end c.args.h c.args.w _ c.loop-y.y c.requires c.loop-y-test.true) {place = c.loop-y.y * c.args.w} (mid_laid _ _ _ _ refl (omega (arith, r))) refl

pub returns : goal.returns
unfolding row_lines
returns c =
    let g = c.loop-y.invariant in
    sym (onto_yes _ _ _ (rw (going_all _ _ g c.loop-y-test.false)) (sym g.list))
