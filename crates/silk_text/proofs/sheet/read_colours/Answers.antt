use Rattle.std.proofs.Common.{◌*◌, ◌∙◌, sym, ap, refl, arith}
use Rattle.std.proofs.lemmas.Result.{err_from_is_err_and}
use Rattle.rules.specs.Palette.{recoloured}
use Rattle.silk_text.specs.Format.{doubles, colour_lines}
use Rattle.silk_text.proofs.Laying.{onto_yes, onto_not, recoloured-laid}
use Rattle.silk_text.proofs.Repeating.{going_none, going_more, going_refused, going_all}
use Rattle.silk_text.proofs.sheet.read_colours.Goals as goal

pub loop-i-init : goal.loop-i-init
loop-i-init c = going_none 3 _

pub returns-in_err-c : goal.returns-in_err-c
unfolding colour_lines
returns-in_err-c c =
    let p = err_from_is_err_and c.from_residual.result c.from_residual.ensures.1 in
    rw (p.1, p.2) (sym (onto_not _ _ _ (rw (going_refused 3 _ c.loop-i.invariant c.loop-i-test.true (sym c.in_err-c.ensures.value)))))

pub loop-i-preserved : goal.loop-i-preserved
unfolding doubles
loop-i-preserved c =
    let new = c.recolour.ensures ∙ ap (recoloured c.loop-i.palette c.loop-i.i) c.rgb8_to_lab_one.ensures ∙ recoloured-laid c.loop-i.palette c.loop-i.i c.in_ok-c.c (omega arith) in
    going_more 3 _ c.loop-i.invariant c.loop-i-test.true (sym c.in_ok-c.ensures.value) refl (omega arith) {place = 3 * c.loop-i.i} new (omega arith)

pub returns : goal.returns
unfolding colour_lines
returns c =
    let g = c.loop-i.invariant in
    sym (onto_yes _ _ _ (rw (going_all 3 _ g c.loop-i-test.false)) (sym g.list))
