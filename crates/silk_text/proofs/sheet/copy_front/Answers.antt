use Rattle.std.proofs.Common.{sym, ◌∙◌, arith}
use Rattle.std.proofs.lemmas.List.{length-take-le}
use Rattle.silk_text.proofs.Laying.{mid_laid, laid_over}
use Rattle.silk_text.proofs.sheet.copy_front.Goals as goal

pub returns : goal.returns
returns g c =
    mid_laid 0 c.args.n c.args.to.now c.copy_from_slice.new.self c.copy_from_slice.ensures.after (sym (length-take-le c.args.n c.args.from.now (omega arith)))
    ∙ laid_over _ _
