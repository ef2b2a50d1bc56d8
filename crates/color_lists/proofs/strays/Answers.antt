-- `strays`: all values are in range, or one is not. Assumes nothing.
use Rattle.std.proofs.Common.{rules, ◌≡◌, true, false}
use Rattle.std.proofs.lemmas.Iterator.{YieldsList-from_slice, cases_from_all}
use Rattle.color.specs.Lab.{within}
use Rattle.color_lists.proofs.Answers.{strays_told}
use Rattle.color_lists.proofs.strays.Goals as goal

pub returns : goal.returns
returns c =
    strays_told c.args.list.now c.all.result
    (cases_from_all _ _ _ (λ x. within x ≡ true) (λ x. within x ≡ false) c.all.ensures.ran (YieldsList-from_slice c.args.list.now cc) (λ x q k. search rules) (λ x q k. search rules))
