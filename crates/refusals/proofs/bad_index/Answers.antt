-- One of the cells names an entry past the count. Assumes nothing.
use Rattle.std.proofs.Common.{◌≡◌, ◌∙◌, ℤ, Bool, length, ap, true, false, pos, rules, tests}
use Rattle.std.proofs.lemmas.Iterator.{YieldsList-from_slice, cases_from_any}
use Rattle.std.specs.Int.Signed.{le_z}
use Rattle.base.proofs.Counting.{any_same}
use Rattle.base.proofs.Ranges.{any-from_list}
use Rattle.rules.proofs.Reading.{read_at}
use Rattle.refusals.proofs.bad_index.Goals as goal

pub returns : goal.returns
returns c =
    let past : ℤ → Bool = (λ z. le_z (pos c.args.k) z) in
    let cells = c.args.cells.now in
    any-from_list cells past (pos 0) c.any.result
    (cases_from_any _ _ _ (λ z. past z ≡ true) (λ z. past z ≡ false) c.any.ensures.ran (YieldsList-from_slice cells cc) (λ x q k. search (rules, tests)) (λ x q k. search (rules, tests)))
    ∙ any_same (length cells) _ _ (λ p l. ap past (read_at cells p l))
