-- `six_digits`: six bytes, each pair of them digits, or else no colour. Assumes nothing.
use Rattle.std.proofs.Common.{sym, arith}
use Rattle.std.proofs.lemmas.Grind.{common_steps}
use Rattle.hex_colour.proofs.Digits.{six-length, six_no, six_yes}
use Rattle.hex_colour.proofs.six_digits.Goals as goal

pub returns-in_default : goal.returns-in_default
returns-in_default c = sym (six-length _ (λ e. omega arith))

pub returns-in_default-2 : goal.returns-in_default-2
returns-in_default-2 c = sym (six-length _ (λ e. omega arith))

pub returns-in_err-pair : goal.returns-in_err-pair
returns-in_err-pair c = let e = six_no c.args.text.now 0 (omega arith) (omega arith) c.in_err-pair.ensures in grind (arith, common_steps, e)

pub returns-in_err-pair-2 : goal.returns-in_err-pair-2
returns-in_err-pair-2 c = let e = six_no c.args.text.now 2 (omega arith) (omega arith) c.in_err-pair-2.ensures in grind (arith, common_steps, e)

pub returns-in_err-pair-3 : goal.returns-in_err-pair-3
returns-in_err-pair-3 c = let e = six_no c.args.text.now 4 (omega arith) (omega arith) c.in_err-pair-3.ensures in grind (arith, common_steps, e)

pub returns : goal.returns
returns c = sym (six_yes c.args.text.now _ _ _ (omega arith) c.in_ok-pair.ensures c.in_ok-pair-2.ensures c.in_ok-pair-3.ensures)
