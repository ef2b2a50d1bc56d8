use Rattle.std.proofs.Common.{◌≡◌, ◌∙◌, ◌==◌, Some, position, arith}
use Rattle.std.proofs.lemmas.Grind.{common_steps}
use Rattle.silk_reader.proofs.Scanning.{hex_read}
use Rattle.silk_reader.proofs.Cursor.hex_line.Goals as goal

pub returns-in_err-colour-clause-value : goal.returns-in_err-colour-clause-value
returns-in_err-colour-clause-value c =
    let p : position (λ x. x == 10) c.args.self.now.rest.now ≡ Some c.in_ok-end.end = grind (arith, common_steps) in
    let e : c.from_residual-in_err-colour.result ≡ c.hex_to_rgb8.result = grind (arith, common_steps) in
    let q = e ∙ c.in_err-colour.was in
    rw q (rw q at (hex_read _ _ p c.split_at.ensures.front c.split_at.ensures.back (e ∙ c.hex_to_rgb8.ensures)))

pub returns-clause-value : goal.returns-clause-value
returns-clause-value c =
    let p : position (λ x. x == 10) c.args.self.now.rest.now ≡ Some c.in_ok-end.end = grind (arith, common_steps) in
    rw c.in_ok-colour.was at (hex_read _ _ p c.split_at.ensures.front c.split_at.ensures.back c.hex_to_rgb8.ensures)
