-- `run_sheet`: the call is the one that the head makes. Assumes nothing.
use Rattle.std.proofs.Common.{ℕ, rules, arith}
use lib.ListN.{length-replicate}
use Rattle.silk_reply.proofs.Replying.{called}
use Rattle.silk_reply.proofs.run_sheet.Goals as goal

pub returns : goal.returns
returns c =
    let args = c.args in
    called args.h args.palette.now args.cells.now (search rules) (length-replicate {A = ℕ} _ 0) (omega arith) c.run.ensures
