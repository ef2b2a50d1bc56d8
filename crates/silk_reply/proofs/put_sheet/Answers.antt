-- `put_sheet`: a result of `run` fits into the buffer. Assumes nothing.
use Rattle.std.proofs.Common.{arith}
use Rattle.silk_reply.proofs.Replying.{sheet_refused, sheet_put}
use Rattle.silk_reply.proofs.put_sheet.Goals as goal

pub returns-in-Ok : goal.returns-in-Ok
returns-in-Ok c =
    sheet_put _ _ _ c.run_sheet.ensures c.in-Ok.is (omega arith) c.print_result.ensures.value c.print_result.ensures.out_after c.unwrap_or.ensures

pub returns-in-Err : goal.returns-in-Err
returns-in-Err c = rw (sheet_refused _ _ _ c.run_sheet.ensures c.in-Err.is) (rw c.number.ensures at c.put_refusal.ensures)
