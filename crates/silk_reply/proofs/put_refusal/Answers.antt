-- `put_refusal`: there is room for any refusal's number. Assumes nothing.
use Rattle.std.proofs.Common.{arith}
use Rattle.silk_reply.proofs.Putting.{refusal_put}
use Rattle.silk_reply.proofs.put_refusal.Goals as goal

pub returns : goal.returns
returns c = refusal_put c.args.n (omega arith) c.print_refusal.ensures.value c.print_refusal.ensures.out_after c.unwrap_or.ensures
