-- `delta_e`: it writes if nothing is refused, and else nothing. Assumes nothing.
use Rattle.std.proofs.Common.{◌+◌, ◌*◌, ◌<◌, length, arith, rules}
use Rattle.base.proofs.Refusing.{some_unless, none_unless, answered_some, answered_none}
use Rattle.color_lists.specs.Entries.{written, colours, delta_at, delta_e_out}
use Rattle.color_lists.proofs.Answers.{delta_e_room}
use Rattle.color_lists.proofs.delta_e.Goals as goal

pub returns-in_err-delta_e_answer-clause-out_after : goal.returns-in_err-delta_e_answer-clause-out_after
unfolding written delta_e_out
returns-in_err-delta_e_answer-clause-out_after c = some_unless _ _ (answered_some tt c.delta_e_answer.ensures c.in_err-delta_e_answer.was)

pub fill-requires-clause-callable : goal.fill-requires-clause-callable
unfolding colours
fill-requires-clause-callable c = λ i h.
    let r = delta_e_room _ _ _ (answered_none tt c.delta_e_answer.ensures c.in_ok-delta_e_answer.was) in
    let e = r.0 in
    let a : 3 * i + 2 < length c.args.a.now = omega arith in
    let b : 3 * i + 2 < length c.args.b.now = omega arith in
    search rules

pub fill-requires-clause-room : goal.fill-requires-clause-room
unfolding colours
fill-requires-clause-room c = (delta_e_room _ _ _ (answered_none tt c.delta_e_answer.ensures c.in_ok-delta_e_answer.was)).1

pub returns-clause-out_after : goal.returns-clause-out_after
unfolding written colours delta_at delta_e_out
returns-clause-out_after c =
    none_unless _ _ (answered_none tt c.delta_e_answer.ensures c.in_ok-delta_e_answer.was) (c.fill.ensures (delta_at c.args.a.now c.args.b.now) (λ i r h k. search rules))
