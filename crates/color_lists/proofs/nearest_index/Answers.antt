-- `nearest_index`: it writes if nothing is refused, and else nothing. Assumes nothing.
use Rattle.std.proofs.Common.{◌+◌, ◌*◌, ◌<◌, length, arith, rules}
use Rattle.base.proofs.Refusing.{some_unless, none_unless, answered_some, answered_none}
use Rattle.color_lists.specs.Entries.{written, colours, nearest_at, nearest_out}
use Rattle.color_lists.proofs.Answers.{nearest_room}
use Rattle.color_lists.proofs.nearest_index.Goals as goal

pub returns-in_err-nearest_answer-clause-out_after : goal.returns-in_err-nearest_answer-clause-out_after
unfolding written nearest_out
returns-in_err-nearest_answer-clause-out_after c = some_unless _ _ (answered_some tt c.nearest_answer.ensures c.in_err-nearest_answer.was)

pub fill-requires-clause-callable : goal.fill-requires-clause-callable
unfolding colours
fill-requires-clause-callable c = λ i h.
    let r = (nearest_room _ _ _ (answered_none tt c.nearest_answer.ensures c.in_ok-nearest_answer.was)).0 in
    let a : 3 * i + 2 < length c.args.pixels.now = omega arith in
    search rules

pub fill-requires-clause-room : goal.fill-requires-clause-room
unfolding colours
fill-requires-clause-room c = (nearest_room _ _ _ (answered_none tt c.nearest_answer.ensures c.in_ok-nearest_answer.was)).1

pub returns-clause-out_after : goal.returns-clause-out_after
unfolding written colours nearest_at nearest_out
returns-clause-out_after c =
    none_unless _ _ (answered_none tt c.nearest_answer.ensures c.in_ok-nearest_answer.was)
    (c.fill.ensures (nearest_at c.args.pixels.now c.args.palette.now) (λ i r h k. search rules))
