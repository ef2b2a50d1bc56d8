-- `palette_distance_matrix`: it writes if nothing is refused, and else nothing. Assumes nothing.
use Rattle.std.proofs.Common.{◌/◌, length, arith, rules}
use Rattle.base.proofs.Refusing.{some_unless, none_unless, answered_some, answered_none}
use Rattle.color_lists.specs.Entries.{written, colours, matrix_at, matrix_out}
use Rattle.color_lists.proofs.Answers.{matrix_room}
use Rattle.color_lists.proofs.Fillings.{square_le}
use Rattle.color_lists.proofs.palette_distance_matrix.Goals as goal

pub returns-in_err-matrix_answer-clause-out_after : goal.returns-in_err-matrix_answer-clause-out_after
unfolding written matrix_out
returns-in_err-matrix_answer-clause-out_after c = some_unless _ _ (answered_some tt c.matrix_answer.ensures c.in_err-matrix_answer.was)

pub overflow_mul-n : goal.overflow_mul-n
unfolding colours
overflow_mul-n c =
    let r = matrix_room _ _ (answered_none tt c.matrix_answer.ensures c.in_ok-matrix_answer.was) in
    let s = square_le (length c.args.palette.now / 3) r.0 in
    omega arith

pub fill-requires-clause-room : goal.fill-requires-clause-room
unfolding colours
fill-requires-clause-room c = (matrix_room _ _ (answered_none tt c.matrix_answer.ensures c.in_ok-matrix_answer.was)).1

pub returns-clause-out_after : goal.returns-clause-out_after
unfolding written colours matrix_at matrix_out
returns-clause-out_after c =
    none_unless _ _ (answered_none tt c.matrix_answer.ensures c.in_ok-matrix_answer.was) (c.fill.ensures (matrix_at c.args.palette.now) (λ i r h k. search rules))
