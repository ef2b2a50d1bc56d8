-- `rgb8_to_lab`: it writes if nothing is refused, and else nothing. Assumes nothing.
use Rattle.std.proofs.Common.{rules}
use Rattle.base.proofs.Refusing.{some_unless, none_unless, answered_some, answered_none}
use Rattle.color.specs.Lab.{rgb8_to_lab}
use Rattle.color_lists.specs.Entries.{written, byte_entry, colours, lab_part, lab_at, rgb8_to_lab_out}
use Rattle.color_lists.proofs.Answers.{rgb8_to-lab_room}
use Rattle.color_lists.proofs.rgb8_to_lab.Goals as goal

pub returns-in_err-rgb8_to_lab_answer-clause-out_after : goal.returns-in_err-rgb8_to_lab_answer-clause-out_after
unfolding written rgb8_to_lab_out
returns-in_err-rgb8_to_lab_answer-clause-out_after c = some_unless _ _ (answered_some tt c.rgb8_to_lab_answer.ensures c.in_err-rgb8_to_lab_answer.was)

pub fill_threes-requires-clause-room : goal.fill_threes-requires-clause-room
unfolding colours
fill_threes-requires-clause-room c = rgb8_to-lab_room _ _ (answered_none tt c.rgb8_to_lab_answer.ensures c.in_ok-rgb8_to_lab_answer.was)

pub returns-clause-out_after : goal.returns-clause-out_after
unfolding written colours lab_at lab_part rgb8_to_lab_out
returns-clause-out_after c =
    none_unless _ _ (answered_none tt c.rgb8_to_lab_answer.ensures c.in_ok-rgb8_to_lab_answer.was) (c.fill_threes.ensures (λ i k. lab_part (rgb8_to_lab (byte_entry c.args.rgb8.now i)) k) (λ i r h k. search rules))
