-- `lab_to_rgb8`: it writes if nothing is refused, and else nothing. Assumes nothing.
use Rattle.std.proofs.Common.{rules}
use Rattle.base.proofs.Refusing.{some_unless, none_unless, answered_some, answered_none}
use Rattle.color.specs.Lab.{entry, lab_to_rgb8}
use Rattle.color_lists.specs.Entries.{written, colours, rgb8_part, rgb8_at, lab_to_rgb8_out}
use Rattle.color_lists.proofs.Answers.{lab-to_rgb8_room}
use Rattle.color_lists.proofs.lab_to_rgb8.Goals as goal

pub returns-in_err-lab_to_rgb8_answer-clause-out_after : goal.returns-in_err-lab_to_rgb8_answer-clause-out_after
unfolding written lab_to_rgb8_out
returns-in_err-lab_to_rgb8_answer-clause-out_after c = some_unless _ _ (answered_some tt c.lab_to_rgb8_answer.ensures c.in_err-lab_to_rgb8_answer.was)

pub fill_threes-requires-clause-room : goal.fill_threes-requires-clause-room
unfolding colours
fill_threes-requires-clause-room c = lab-to_rgb8_room _ _ (answered_none tt c.lab_to_rgb8_answer.ensures c.in_ok-lab_to_rgb8_answer.was)

pub returns-clause-out_after : goal.returns-clause-out_after
unfolding written colours rgb8_at rgb8_part lab_to_rgb8_out
returns-clause-out_after c =
    none_unless _ _ (answered_none tt c.lab_to_rgb8_answer.ensures c.in_ok-lab_to_rgb8_answer.was) (c.fill_threes.ensures (λ i k. rgb8_part (lab_to_rgb8 (entry c.args.lab.now i)) k) (λ i r h k. search rules))
