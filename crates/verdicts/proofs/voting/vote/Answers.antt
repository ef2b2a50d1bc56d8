-- `verdicts::voting::vote`: the cell that a step finds. Assumes nothing.
use Rattle.std.proofs.Common.{sym}
use Rattle.grid.proofs.Places.{step_sound}
use Rattle.verdicts.proofs.voting.vote.Goals as goal

pub ask-requires-clause-q_lt_n : goal.ask-requires-clause-q_lt_n
ask-requires-clause-q_lt_n c = (step_sound _ _ _ _ _ _ _ (sym c.in-Some.ensures)).inside
