-- `verdicts::voting::ask`: one cell. Assumes nothing.
use Rattle.std.proofs.Common.{◌≡◌, ◌+◌, ◌-◌, ◌*◌, refl, sym, ◌∙◌, get_or, arith}
use Rattle.grid.proofs.Planes.{plane_read}
use Rattle.verdicts.proofs.Votes.{voter, tally_le, polled_silent, polled_cast}
use Rattle.verdicts.proofs.voting.ask.Goals as goal
use Rattle.verdicts.proofs.voting.ask.Goals.{then-small-via-then-small, then-small-via-else-small+then-last-mark}

pub returns-then-small : goal.returns-then-small
returns-then-small c =
    let mark = plane_read c.args.n 5 c.args.q (5 * c.args.n + c.args.q) c.args.work.now refl in
    elim c.then-small.branch [
      | then-small-via-then-small w ↦ polled_silent c.args.n c.args.mark.word (λ e. omega (arith, c.args.mark.set)) c.args.q c.requires.q_lt_n c.args.work.now c.args.counts.now c.requires.tallied (λ z. absurd (z (sym mark ∙ w.if-small.true)))
      | then-small-via-else-small+then-last-mark w ↦ polled_silent c.args.n c.args.mark.word (λ e. omega (arith, c.args.mark.set)) c.args.q c.requires.q_lt_n c.args.work.now c.args.counts.now c.requires.tallied (λ z. sym mark ∙ w.if-last-mark.true)
    ]

pub overflow_sub-c : goal.overflow_sub-c
overflow_sub-c c = omega (arith, voter c.requires.can_vote c.requires.q_lt_n c.if-small.false)

pub bounds-counts-c : goal.bounds-counts-c
bounds-counts-c c = omega (arith, voter c.requires.can_vote c.requires.q_lt_n c.if-small.false)

pub overflow_add-counts : goal.overflow_add-counts
overflow_add-counts c =
    let v = voter c.requires.can_vote c.requires.q_lt_n c.if-small.false in
    omega (arith, tally_le c.requires.tallied (get_or c.args.work.now c.args.q 0 - 1) (omega (arith, v)), c.requires.can_vote.few)

pub bounds-counts-c-2 : goal.bounds-counts-c-2
bounds-counts-c-2 c = omega (arith, voter c.requires.can_vote c.requires.q_lt_n c.if-small.false)

pub returns : goal.returns
returns c =
    let v = voter c.requires.can_vote c.requires.q_lt_n c.if-small.false in
    let e : get_or c.args.work.now c.args.q 0 ≡ get_or c.args.work.now c.args.q 0 - 1 + 1 = omega (arith, v) in
    polled_cast c.args.n c.args.mark.word (λ z. omega (arith, c.args.mark.set)) c.args.q c.requires.q_lt_n c.args.work.now c.args.counts.now c.requires.tallied
    (get_or c.args.work.now c.args.q 0 - 1) (5 * c.args.n + c.args.q) refl (omega (arith, c.requires.can_vote.room, c.requires.q_lt_n)) v.large
    (λ z. c.if-last-mark.false (plane_read c.args.n 5 c.args.q (5 * c.args.n + c.args.q) c.args.work.now refl ∙ z)) (sym v.is ∙ e) (omega (arith, v))
