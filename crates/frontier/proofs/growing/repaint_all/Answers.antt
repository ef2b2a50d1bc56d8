-- `frontier::growing::repaint_all`: the groups of the log. Assumes nothing.
use Rattle.std.proofs.Common.{refl, sym, ◌∙◌, arith}
use Rattle.std.proofs.Common.{inl, inr, ⊎_elim}
use Rattle.verdicts.proofs.Spans.{within_more, more_within, within-to}
use Rattle.frontier.proofs.Turns.{within_end}
use Rattle.frontier.proofs.Repaints.{repainted_start, repainted_same, repainted_on, repainted_group, repainted_turn}
use Rattle.frontier.proofs.growing.repaint_all.Goals as goal

pub loop-i-init : goal.loop-i-init
loop-i-init c = record { done = repainted_start _ _ _ (λ l z. let y = z.1 in let x = z.2 in absurd (omega arith)); low = omega arith; high = inr refl }

pub repaint-requires : goal.repaint-requires
repaint-requires c =
    let b = c.requires.planes in
    let u = c.loop-i.invariant in
    let group = c.requires.by_index _ u.low c.loop-i-test.true in
    let turn = repainted_turn b.0.few b.0.room b.1 c.loop-i-test.true u.done group.0 in
    record {
      planes = record { few = turn.few; room = turn.room };
      group = (repainted_group u.done turn.group, rw (u.done.same 6 _ (λ z. absurd (omega arith)) (λ z. absurd (omega arith)) turn.label, turn.is) group.1);
    }

pub loop-i-preserved : goal.loop-i-preserved
loop-i-preserved c =
    let b = c.requires.planes in
    let u = c.loop-i.invariant in
    let group = c.requires.by_index _ u.low c.loop-i-test.true in
    let turn = repainted_turn b.0.few b.0.room b.1 c.loop-i-test.true u.done group.0 in
    record {
      done = repainted_same
          (λ l. ⊎_elim (λ z. more_within u.low (inl z)) (λ z. more_within u.low (inr (sym turn.is ∙ sym z))))
          (λ l z. ⊎_elim inl (λ y. inr (sym y ∙ sym turn.is)) (within_more z))
          (repainted_on c.args.n _ c.args.work.now c.loop-i.work c.repaint.new.work _ turn.label u.done c.repaint.ensures);
      low = omega arith;
      high = inl (omega arith);
    }

pub returns : goal.returns
returns c = let u = c.loop-i.invariant in repainted_same (λ l z. within_end u.high z) (λ l z. within-to c.loop-i-test.false z) u.done
