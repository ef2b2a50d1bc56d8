-- `frontier::growing::absorb_all`: the groups of the log. Assumes nothing.
use Rattle.std.proofs.Common.{refl, inl, inr, arith}
use Rattle.verdicts.proofs.Keeping.{group-alike}
use Rattle.verdicts.proofs.Spans.{within-to}
use Rattle.frontier.proofs.Turns.{within_end}
use Rattle.frontier.proofs.Gains.{gained_start, gained_same, gained_alike}
use Rattle.frontier.proofs.Around.{logged_turn, logged_on}
use Rattle.frontier.proofs.growing.absorb_all.Goals as goal

pub loop-i-init : goal.loop-i-init
loop-i-init c = record { gained = gained_start _ _ _ _ c.requires.growth (λ q l y w. let f = y.1 in let g = y.2 in absurd (omega arith)); low = omega arith; high = inr refl }

pub absorb_around-last-requires : goal.absorb_around-last-requires
absorb_around-last-requires c =
    let u = c.loop-i.invariant in
    let turn = logged_turn u.gained c.requires.growth c.loop-i-test.true (c.requires.by_index _ u.low c.loop-i-test.true) in
    (u.gained.growth, group-alike (gained_alike u.gained) _ turn.group)

pub loop-i-preserved : goal.loop-i-preserved
loop-i-preserved c =
    let u = c.loop-i.invariant in
    let turn = logged_turn u.gained c.requires.growth c.loop-i-test.true (c.requires.by_index _ u.low c.loop-i-test.true) in
    record { gained = logged_on u.gained u.low turn.is c.absorb_around-last.ensures; low = omega arith; high = inl (omega arith) }

pub returns : goal.returns
returns c = let u = c.loop-i.invariant in gained_same (λ q l z. within_end u.high z) (λ q l z. within-to c.loop-i-test.false z) u.gained
