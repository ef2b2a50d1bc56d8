-- The fold: whether the doubles so far are near. Assumes nothing.
use Rattle.std.proofs.Common.{rules, subst}
use Rattle.std.proofs.lemmas.Fn.{fold_over, slice_gives, fronts}
use Rattle.refusals.specs.Near.{near}
use Rattle.refusals.proofs.Nearness.{Holds, holds_none, holds_more, holds_all}
use Rattle.refusals.proofs.all_near.Goals as goal

pub returns : goal.returns
unfolding near
returns c =
    let e = c.args.entries in
    holds_all c.args.reach (record { lab = e.lab.now; count = e.k }) e.room.0
    (subst (λ l. Holds c.args.reach l c.fold.result) c.iter.ensures.rest
    (fold_over fronts (λ y. y.now) _ (λ ys b. Holds c.args.reach ys b) _ (λ ys a x b f' j k. let step = holds_more c.args.reach ys x.now {a = a} {b = b} j in search rules)
    _ _ _ _ (slice_gives c.iter.result) (holds_none c.args.reach) c.fold.ensures.ran))
