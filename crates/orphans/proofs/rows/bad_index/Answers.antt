-- `orphans::rows::bad_index`: the cells judged are the first n of the list. Assumes nothing.
use mir.Facts.{to_z-of_z}
use Rattle.std.proofs.Common.{◌≡◌, ℕ, true, ap, sym, ◌∙◌, pos, take}
use lib.Signed.{le_z}
use lib.Seq.{length-take-le}
use Rattle.base.specs.Places.{any}
use Rattle.rules.specs.Regions.{at}
use Rattle.orphans.proofs.rows.bad_index.Goals as goal

pub returns-then-some_small : goal.returns-then-some_small
returns-then-some_small c =
    let a = c.args in
    let front = take a.n a.cells.now in
    let small : le_z (pos 2) a.region ≡ true = sym (c.some_small.ensures ∙ ap (le_z (pos 2)) (to_z-of_z c.ranges.region)) ∙ c.if-some_small.true in
    rw small (c.bad_index.ensures ∙ ap (λ (m : ℕ). any m (λ p. le_z (pos a.k) (at front p))) (length-take-le a.n a.cells.now c.requires.1))
