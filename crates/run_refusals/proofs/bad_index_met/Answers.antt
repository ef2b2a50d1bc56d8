-- Cleaning is on, regions can be small, and one of the sheet's cells names no entry. Assumes nothing.
use Rattle.std.proofs.Common.{◌≡◌, ◌∙◌, ℕ, true, false, refl, sym, ap, rules, arith, pos, take, to_z, of_z, w32, to_z-of_z, ◌*◌}
use lib.Signed.{le_z}
use lib.Seq.{length-take-le}
use Rattle.base.specs.Places.{any}
use Rattle.rules.specs.Regions.{at}
use Rattle.rules.specs.Sheet.{area, sheet_of}
use Rattle.rules.specs.Rows.{bad_index}
use Rattle.run_refusals.proofs.bad_index_met.Goals as goal

pub returns-then-not-config : goal.returns-then-not-config
unfolding bad_index
returns-then-not-config c =
    let off : c.args.config.remove_orphans ≡ false = search rules in
    rw off refl

pub returns-then-some_small : goal.returns-then-some_small
unfolding bad_index sheet_of area
returns-then-some_small c =
    let a = c.args in
    let n = a.on.h * a.on.w in
    let front = take n a.on.cells.now in
    let m : to_z w32 (of_z w32 a.config.orphan_min_region) ≡ a.config.orphan_min_region = grind (arith, to_z-of_z) in
    let cleans : a.config.remove_orphans ≡ true = search rules in
    let small : le_z (pos 2) a.config.orphan_min_region ≡ true = sym (c.some_small.ensures ∙ ap (le_z (pos 2)) m) ∙ c.if-some_small.true in
    rw (cleans, small) (c.bad_index.ensures ∙ ap (λ (i : ℕ). any i (λ p. le_z (pos a.k) (at front p))) (length-take-le n a.on.cells.now a.on.present.room))

pub returns-else-some_small : goal.returns-else-some_small
unfolding bad_index
returns-else-some_small c =
    let a = c.args in
    let m : to_z w32 (of_z w32 a.config.orphan_min_region) ≡ a.config.orphan_min_region = grind (arith, to_z-of_z) in
    let cleans : a.config.remove_orphans ≡ true = search rules in
    let none : le_z (pos 2) a.config.orphan_min_region ≡ false = sym (c.some_small.ensures ∙ ap (le_z (pos 2)) m) ∙ c.if-some_small.false in
    rw (cleans, none) c.if-some_small.false
