-- `orphans::clean_sheet`: loaded, cleaned, stored. Assumes nothing.
use lib.Dec.{T}
use lib.Signed.{non_neg, le_z, pos-nat_abs, nat_abs-le}
use mir.Syntax.{w32}
use mir.Val.{Fits, SFits, to_z, of_z}
use mir.Facts.{to_z-of_z}
use Rattle.std.proofs.Common.{◌≡◌, ◌*◌, ◌≤◌, Bool, true, false, ℤ, pos, nat_abs, take, sym, ap, subst, ◌∙◌, rules, arith}
use Rattle.grid.proofs.Planes.{Painted}
use Rattle.grid.proofs.Tiles.{whole_tile, load_whole, store_whole}
use Rattle.orphans.proofs.Storing.{not_negative_lem, loaded_known, none_cleaned, all_cleaned}
use Rattle.orphans.proofs.clean_sheet.Goals as goal

-- whether regions can be small, of the limit as the code has it
some_small_is : {z : ℤ} {b : Bool} → SFits w32 z → b ≡ le_z (pos 2) (to_z w32 (of_z w32 z)) → le_z (pos 2) z ≡ b
some_small_is known e = sym (ap (le_z (pos 2)) (to_z-of_z known)) ∙ sym e

pub returns-then-not-some_small : goal.returns-then-not-some_small
returns-then-not-some_small c =
    let known : SFits w32 c.args.limits.region = search rules in
    let none : c.some_small.result ≡ false = search rules in
    let r = none_cleaned c.requires c.args.max_passes c.args.limits.colour (some_small_is known c.some_small.ensures ∙ none) in
    record { value = r.0; cells_after = r.1 }

pub overflow_cast-limit : goal.overflow_cast-limit
overflow_cast-limit c =
    let z = c.args.limits.region in
    let known : SFits w32 z = search rules in
    let back = to_z-of_z {w = w32} {z = z} known in
    let yes : c.some_small.result ≡ true = search rules in
    let small : le_z (pos 2) z ≡ true = some_small_is known c.some_small.ensures ∙ yes in
    let l : nat_abs z ≤ 2147483648 = nat_abs-le z known.sfits in
    let p : T (non_neg z) × Fits w32 (nat_abs z) = (not_negative_lem z small, omega arith) in
    rw back p

pub load-requires : goal.load-requires
load-requires c = let f = c.requires in rw c.whole-tile.ensures (whole_tile _ _ _ _ f.rows f.cols f.reads f.planes)

pub clean_planes-count-requires-clause-indexed : goal.clean_planes-count-requires-clause-indexed
clean_planes-count-requires-clause-indexed c =
    let f = c.requires in
    let a = c.args in
    let z = a.limits.region in
    let known : SFits w32 z = search rules in
    let yes : c.some_small.result ≡ true = search rules in
    let small : le_z (pos 2) z ≡ true = some_small_is known c.some_small.ensures ∙ yes in
    let n = a.size.h * a.size.w in
    loaded_known f small c.load.new.work (subst (Painted (take n a.cells.now) n) (sym (rw c.whole-tile.ensures at c.load.ensures.work_after)) (load_whole a.cells.now a.work.now a.size.h a.size.w f.reads))

pub store-requires-clause-lies : goal.store-requires-clause-lies
store-requires-clause-lies c = let f = c.requires in rw c.whole-tile.ensures (whole_tile _ _ _ _ f.rows f.cols f.reads (rw (c.clean_planes-count.ensures.len, c.load.auto.work) f.planes))

pub returns : goal.returns
returns c =
    let f = c.requires in
    let a = c.args in
    let z = a.limits.region in
    let known : SFits w32 z = search rules in
    let back = to_z-of_z {w = w32} {z = z} known in
    let yes : c.some_small.result ≡ true = search rules in
    let small : le_z (pos 2) z ≡ true = some_small_is known c.some_small.ensures ∙ yes in
    let e : pos (nat_abs (to_z w32 (of_z w32 z))) ≡ z = rw back (pos-nat_abs z (not_negative_lem z small)) in
    let n = a.size.h * a.size.w in
    let painted = subst (Painted (take n a.cells.now) n) (sym (rw c.whole-tile.ensures at c.load.ensures.work_after)) (load_whole a.cells.now a.work.now a.size.h a.size.w f.reads) in
    let r = all_cleaned f a.max_passes a.limits.colour _ (nat_abs (to_z w32 (of_z w32 z))) e c.load.new.work c.clean_planes-count.new.work c.clean_planes-count.result painted c.clean_planes-count.ensures in
    record { value = r.0; cells_after = rw c.whole-tile.ensures at c.store.ensures ∙ store_whole a.cells.now c.clean_planes-count.new.work a.size.h a.size.w f.reads ∙ r.1 }
