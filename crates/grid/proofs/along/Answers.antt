-- `along`: the machine's sum is the sum. Assumes nothing.
use Rattle.std.proofs.Common.{◌≡◌, ℕ, ◌<◌, ◌≤◌, true, arith}
use lib.IntN.{ℤ, pos, negsuc, ◌+ℤ◌}
use lib.Signed.{le_z}
use mir.Facts.{Fits-nat_abs}
use Rattle.base.proofs.Counting.{to_T}
use Rattle.grid.proofs.Signs.{Short, short_fits, sum_is, sum_back, before_all, not_before, within, after_all}
use Rattle.grid.proofs.along.Goals as goal

-- what is asked of the step makes it a short one
short : {a len : ℕ} {d : ℤ} → (a < len) × (len ≤ 514) × (le_z (negsuc 1) d ≡ true) × (le_z d (pos 2) ≡ true) → Short a d
short q = record { from = omega (arith, q.0, q.1); low = q.2; high = q.3 }

pub overflow_add-to : goal.overflow_add-to
overflow_add-to c =
    let a = c.args in
    rw (sum_is a.at a.d c.ranges.d (short c.requires)) (short_fits a.at a.d (short c.requires))

pub returns-then-to-lt0 : goal.returns-then-to-lt0
returns-then-to-lt0 c =
    let a = c.args in
    before_all a.len (pos a.at +ℤ a.d) (rw (sum_back a.at a.d c.ranges.d (short c.requires)) at c.if-to-lt0.true)

pub overflow_cast-next : goal.overflow_cast-next
overflow_cast-next c =
    let a = c.args in
    let e = sum_back a.at a.d c.ranges.d (short c.requires) in
    rw e (to_T (not_before (pos a.at +ℤ a.d) (rw e at c.if-to-lt0.false)), Fits-nat_abs tt (short_fits a.at a.d (short c.requires)))

pub returns-then-next-len : goal.returns-then-next-len
returns-then-next-len c =
    let a = c.args in
    let e = sum_back a.at a.d c.ranges.d (short c.requires) in
    rw e (within a.len (pos a.at +ℤ a.d) (rw e at c.if-to-lt0.false) (rw e at c.if-next-len.true))

pub returns-else-next-len : goal.returns-else-next-len
returns-else-next-len c =
    let a = c.args in
    let e = sum_back a.at a.d c.ranges.d (short c.requires) in
    after_all a.len (pos a.at +ℤ a.d) (rw e at c.if-to-lt0.false) (rw e at c.if-next-len.false)
