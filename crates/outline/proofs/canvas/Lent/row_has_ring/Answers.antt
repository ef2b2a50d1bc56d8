-- Whether a cell so far is of the ring, one more, and the last. Assumes nothing.
use Prim.Native.Nat.{ℕ, ◌+◌, ◌-◌, ◌*◌}
use mathlib.Core.Path.{refl, ◌∙◌}
use mathlib.Core.Bool.{Bool}
use native.Mathlib.Omega.{arith}
use Rattle.outline.specs.declared.canvas.Lent.{Lent}
use Rattle.rules.specs.Outline.{ring}
use Rattle.outline.specs.Standing.{sheet_on}
use Rattle.outline.proofs.Rings.{any-first, any_last}
use Rattle.outline.proofs.canvas.Lent.row_has_ring.Goals as goal

abbrev row : Lent → ℕ → ℕ → Bool
row on y x = ring (sheet_on on) (y * on.w + x)

pub loop-x-init : goal.loop-x-init
loop-x-init c = record { low = omega arith; high = omega arith; told = c.ring_at-found.ensures ∙ any-first (row c.args.self c.args.y) }

pub loop-x-preserved : goal.loop-x-preserved
loop-x-preserved c =
    let x = c.loop-x.x in
    record {
      low = omega arith;
      high = omega arith;
      told = c.either-found.ensures ∙ any_last (row c.args.self c.args.y) (x + 1) x x refl (omega arith) (omega arith) c.ring_at.ensures c.loop-x.invariant.told;
    }

pub returns : goal.returns
returns c =
    let a = c.args in
    c.either.ensures ∙ any_last (row a.self a.y) a.self.w (a.self.w - 1) c.loop-x.x (omega arith) c.loop-x.invariant.high (omega arith) c.ring_at-2.ensures c.loop-x.invariant.told
