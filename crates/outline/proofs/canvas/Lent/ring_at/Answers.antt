-- The four places that are looked at, then the cell itself. Assumes nothing.
use Prim.Native.Nat.{ℕ, ◌+◌, ◌*◌, ◌<◌}
use mathlib.Core.Path.{refl, sym, ap, ap₂, ◌∙◌}
use mathlib.Core.Bool.{Bool, ◌||◌}
use native.Mathlib.Omega.{arith}
use Rattle.rules.specs.Regions.{opaque}
use Rattle.grid.proofs.Places.{area as area-fits}
use Rattle.outline.proofs.Rings.{Spotted, here_in, around, ring-opaque, ring-near}
use Rattle.outline.proofs.canvas.Lent.ring_at.Goals as goal

abbrev spot : {h w y x : ℕ} → (y < h) × (x < w) → Spotted h w y x (y * w + x)
spot r = record { row = r.0; col = r.1; place = refl }

pub back-requires : goal.back-requires
back-requires c = (around (spot c.requires)).row

pub solid-above-requires : goal.solid-above-requires
solid-above-requires c = omega (arith, c.back.ensures, (around (spot c.requires)).above, c.args.self.present.room)

pub ahead-requires : goal.ahead-requires
ahead-requires c =
    (c.requires.0, omega (arith, here_in (spot c.requires), area-fits _ _ c.args.self.present.high c.args.self.present.wide), c.args.self.present.wide)

pub solid-below-requires : goal.solid-below-requires
solid-below-requires c = omega (arith, c.ahead.ensures, (around (spot c.requires)).below, c.args.self.present.room)

pub solid-left-requires : goal.solid-left-requires
solid-left-requires c = omega (arith, c.back-2.ensures, (around (spot c.requires)).left, c.args.self.present.room)

pub ahead-requires-2 : goal.ahead-requires-2
ahead-requires-2 c =
    (c.requires.1, omega (arith, here_in (spot c.requires), area-fits _ _ c.args.self.present.high c.args.self.present.wide), omega arith)

pub solid-right-requires : goal.solid-right-requires
solid-right-requires c = omega (arith, c.ahead-2.ensures, (around (spot c.requires)).right, c.args.self.present.room)

pub solid-requires : goal.solid-requires
solid-requires c = omega (arith, here_in (spot c.requires), c.args.self.present.room)

pub returns-then-solid : goal.returns-then-solid
returns-then-solid c = sym (ring-opaque _ (spot c.requires) (sym c.solid.ensures ∙ c.if-solid.true))

pub returns : goal.returns
returns c =
    let look : ℕ → Bool = opaque c.args.self.cells.now in
    c.either-near.ensures ∙ ap₂ (λ (a b : Bool). a || b) c.either.ensures c.either-2.ensures
    ∙ ring-near _ (spot c.requires) (sym c.solid.ensures ∙ c.if-solid.false)
    (c.solid-above.ensures ∙ ap look c.back.ensures)
    (c.solid-below.ensures ∙ ap look c.ahead.ensures)
    (c.solid-left.ensures ∙ ap look c.back-2.ensures)
    (c.solid-right.ensures ∙ ap look c.ahead-2.ensures)
