-- What a test from a spot tells. Definitions only. Assumes nothing.
use Rattle.std.specs.Prelude.{ℕ}
use Rattle.rules.specs.Sheet.{Sheet}
use Rattle.jaggies.specs.Rows.{Sees}
use Rattle.jaggies.specs.declared.View.{View}

-- r is f of the sheet that is seen, and of the spot's place
abbrev pub Tells : {A : Type 0} → View → A → (Sheet → ℕ → A) → Type 0
Tells view r f = Sees view.cells.now view.work.now view.at r f
