-- `Lent::touches_edge`: no cells, or four lines of cells, one after the other. Assumes nothing.
use Rattle.std.proofs.Common.{ℕ, ◌≡◌, ◌-◌, ◌*◌, Bool, true, false, ◌||◌, refl, sym, ◌∙◌, arith}
use Rattle.outline.proofs.Edges.{Hit, lines_decide, no_cells_lem}
use Rattle.outline.proofs.canvas.Lent.touches_edge.Goals.{Joined-any_solid-2, then-any_solid, else-any_solid, then-any_solid-2, else-any_solid-2}
use Rattle.outline.proofs.canvas.Lent.touches_edge.Goals as goal

-- one test more: it is made where those before it fail
hit_yes : {a r v : Bool} (b : Bool) → r ≡ a → r ≡ true → v ≡ r → v ≡ (a || b)
hit_yes b p y e = rw (sym p ∙ y) (e ∙ y)

hit_no : {a b r v : Bool} → r ≡ a → r ≡ false → v ≡ b → v ≡ (a || b)
hit_no p z e = rw (sym p ∙ z) e

-- the first three lines, which both answers have behind them
module _ (c : Joined-any_solid-2) where
  abbrev h : ℕ
  h = c.args.self.h

  abbrev w : ℕ
  w = c.args.self.w

  abbrev hit : ℕ → ℕ → ℕ → Bool
  hit = Hit c.args.self.cells.now h w

  three : c.if-any_solid-2.value ≡ (hit 0 1 w || hit (h * w - w) 1 w || hit 0 w h)
  three =
      let two : c.if-any_solid.value ≡ _ = elim c.if-any_solid.branch [
        | then-any_solid v ↦ hit_yes _ c.any_solid.ensures v.if-any_solid.true v.value-is
        | else-any_solid v ↦ hit_no c.any_solid.ensures v.if-any_solid.false (v.value-is ∙ v.any_solid-else-any_solid.ensures)
      ] in
      elim c.if-any_solid-2.branch [
        | then-any_solid-2 v ↦ hit_yes _ two v.if-any_solid-2.true v.value-is
        | else-any_solid-2 v ↦ hit_no two v.if-any_solid-2.false (v.value-is ∙ v.any_solid-else-any_solid-2.ensures)
      ]

pub returns-then-n-eq0 : goal.returns-then-n-eq0
returns-then-n-eq0 c = sym (no_cells_lem _ _ _ c.if-n-eq0.true)

pub returns-then-any_solid-3 : goal.returns-then-any_solid-3
returns-then-any_solid-3 c =
    hit_yes _ (three (goal.at.returns-then-any_solid-3 c).Joined-any_solid-2) c.if-any_solid-3.true refl
    ∙ lines_decide _ _ _ (omega arith)

pub returns-else-any_solid-3 : goal.returns-else-any_solid-3
returns-else-any_solid-3 c =
    hit_no (three (goal.at.returns-else-any_solid-3 c).Joined-any_solid-2) c.if-any_solid-3.false c.any_solid-else-any_solid-3.ensures
    ∙ lines_decide _ _ _ (omega arith)
