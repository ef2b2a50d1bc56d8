-- `View::around`: each step is tested where those before it found the paint. Assumes nothing.
use Rattle.std.proofs.Common.{◌≡◌, Bool, ◌&&◌, List, ℤ, pos, neg_ℤ, sym, ◌∙◌}
use Rattle.rules.specs.Sheet.{sheet_of}
use Rattle.rules.specs.Corners.{finds, around}
use Rattle.grid.specs.Planes.{cell_of}
use Rattle.jaggies.specs.Rows.{spot_place, Shown}
use Rattle.jaggies.proofs.Signs.{on, back}
use Rattle.jaggies.proofs.Cuts.{on_yes, on_no}
use Rattle.jaggies.proofs.View.around.Goals.{Joined-finds-4, then-finds, else-finds, then-finds-2, else-finds-2, then-finds-3, else-finds-3, then-finds-4, else-finds-4}
use Rattle.jaggies.proofs.View.around.Goals as goal

-- the first five steps, which both answers have behind them
module _ (c : Joined-finds-4) (old : List ℤ) (shown : Shown old c.args.self.now.cells.now c.args.self.now.work.now c.args.self.now.at) where
  abbrev found : ℤ → ℤ → Bool
  found dy dx = finds (sheet_of old c.args.self.now.at.h c.args.self.now.at.w) (spot_place c.args.self.now.at) dy dx (cell_of c.args.b)

  five : c.if-finds-4.value ≡ (found (neg_ℤ c.args.c.sy) (neg_ℤ c.args.c.sx) && found (neg_ℤ c.args.c.sy) (pos 0) && found (neg_ℤ c.args.c.sy) c.args.c.sx
      && found (pos 0) (neg_ℤ c.args.c.sx) && found c.args.c.sy (neg_ℤ c.args.c.sx))
  five =
      let sy = on c.args.c.sy c.args.c.rows in
      let oy = back c.args.c.sy c.args.c.rows in
      let sx = on c.args.c.sx c.args.c.cols in
      let ox = back c.args.c.sx c.args.c.cols in
      let f1 = rw (oy, ox) at (c.finds.ensures old shown) in
      let f2 : c.if-finds.value ≡ _ = elim c.if-finds.branch [
        | then-finds w ↦ on_yes (sym f1 ∙ w.if-finds.true) (w.value-is ∙ (rw oy at (w.finds-then-finds.ensures old shown)))
        | else-finds w ↦ on_no _ (sym f1 ∙ w.if-finds.false) (w.value-is ∙ w.if-finds.false)
      ] in
      let f3 : c.if-finds-2.value ≡ _ = elim c.if-finds-2.branch [
        | then-finds-2 w ↦ on_yes (sym f2 ∙ w.if-finds-2.true) (w.value-is ∙ (rw (oy, sx) at (w.finds-then-finds-2.ensures old shown)))
        | else-finds-2 w ↦ on_no _ (sym f2 ∙ w.if-finds-2.false) (w.value-is ∙ w.if-finds-2.false)
      ] in
      let f4 : c.if-finds-3.value ≡ _ = elim c.if-finds-3.branch [
        | then-finds-3 w ↦ on_yes (sym f3 ∙ w.if-finds-3.true) (w.value-is ∙ (rw ox at (w.finds-then-finds-3.ensures old shown)))
        | else-finds-3 w ↦ on_no _ (sym f3 ∙ w.if-finds-3.false) (w.value-is ∙ w.if-finds-3.false)
      ] in
      elim c.if-finds-4.branch [
        | then-finds-4 w ↦ on_yes (sym f4 ∙ w.if-finds-4.true) (w.value-is ∙ (rw (sy, ox) at (w.finds-then-finds-4.ensures old shown)))
        | else-finds-4 w ↦ on_no _ (sym f4 ∙ w.if-finds-4.false) (w.value-is ∙ w.if-finds-4.false)
      ]

pub returns-then-finds-5 : goal.returns-then-finds-5
unfolding around
returns-then-finds-5 c old shown =
    on_yes
    (sym (five (goal.at.returns-then-finds-5 c).Joined-finds-4 old shown) ∙ c.if-finds-5.true)
    (rw (on c.args.c.sy c.args.c.rows, on c.args.c.sx c.args.c.cols) at (c.finds-then-finds-5.ensures old shown))

pub returns-else-finds-5 : goal.returns-else-finds-5
unfolding around
returns-else-finds-5 c old shown =
    on_no _ (sym (five (goal.at.returns-else-finds-5 c).Joined-finds-4 old shown) ∙ c.if-finds-5.false) c.if-finds-5.false
