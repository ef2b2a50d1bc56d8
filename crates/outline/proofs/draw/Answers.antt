-- With no ring nothing changes; else the entry, the marks and the ink. Assumes nothing.
use Rattle.std.proofs.Common.{ℕ, List, ◌<◌, ◌*◌, ◌++◌, take, drop, length, sym, ap, ◌∙◌, arith}
use lib.IntN.{ℤ}
use lib.Seq.{length-take-le}
use Rattle.base.specs.Places.{table}
use Rattle.outline_entry.proofs.Choosing.{index_below}
use Rattle.outline.proofs.Inking.{painted, inked-is}
use Rattle.outline.proofs.Drawn.{drew_none, drew_ring}
use Rattle.outline.proofs.draw.Goals as goal

pub returns-then-not-has_ring : goal.returns-then-not-has_ring
returns-then-not-has_ring c = rw c.without_outline.ensures (drew_none _ _ _ _ _ _ c.requires.present.room (sym c.has_ring.ensures ∙ c.if-not-has_ring.true))

pub ink-requires : goal.ink-requires
ink-requires c =
    let n = c.args.size.h * c.args.size.w in
    let small : c.choose-chosen.result.index < 256 = rw c.choose-chosen.ensures.at (index_below _ _ _ _ c.requires.palette_len.1) in
    (omega (arith, length-take-le n c.args.cells.now c.requires.present.room, c.mark_ring.auto.marks, c.requires.palette_len.2), omega arith)

pub overflow_cast-result : goal.overflow_cast-result
overflow_cast-result c =
    let small : c.choose-chosen.result.index < 256 = rw c.choose-chosen.ensures.at (index_below _ _ _ _ c.requires.palette_len.1) in
    record { fits = omega arith }

pub returns : goal.returns
unfolding painted
returns c =
    let a = c.args in
    let n = a.size.h * a.size.w in
    drew_ring _ _ _ _ _ _ c.requires.present.room
    (sym c.has_ring.ensures ∙ c.if-not-has_ring.false) _ _ _ _
    _ c.outline_color_lab-c.ensures c.choose-chosen.ensures
    (ap (λ (k : List ℤ). k ++ drop n a.cells.now) (c.ink.ensures ∙ ap (λ (k : List ℕ). table (length (take n a.cells.now)) (painted (take n a.cells.now) k c.choose-chosen.result.index)) c.mark_ring.ensures)
    ∙ inked-is _ _ _ _ _ c.requires.present.room)
