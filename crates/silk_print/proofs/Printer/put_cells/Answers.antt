-- `Printer::put_cells`: one cell after the other. Assumes nothing.
use Rattle.std.proofs.Common.{ℕ, ◌<◌, ◌+◌, pos, get_or, length, refl, zero-add, rules}
use native.Mathlib.Nat.{le_refl}
use mir.Syntax.{w32}
use mir.Val.{SFits, of_z, to_z}
use mir.Facts.{to_z-of_z}
use Rattle.silk_print.specs.Print.{cell_text, cells_text, Put}
use Rattle.silk_print.proofs.Printing.{printing_none, printing_more, printing_all, put_as, each_same}
use Rattle.silk_print.proofs.Printer.put_cells.Goals as goal

pub loop-x-init : goal.loop-x-init
loop-x-init c = printing_none _ _ _ _

pub loop-x-preserved : goal.loop-x-preserved
loop-x-preserved c =
    let cell = get_or c.args.row.now c.loop-x.x (pos 0) in
    let put : Put 12 (cell_text c.loop-x.x (to_z w32 (of_z w32 cell))) c.loop-x.self c.put_cell.new.self = c.put_cell.ensures in
    let f : SFits w32 cell = search rules in
    printing_more c.loop-x.invariant c.loop-x-test.true c.requires (rw (to_z-of_z f) at put)

pub returns : goal.returns
unfolding cells_text
returns c =
    let row = c.args.row.now in
    put_as (printing_all c.loop-x.invariant c.loop-x-test.false)
    (each_same (length row) (λ x. cell_text x (get_or row x (pos 0))) (λ x. cell_text x (get_or row (0 + x) (pos 0))) (λ (x : ℕ) (h : x < length row). rw (zero-add x) refl))
    (le_refl _)
