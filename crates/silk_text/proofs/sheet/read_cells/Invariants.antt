use Rattle.std.proofs.Common.{[], ◌∷◌, length}
use Rattle.silk_reader.specs.Reader.{cell_at}
use Rattle.silk_text.proofs.Repeating.{Going}
use Rattle.silk_text.proofs.sheet.read_cells.Given as goal

abbrev pub invariant-loop-x : goal.invariant-loop-x
invariant-loop-x l =
    Going cell_at (λ c. c ∷ []) 1 (length l.fn.row) l.fn.text.rest.now l.fn.row l.x l.text.rest.now l.row
