-- What an accepted `run` leaves fits into the room for printing. Assumes nothing.
use Prim.Native.Nat.{ℕ, ◌+◌, ◌*◌, ◌≤◌}
use mathlib.Core.Path.{◌≡◌, refl, ap, ◌∙◌}
use mathlib.Core.Bool.{true}
use mathlib.Core.List.{List}
use Rattle.std.specs.Prelude.{Option, None, Some, Ok, Err}
use native.Mathlib.Nat.{mul-add, mul_left_comm}
use native.Mathlib.Omega.{arith}
use lib.ListN.{length, length-append, length-drop}
use Rattle.base.specs.Refusals.{unless, answered}
use Rattle.base.proofs.Counting.{both, yes_leb}
use Rattle.rules.specs.Calls.{RunCall}
use Rattle.rules.specs.Entries.{facts_of, run_refusal, run_answer, run_cells, run_palette}
use Rattle.rules.specs.Run.{Processing, process}
use Rattle.rules.specs.Sheet.{over}
use Rattle.rules.specs.declared.Facts.{Facts}
use Rattle.base.specs.declared.Refusal.{Refusal}
use Rattle.rules.specs.declared.Processed.{Processed}
use Rattle.postprocess.proofs.Chain.{left}
use Rattle.silk_print.specs.Print.{room_for, lengths_fit}

-- ---- the room

-- whatever the sides are, so many cells and colours take no more
room : (k h w : ℕ) → k ≤ 256 → h ≤ 514 → h * w ≤ 1764 → 97 + 14 * k + h * (5 + 12 * w) ≤ 32768
room k h w a b c =
    let e : h * (5 + 12 * w) ≡ h * 5 + 12 * (h * w) = mul-add h 5 (12 * w) ∙ ap (λ (x : ℕ). h * 5 + x) (mul_left_comm h 12 w) in
    omega arith

-- a result of so many entries and cells is printed
fitting : (facts : Facts) (doubles cells : ℕ) → facts.height ≤ 514 → facts.width ≤ 514 → facts.colours ≤ 256 → 768 ≤ doubles →
    facts.height * facts.width ≤ 1764 → 1764 ≤ cells → lengths_fit facts doubles cells 32768 ≡ true
unfolding lengths_fit room_for
fitting facts doubles cells a b c d e f =
    let entries : 3 * facts.colours ≤ doubles = omega arith in
    let held : facts.height * facts.width ≤ cells = omega arith in
    both (both (both (both (both (yes_leb a) (yes_leb b)) (yes_leb c)) (yes_leb entries)) (yes_leb held))
    (yes_leb (room facts.colours facts.height facts.width c a e))

-- a list that is written over another leaves it no shorter
pub over-least : {A : Type 0} (new lent : List A) → length lent ≤ length (over new lent)
unfolding over
over-least new lent = simp (length-append, length-drop) (omega arith)

-- ---- a call on 42 by 42 cells

module _ (x : RunCall) (lent : length x.lent.cells ≡ 1764) where
  abbrev after : Processing
  after = process x

  abbrev facts : Facts
  facts = facts_of after.sheet after.palette after.index after.clipped

  accepted : run_refusal x ≡ None → lengths_fit facts (length after.palette.lab) (length (over after.sheet.cells x.lent.cells)) 32768 ≡ true
  unfolding facts_of
  accepted e =
      let l = left x e in
      fitting facts _ _ l.high l.wide l.few (omega (arith, l.full)) (omega (arith, l.long)) (omega (arith, over-least after.sheet.cells x.lent.cells))

  -- what `run` answers is printed
  pub printed : {done : Processed} → run_answer x ≡ Ok done → lengths_fit done.facts (length (run_palette x)) (length (run_cells x)) 32768 ≡ true
  unfolding run_answer run_palette run_cells answered unless
  printed {done} e = go (run_refusal x) refl e
    where
      go : (o : Option Refusal) → run_refusal x ≡ o → unless o Err (Ok (record { facts = facts; passes = after.passes; again = after.again })) ≡ Ok done →
          lengths_fit done.facts (length (unless o (λ n. x.palette.lab) after.palette.lab)) (length (unless o (λ n. x.lent.cells) (over after.sheet.cells x.lent.cells))) 32768 ≡ true
      go None r t = let s : facts ≡ done.facts = cc in rw (← s) (accepted r)
      go (Some n) r t = cc
