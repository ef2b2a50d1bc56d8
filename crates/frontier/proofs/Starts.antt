-- What the rules ask of a pass's start, of the planes of a stage. Assumes nothing.
use Prim.Native.Nat.{ℕ, ◌<◌}
use mathlib.Core.Path.{sym, ◌∙◌}
use mathlib.Core.List.{List}
use Rattle.rules.specs.Pass.{Rule, large}
use Rattle.rules.proofs.Frontier.{fronted_start}
use Rattle.rules.proofs.Groups.{Ready}
use Rattle.grid.specs.declared.Grid.{Grid}
use Rattle.grid.specs.Planes.{plane, cells_of}
use Rattle.grid.proofs.Planes.{cells-size}
use Rattle.verdicts.specs.Steps.{area_of}
use Rattle.verdicts.specs.Judging.{state_of, large_of}
use Rattle.verdicts.proofs.Verdicts.{sound_grouped}
use Rattle.frontier.specs.Judging.{Stage}

module _ {rule : Rule} {grid : Grid} {k end : ℕ} {a : List ℕ} (st : Stage rule grid k end a) where
  abbrev n : ℕ
  n = area_of grid

  -- the places of the planes are the rule's
  pub in_rule : (x : ℕ) → x < n → x < rule.places
  in_rule x l = rw st.ruled.size l

  pub of_rule : (x : ℕ) → x < rule.places → x < n
  of_rule x l = rw (← st.ruled.size) l

  -- a pass may begin: the places stand in groups, the flags tell the large ones, and all of those are a frontier
  pub stage_ready : Ready rule (state_of n a) (plane n 1 a) (large_of n a) (large rule (cells_of n a))
  unfolding state_of
  stage_ready = record {
    grouped = sound_grouped rule n a st.ruled.size st.sound;
    flags = λ x l. st.sound.flags x (of_rule x l);
    fronted = fronted_start rule st.ruled.symm (state_of n a) (cells-size n a ∙ sym st.ruled.size);
  }
