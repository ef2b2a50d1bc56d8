-- What is to be repainted is, and what it absorbs grows with it. Assumes nothing.
use Prim.Native.Nat.{ℕ, suc, ◌-◌, ◌<◌}
use mathlib.Core.Path.{◌≡◌, refl, sym, ap, ◌∙◌}
use mathlib.Core.Logic.{⊎_elim}
use mathlib.Core.Bool.{cond}
use mathlib.Core.List.{List}
use native.Mathlib.Omega.{arith}
use lib.Dec.{eqb}
use Rattle.rules.specs.Pass.{Rule, fates, fate}
use Rattle.grid.specs.declared.Grid.{Grid}
use Rattle.grid.specs.Planes.{plane}
use Rattle.verdicts.specs.Steps.{area_of}
use Rattle.verdicts.specs.Judging.{state_of, fate_number}
use Rattle.frontier.specs.Growing.{Decided, Grew}
use Rattle.frontier.proofs.Gains.{gained_paint}
use Rattle.frontier.proofs.Outcome.{met_decided, grown_flags, grown_log, kept_planes, grown_unmarked}
use Rattle.orphans.specs.Passing.{BetweenPasses}
use Rattle.orphans.proofs.Parts.{AllJudged, TargetsTaken, GrownTo}

-- b was judged in a pass from a
module _ {rule : Rule} {grid : Grid} {k end mid : ℕ} {a b : List ℕ} (rest : BetweenPasses rule grid k end a) (u : AllJudged rule grid k end mid a b) where
  abbrev n : ℕ
  n = area_of grid

  ends : (x : ℕ) → x < rule.places → 0 < plane n 1 a x → fate_number (fate (fates rule (state_of n a)) x) ≡ cond (eqb (plane n 6 a (plane n 1 a x - 1)) 0) (plane n 6 b (plane n 1 a x - 1)) 0
  ends x l z = u.fates x (rw (← rest.stage.ruled.size) l) z

  -- what `grow` asks
  pub decided : Decided grid end mid b
  decided = met_decided rest.stage u.judged ends rest.taken

  -- and what it leaves as d
  module _ {d : List ℕ} {last : ℕ} (g : Grew grid end mid b d last) where
    kept : (j q : ℕ) → (0 ≡ j → ⊥) → (5 ≡ j → ⊥) → (7 ≡ j → ⊥) → q < n → plane n j d q ≡ plane n j b q
    kept = kept_planes rest.stage u.judged ends decided g

    pub targets_taken : TargetsTaken n end mid b d
    targets_taken = record {
      len = g.gained.len ∙ g.repainted.len;
      frozen = λ x l. kept 4 x (λ z. absurd (omega arith)) (λ z. absurd (omega arith)) (λ z. absurd (omega arith)) l;
      takes = λ i x lo hi l e. let p = g.repainted.paint x (plane n 7 b i) l e (i, lo, hi, refl) in gained_paint g.gained x l ∙ omega arith;
      stays = λ x l z. gained_paint g.gained x l ∙ ⊎_elim (λ y. y.0) (λ y. absurd (z y.2.0 y.2.1 y.2.2 (y.1 ∙ ap suc (sym y.2.3)))) (g.repainted.each x l);
    }

    pub grown_to : GrownTo rule n end last a b d
    grown_to = record {
      same = λ j q lo hi l. kept j q (λ z. absurd (omega arith)) (λ z. absurd (omega arith)) (λ z. absurd (omega arith)) l;
      numbers = λ l z. kept 6 l (λ y. absurd (omega arith)) (λ y. absurd (omega arith)) (λ y. absurd (omega arith)) z;
      unmarked = grown_unmarked rest.stage u.judged ends decided g;
      taken = g.gained.growth.done;
      grown = grown_flags rest.stage u.judged ends decided g;
      logged = grown_log rest.stage u.judged ends decided g;
      room = g.gained.growth.room;
    }
