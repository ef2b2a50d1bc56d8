-- A pass as the code makes it. Assumes nothing.
use Prim.Native.Nat.{ℕ, ◌<◌}
use mathlib.Core.Path.{◌≡◌, refl, sym, ◌∙◌}
use mathlib.Core.List.{List}
use native.Mathlib.Omega.{arith}
use borrow.Author.Tests.{lt-ltb}
use lib.Dec.{ltb}
use Rattle.rules.specs.Pass.{Rule}
use Rattle.grid.specs.declared.Grid.{Grid}
use Rattle.verdicts.specs.Steps.{area_of}
use Rattle.frontier.specs.Growing.{Grew}
use Rattle.orphans.specs.Passing.{BetweenPasses, PassMade}
use Rattle.orphans.proofs.Parts.{AllJudged, TargetsTaken}
use Rattle.orphans.proofs.Applying.{passed}
use Rattle.orphans.proofs.Following.{at_frontier}
use Rattle.orphans.proofs.Spreading.{targets_taken, grown_to}

-- nothing is repainted
taken_none : (n end : ℕ) (b : List ℕ) → TargetsTaken n end end b b
taken_none n end b = record {
  len = refl;
  frozen = λ x l. refl;
  takes = λ i x lo hi. absurd (omega arith);
  stays = λ x l z. refl;
}

-- the planes were a at the pass's start, b when all was judged
module _ {rule : Rule} {grid : Grid} {k end mid : ℕ} {a b : List ℕ} (rest : BetweenPasses rule grid k end a) (u : AllJudged rule grid k end mid a b) where
  -- the log has not grown: this is all
  pub made-idle : mid ≡ end → PassMade rule grid k end a b end
  made-idle e = record {
    rises = omega arith;
    passed = passed rest.stage (rw e at u) (taken_none (area_of grid) end b);
    next = λ l. absurd (omega arith);
  }

  -- d when all was repainted and absorbed
  pub made-on : {d : List ℕ} {last : ℕ} → end < mid → Grew grid end mid b d last → PassMade rule grid k end a d last
  made-on {last = last} l g =
      let p = targets_taken rest u g in
      let m : end < last = omega (arith, g.gained.rises) in
      let same : ltb end mid ≡ ltb end last = lt-ltb end mid l ∙ sym (lt-ltb end last m) in
      record {
        rises = omega arith;
        passed = rw same at (passed rest.stage u p);
        next = λ z. at_frontier rest u p (grown_to rest u g);
      }
