-- The parts of a pass: what judging, repainting and absorbing leave of the planes. Definitions only. Assumes nothing.
use Prim.Native.Nat.{ℕ, suc, ◌+◌, ◌-◌, ◌≤◌, ◌<◌}
use mathlib.Core.Path.{◌≡◌}
use mathlib.Core.Bool.{true, cond}
use mathlib.Core.List.{List}
use lib.Dec.{eqb}
use lib.ListN.{length}
use Rattle.base.specs.Places.{count}
use Rattle.rules.specs.Pass.{Rule, fates, fate}
use Rattle.rules.proofs.Groups.{Grown}
use Rattle.grid.specs.declared.Grid.{Grid}
use Rattle.grid.specs.Planes.{plane}
use Rattle.verdicts.specs.Steps.{area_of}
use Rattle.verdicts.specs.Judging.{state_of, fate_number, large_of}
use Rattle.frontier.specs.Judging.{idle, Met}
use Rattle.frontier.specs.Growing.{Logged}

-- A pass from a has judged, and left b: the new numbers are those of all fates
pub record AllJudged (rule : Rule) (grid : Grid) (k end mid : ℕ) (a b : List ℕ) : Type 0 where
  pub judged : Met rule grid k (λ l. ⊥) a b end mid
  pub fates : (x : ℕ) → x < area_of grid → 0 < plane (area_of grid) 1 a x → fate_number (fate (fates rule (state_of (area_of grid) a)) x) ≡ cond (eqb (plane (area_of grid) 6 a (plane (area_of grid) 1 a x - 1)) 0) (plane (area_of grid) 6 b (plane (area_of grid) 1 a x - 1)) 0

-- the groups of the log from `end` on and before `mid` have taken their targets, and what is frozen stays so
pub record TargetsTaken (n end mid : ℕ) (b d : List ℕ) : Type 0 where
  pub len : length d ≡ length b
  pub frozen : (x : ℕ) → x < n → plane n 4 d x ≡ plane n 4 b x
  pub takes : (i x : ℕ) → end ≤ i → i < mid → x < n → plane n 1 b x ≡ suc (plane n 7 b i) → plane n 0 d x ≡ plane n 6 b (plane n 7 b i) - 1
  pub stays : (x : ℕ) → x < n → ((i : ℕ) → end ≤ i → i < mid → plane n 1 b x ≡ suc (plane n 7 b i) → ⊥) → plane n 0 d x ≡ plane n 0 b x

-- plane 5 tells what grew in a pass from a, which the log names from `end` on and before `last`
pub record GrownTo (rule : Rule) (n end last : ℕ) (a b d : List ℕ) : Type 0 where
  pub same : (j q : ℕ) → 1 ≤ j → j < 4 → q < n → plane n j d q ≡ plane n j b q
  pub numbers : (l : ℕ) → l < n → plane n 6 d l ≡ plane n 6 b l
  pub unmarked : (t : ℕ) → t < n → plane n 6 d t ≡ 0 → (q : ℕ) → q < n → plane n 5 d q ≡ t + 2 → ⊥
  pub taken : (x at : ℕ) → x < n → plane n 1 d x ≡ suc at → 2 ≤ plane n 6 d at → large_of n d x ≡ true
  pub grown : Grown rule (state_of n a) (plane n 1 a) (large_of n a) (large_of n d)
  pub logged : Logged n (plane n 1 a) (large_of n a) (large_of n d) (plane n 7 d) end last
  pub room : last + count n (idle n d) ≤ n
