-- Passes on the planes of the work area: the planes between two passes, what a pass makes of them, and what all passes come to. Definitions only. Assumes nothing.
use Rattle.std.specs.Prelude.{ℕ, suc, ◌+◌, ◌≤◌, ◌<◌, ◌≡◌, ◌⊎◌, Bool, true, List, ltb, length, get_or}
use Rattle.rules.specs.Pass.{Rule}
use Rattle.rules.specs.Pass as rules
use Rattle.rules.proofs.Frontier.{Fronted}
use Rattle.grid.specs.declared.Grid.{Grid}
use Rattle.grid.specs.Planes.{plane}
use Rattle.verdicts.specs.Steps.{area_of}
use Rattle.verdicts.specs.Groups.{Group}
use Rattle.verdicts.specs.Judging.{state_of, Indexed, large_of}
use Rattle.frontier.specs.Judging.{Numbered, Stage}

-- the numbers from `start` on, `many` of them, are 0
pub record Wiped (start many : ℕ) (a b : List ℕ) : Type 0 where
  pub len : length b ≡ length a
  pub zeros : (i : ℕ) → i < many → get_or b (start + i) 0 ≡ 0
  pub others : (i : ℕ) → (i < start) ⊎ (start + many ≤ i) → get_or b i 0 ≡ get_or a i 0

-- a pass is made: the state is the rules' pass of the one before, told is whether a cell was repainted, and indices stay below k
pub record PassDone (rule : Rule) (n k : ℕ) (a b : List ℕ) (moved : Bool) : Type 0 where
  pub len : length b ≡ length a
  pub state : state_of n b ≡ rules.pass rule (state_of n a)
  pub moves : moved ≡ rules.moves rule (rules.fates rule (state_of n a))
  pub known : Indexed n k b

-- The planes between two passes, with the log up to `end`: a group with a number is frozen or large, and a repainted one is large
pub record BetweenPasses (rule : Rule) (grid : Grid) (k end : ℕ) (work : List ℕ) : Type 0 where
  pub stage : Stage rule grid k end work
  pub told : Numbered rule (state_of (area_of grid) work) (plane (area_of grid) 1 work) (plane (area_of grid) 6 work)
  pub taken : (x at : ℕ) → x < area_of grid → plane (area_of grid) 1 work x ≡ suc at → 2 ≤ plane (area_of grid) 6 work at → large_of (area_of grid) work x ≡ true

-- A pass may begin, by a frontier that the log names from `begin` on and before `end`
pub record AtFrontier (rule : Rule) (grid : Grid) (k begin end : ℕ) (work : List ℕ) : Type 0 where
  pub planes : BetweenPasses rule grid k end work
  pub front : ℕ → Bool
  pub fronted : Fronted rule (state_of (area_of grid) work) front
  pub listed : (q : ℕ) → q < area_of grid → front q ≡ true → (i : ℕ) × (begin ≤ i) × (i < end) × (plane (area_of grid) 1 work q ≡ suc (plane (area_of grid) 7 work i))
  pub groups : (i : ℕ) → begin ≤ i → i < end → Group (area_of grid) work (plane (area_of grid) 7 work i)

-- A pass is made from a, with the log up to `end`, and the log ends at `last`: it repainted a cell exactly if the log has grown, and then the next may begin
pub record PassMade (rule : Rule) (grid : Grid) (k end : ℕ) (a b : List ℕ) (last : ℕ) : Type 0 where
  pub rises : end ≤ last
  pub passed : PassDone rule (area_of grid) k a b (ltb end last)
  pub next : end < last → AtFrontier rule grid k end last b

-- the planes hold what cleaning comes to, with its count of repainting passes
pub record CleanedTo (c : rules.Cleaned) (n k : ℕ) (a b : List ℕ) (r : ℕ) : Type 0 where
  pub len : length b ≡ length a
  pub state : state_of n b ≡ c.state
  pub count : r ≡ c.count
  pub known : Indexed n k b
