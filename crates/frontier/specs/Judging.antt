-- Judging in a pass, on the planes of the work area, region after region by the state at its start. Definitions only. Assumes nothing.
-- A number by label tells what became of a region: 0 nothing, 1 frozen, c + 2 repainted into c.
use Rattle.std.specs.Prelude.{ℕ, suc, ◌+◌, ◌-◌, ◌≤◌, ◌<◌, ◌≡◌, ◌⊎◌, Bool, true, false, not, ◌&&◌, ◌||◌, List, eqb, ltb, length}
use Rattle.base.specs.Places.{count}
use Rattle.rules.specs.Regions.{Symmetric}
use Rattle.rules.specs.Pass.{Rule, State, marked, large, fates, fate}
use Rattle.grid.specs.declared.Grid.{Grid}
use Rattle.grid.specs.Planes.{plane, end_of}
use Rattle.verdicts.specs.Steps.{area_of, adjoins}
use Rattle.verdicts.specs.Groups.{GroupedSheet}
use Rattle.verdicts.specs.Judging.{state_of, fate_number, Indexed, large_of, Unmarked, Sound}

-- the places of a group hold v in plane j, and nothing else is changed
pub record RegionSet (n at j v : ℕ) (a b : List ℕ) : Type 0 where
  pub len : length b ≡ length a
  pub others : (k q : ℕ) → (j ≡ k → ⊥) → q < n → plane n k b q ≡ plane n k a q
  pub new : (q : ℕ) → q < n → plane n 1 a q ≡ suc at → plane n j b q ≡ v
  pub old : (q : ℕ) → q < n → (plane n 1 a q ≡ suc at → ⊥) → plane n j b q ≡ plane n j a q

-- A group was judged and what follows was written: a group without a number gets that of its fate; a frozen one's places are frozen; one to be repainted is logged at `end`
pub record Noted (rule : Rule) (n at end : ℕ) (a b : List ℕ) (r : ℕ) : Type 0 where
  pub len : length b ≡ length a
  pub same : (j q : ℕ) → j < 4 → q < n → plane n j b q ≡ plane n j a q
  pub large : (q : ℕ) → q < n → large_of n b q ≡ large_of n a q
  pub marks : (q : ℕ) → q < n → (plane n 5 b q ≡ plane n 5 a q) ⊎ ((plane n 5 b q ≡ at + 2) × (plane n 6 b at ≡ 0 → ⊥))
  pub numbers : (l : ℕ) → l < n → (l ≡ at → ⊥) → plane n 6 b l ≡ plane n 6 a l
  pub done : (plane n 6 a at ≡ 0 → ⊥) → plane n 6 b at ≡ plane n 6 a at
  pub right : plane n 6 a at ≡ 0 → (x : ℕ) → x < n → plane n 1 a x ≡ suc at → plane n 6 b at ≡ fate_number (fate (fates rule (state_of n a)) x)
  pub little : (plane n 6 a at ≡ 0) → (plane n 6 b at ≡ 0 → ⊥) → plane n 5 a (plane n 2 a (end_of n a at)) ≡ 0
  pub thawed : (x : ℕ) → x < n → (plane n 1 a x ≡ suc at → ⊥) ⊎ ((plane n 6 a at ≡ 0 → ⊥) ⊎ (plane n 6 b at ≡ 1 → ⊥)) → plane n 4 b x ≡ plane n 4 a x
  pub frozen : plane n 6 a at ≡ 0 → plane n 6 b at ≡ 1 → (x : ℕ) → x < n → plane n 1 a x ≡ suc at → plane n 4 b x ≡ 1
  pub log : (i : ℕ) → i < end → plane n 7 b i ≡ plane n 7 a i
  pub logged : plane n 6 a at ≡ 0 → 2 ≤ plane n 6 b at → (r ≡ suc end) × (plane n 7 b end ≡ at)
  pub unlogged : (plane n 6 a at ≡ 0 → ⊥) ⊎ (plane n 6 b at < 2) → r ≡ end

-- a place in a group that is neither large nor repainted nor to be
unfoldable pub idle : ℕ → List ℕ → ℕ → Bool
idle n work x = ltb 0 (plane n 1 work x) && not (large_of n work x) && ltb (plane n 6 work (plane n 1 work x - 1)) 2

-- the rule is one for the grid: its places and its neighbours are the grid's, and neighbours are so both ways round
pub record OnGrid (rule : Rule) (grid : Grid) : Type 0 where
  pub size : rule.places ≡ area_of grid
  pub ways : (p q : ℕ) → rule.adj p q ≡ adjoins grid p q
  pub symm : Symmetric rule.adj

-- The planes as each step of judging finds and leaves them, with the log up to `end`: no place has the mark of a group without a number, and the log has room for every idle place
pub record Stage (rule : Rule) (grid : Grid) (k end : ℕ) (work : List ℕ) : Type 0 where
  pub ruled : OnGrid rule grid
  pub sheet : GroupedSheet grid work
  pub known : Indexed (area_of grid) k work
  pub sound : Sound rule (area_of grid) work
  pub unmarked : (at : ℕ) → at < area_of grid → Unmarked (area_of grid) work at
  pub room : end + count (area_of grid) (idle (area_of grid) work) ≤ area_of grid

-- the number of the group of x
abbrev pub number_of : (ℕ → ℕ) → (ℕ → ℕ) → ℕ → ℕ
number_of group num x = num (group x - 1)

-- at a pass's start a group with a number is frozen or large, and one without is not frozen
pub record Numbered (rule : Rule) (s : State) (group num : ℕ → ℕ) : Type 0 where
  pub thawed : (x : ℕ) → x < rule.places → 0 < group x → number_of group num x ≡ 0 → marked s.frozen x ≡ false
  pub done : (x : ℕ) → x < rule.places → 0 < group x → (number_of group num x ≡ 0 → ⊥) → (marked s.frozen x ≡ true) ⊎ (large rule s.cells x ≡ true)

-- Since the pass's start some groups were given the number of their fate, which is not 0; `frozenNow` tells which places are frozen by now
pub record Judging (rule : Rule) (s : State) (group num₀ num : ℕ → ℕ) (frozenNow : ℕ → Bool) : Type 0 where
  pub each : (x : ℕ) → x < rule.places → 0 < group x → (number_of group num x ≡ number_of group num₀ x) ⊎ ((number_of group num₀ x ≡ 0) × (number_of group num x ≡ fate_number (fate (fates rule s) x)))
  pub frozen : (x : ℕ) → x < rule.places → 0 < group x → frozenNow x ≡ (marked s.frozen x || (eqb (number_of group num₀ x) 0 && eqb (number_of group num x) 1))

-- plane 4 tells that a place is frozen
unfoldable pub frozen_of : ℕ → List ℕ → ℕ → Bool
frozen_of n work x = not (eqb (plane n 4 work x) 0)

-- the group with the label l + 1 got a number of 2 or more since a: it is to be repainted
pub record Chosen (n : ℕ) (a b : List ℕ) (l : ℕ) : Type 0 where
  pub place : ℕ
  pub bound : place < n
  pub label : plane n 1 a place ≡ suc l
  pub free : plane n 6 a l ≡ 0
  pub number : 2 ≤ plane n 6 b l

-- The log before `from` is kept; from there on and before `end` it names exactly the groups that were chosen since a
pub record Filed (n : ℕ) (a b : List ℕ) (from end : ℕ) : Type 0 where
  pub rises : from ≤ end
  pub kept : (i : ℕ) → i < from → plane n 7 b i ≡ plane n 7 a i
  pub named : (i : ℕ) → from ≤ i → i < end → Chosen n a b (plane n 7 b i)
  pub all : (l : ℕ) → Chosen n a b l → (i : ℕ) × (from ≤ i) × (i < end) × (plane n 7 b i ≡ l)

-- Since the work area was a, with the log up to `from`, groups were judged, among them those that `met` names; the log ends at `end`
pub record Met (rule : Rule) (grid : Grid) (k : ℕ) (met : ℕ → Type 0) (a b : List ℕ) (from end : ℕ) : Type 0 where
  pub len : length b ≡ length a
  pub stage : Stage rule grid k end b
  pub same : (j q : ℕ) → j < 4 → q < area_of grid → plane (area_of grid) j b q ≡ plane (area_of grid) j a q
  pub large : (q : ℕ) → q < area_of grid → large_of (area_of grid) b q ≡ large_of (area_of grid) a q
  pub judging : Judging rule (state_of (area_of grid) a) (plane (area_of grid) 1 a) (plane (area_of grid) 6 a) (plane (area_of grid) 6 b) (frozen_of (area_of grid) b)
  pub numbered : (x at : ℕ) → x < area_of grid → plane (area_of grid) 1 a x ≡ suc at → met at → plane (area_of grid) 6 a at ≡ 0 → plane (area_of grid) 6 b at ≡ fate_number (fate (fates rule (state_of (area_of grid) a)) x)
  pub log : Filed (area_of grid) a b from end

-- l + 1 is the label of a place that `at` names and that is not large
pub record Small (n : ℕ) (work : List ℕ) (at : ℕ → Type 0) (l : ℕ) : Type 0 where
  pub place : ℕ
  pub named : at place
  pub bound : place < n
  pub little : large_of n work place ≡ false
  pub label : plane n 1 work place ≡ suc l

-- q is a neighbour of a place with the label at + 1
abbrev pub Around : Grid → List ℕ → ℕ → ℕ → Type 0
Around grid work at q = (p : ℕ) × (p < area_of grid) × (plane (area_of grid) 1 work p ≡ suc at) × (adjoins grid p q ≡ true)

-- q is a neighbour of a place of a group that the log names from `from` on and before `to`
abbrev pub AroundLogged : Grid → List ℕ → ℕ → ℕ → ℕ → Type 0
AroundLogged grid work from to q = (i : ℕ) × (from ≤ i) × (i < to) × Around grid work (plane (area_of grid) 7 work i) q
