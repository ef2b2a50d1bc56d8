-- What becomes large in a pass, on the planes of the work area. Definitions only. Assumes nothing.
use Rattle.std.specs.Prelude.{ℕ, suc, ◌+◌, ◌≤◌, ◌<◌, ◌≡◌, ◌⊎◌, Bool, true, false, List, length}
use Rattle.base.specs.Places.{count}
use Rattle.grid.specs.declared.Grid.{Grid}
use Rattle.grid.specs.Planes.{plane}
use Rattle.verdicts.specs.Steps.{area_of, adjoins}
use Rattle.verdicts.specs.Groups.{Group, GroupedSheet}
use Rattle.verdicts.specs.Polling.{MarksOnly}
use Rattle.verdicts.specs.Judging.{large_of}
use Rattle.frontier.specs.Judging.{idle}

-- the log from lo on and before hi names exactly the groups that `big` was told of since `big₀`
pub record Logged (n : ℕ) (group : ℕ → ℕ) (big₀ big : ℕ → Bool) (log : ℕ → ℕ) (lo hi : ℕ) : Type 0 where
  pub named : (i : ℕ) → lo ≤ i → i < hi → (x : ℕ) × (x < n) × (group x ≡ suc (log i))
  pub new : (i x : ℕ) → lo ≤ i → i < hi → x < n → group x ≡ suc (log i) → (big x ≡ true) × (big₀ x ≡ false)
  pub all : (x : ℕ) → x < n → big x ≡ true → big₀ x ≡ false → (i : ℕ) × (lo ≤ i) × (i < hi) × (group x ≡ suc (log i))

-- the log from `from` on and before `to` names the group with the label l + 1
abbrev pub Listed : ℕ → List ℕ → ℕ → ℕ → ℕ → Type 0
Listed n work from to l = (i : ℕ) × (from ≤ i) × (i < to) × (plane n 7 work i ≡ l)

-- q is a neighbour of p and has its paint
abbrev pub Matches : Grid → List ℕ → ℕ → ℕ → Type 0
Matches grid work p q = (adjoins grid p q ≡ true) × (plane (area_of grid) 0 work q ≡ plane (area_of grid) 0 work p)

-- q is so to a place with the label at + 1
abbrev pub MatchesAround : Grid → List ℕ → ℕ → ℕ → Type 0
MatchesAround grid work at q = (p : ℕ) × (p < area_of grid) × (plane (area_of grid) 1 work p ≡ suc at) × Matches grid work p q

-- q is so to a place of a group that the log names from `from` on and before `to`
abbrev pub MatchesLogged : Grid → List ℕ → ℕ → ℕ → ℕ → Type 0
MatchesLogged grid work from to q = (i : ℕ) × (from ≤ i) × (i < to) × MatchesAround grid work (plane (area_of grid) 7 work i) q

-- the groups that `named` names are large; nothing else is changed
pub record Enlarged (n : ℕ) (named : ℕ → Type 0) (a b : List ℕ) : Type 0 where
  pub kept : MarksOnly n a b
  pub new : (q at : ℕ) → q < n → plane n 1 a q ≡ suc at → named at → plane n 5 b q ≡ 1
  pub each : (q : ℕ) → q < n → (plane n 5 b q ≡ plane n 5 a q) ⊎ ((at : ℕ) × (plane n 1 a q ≡ suc at) × named at)

-- the groups that `named` names took the paint that their number tells, and are large; nothing else is changed
pub record Repainted (n : ℕ) (named : ℕ → Type 0) (a b : List ℕ) : Type 0 where
  pub len : length b ≡ length a
  pub same : (j q : ℕ) → (0 ≡ j → ⊥) → (5 ≡ j → ⊥) → q < n → plane n j b q ≡ plane n j a q
  pub paint : (q at : ℕ) → q < n → plane n 1 a q ≡ suc at → named at → plane n 0 b q + 1 ≡ plane n 6 a at
  pub large : (q at : ℕ) → q < n → plane n 1 a q ≡ suc at → named at → plane n 5 b q ≡ 1
  pub each : (q : ℕ) → q < n → ((plane n 0 b q ≡ plane n 0 a q) × (plane n 5 b q ≡ plane n 5 a q)) ⊎ ((at : ℕ) × (plane n 1 a q ≡ suc at) × named at)

-- a group is large as a whole
abbrev pub LargeAsWhole : ℕ → List ℕ → Type 0
LargeAsWhole n work = (x y : ℕ) → x < n → y < n → 0 < plane n 1 work x → plane n 1 work x ≡ plane n 1 work y → large_of n work x ≡ large_of n work y

-- The planes as each step of growing finds and leaves them, with the log up to `end`: a group is large as a whole, a repainted one is large, and the log has room for every idle place
pub record Growth (grid : Grid) (end : ℕ) (work : List ℕ) : Type 0 where
  pub sheet : GroupedSheet grid work
  pub whole : LargeAsWhole (area_of grid) work
  pub done : (x at : ℕ) → x < area_of grid → plane (area_of grid) 1 work x ≡ suc at → 2 ≤ plane (area_of grid) 6 work at → large_of (area_of grid) work x ≡ true
  pub room : end + count (area_of grid) (idle (area_of grid) work) ≤ area_of grid

-- why q becomes large: its group was small, and `near` names a place of it
pub record Cause (n : ℕ) (work : List ℕ) (near : ℕ → Type 0) (q : ℕ) : Type 0 where
  pub by : ℕ
  pub bound : by < n
  pub named : near by
  pub label : 0 < plane n 1 work by
  pub group : plane n 1 work q ≡ plane n 1 work by
  pub little : large_of n work by ≡ false

-- Since the work area was a, with the log up to `from`, the small groups with a place that `near` names became large, and were logged; nothing else is changed, and the log ends at `end`
pub record Gained (grid : Grid) (near : ℕ → Type 0) (a b : List ℕ) (from end : ℕ) : Type 0 where
  pub len : length b ≡ length a
  pub growth : Growth grid end b
  pub same : (j q : ℕ) → (5 ≡ j → ⊥) → (7 ≡ j → ⊥) → q < area_of grid → plane (area_of grid) j b q ≡ plane (area_of grid) j a q
  pub flags : (q : ℕ) → q < area_of grid → (plane (area_of grid) 5 b q ≡ plane (area_of grid) 5 a q) ⊎ ((plane (area_of grid) 5 b q ≡ 1) × Cause (area_of grid) a near q)
  pub told : (q : ℕ) → q < area_of grid → near q → 0 < plane (area_of grid) 1 a q → large_of (area_of grid) b q ≡ true
  pub rises : from ≤ end
  pub kept : (i : ℕ) → i < from → plane (area_of grid) 7 b i ≡ plane (area_of grid) 7 a i
  pub logged : Logged (area_of grid) (plane (area_of grid) 1 a) (large_of (area_of grid) a) (large_of (area_of grid) b) (plane (area_of grid) 7 b) from end

-- The planes once the groups to be repainted are logged, from `from` on and before `mid`: every other group with a number of 2 or more is large
pub record Decided (grid : Grid) (from mid : ℕ) (work : List ℕ) : Type 0 where
  pub sheet : GroupedSheet grid work
  pub whole : LargeAsWhole (area_of grid) work
  pub groups : (i : ℕ) → from ≤ i → i < mid → Group (area_of grid) work (plane (area_of grid) 7 work i)
  pub numbers : (i : ℕ) → from ≤ i → i < mid → (2 ≤ plane (area_of grid) 6 work (plane (area_of grid) 7 work i)) × (plane (area_of grid) 6 work (plane (area_of grid) 7 work i) ≤ 257)
  pub done : (x at : ℕ) → x < area_of grid → plane (area_of grid) 1 work x ≡ suc at → 2 ≤ plane (area_of grid) 6 work at → (large_of (area_of grid) work x ≡ true) ⊎ Listed (area_of grid) work from mid at
  pub room : mid + count (area_of grid) (idle (area_of grid) work) ≤ area_of grid

-- The groups that were logged from `from` on and before `mid` were repainted, and then those of their paint beside them became large and were logged; the log ends at `end`
pub record Grew (grid : Grid) (from mid : ℕ) (a b : List ℕ) (end : ℕ) : Type 0 where
  pub middle : List ℕ
  pub repainted : Repainted (area_of grid) (Listed (area_of grid) a from mid) a middle
  pub gained : Gained grid (MatchesLogged grid middle from mid) middle b mid end
