-- The verdict on one region, on the planes of the work area: the rule and the state that they stand for. Definitions only. Assumes nothing.
use Rattle.std.specs.Prelude.{ℕ, suc, ◌+◌, ◌≤◌, ◌<◌, ◌≡◌, ◌⊎◌, ◌↔◌, Bool, true, false, not, List, eqb, pos, Float}
use Rattle.base.specs.Places.{table}
use Rattle.rules.specs.Regions.{opaque, Joined}
use Rattle.rules.specs.Pass.{Rule, State, Verdict, stay, merge, freeze, marked, small, large, fates, fate}
use Rattle.grid.specs.declared.Grid.{Grid}
use Rattle.grid.specs.Planes.{plane, cells_of, end_of}
use Rattle.verdicts.specs.declared.Criteria.{Criteria}
use Rattle.verdicts.specs.Steps.{area_of, adjoins}
use Rattle.verdicts.specs.Targets.{entry_distance}
use Rattle.verdicts.specs.Polling.{MarksOnly}

-- what a pass goes by on a grid, with these criteria and this palette
unfoldable pub rule_of : Grid → Criteria → List Float → Rule
rule_of grid by palette =
    record {
      places = area_of grid;
      adj = adjoins grid;
      limit = pos by.limit;
      free = λ i. true;
      dist = entry_distance palette;
      reach = by.max_delta;
    }

-- the sheet of plane 0 with the frozen cells of plane 4
unfoldable pub state_of : ℕ → List ℕ → State
state_of n work = record { cells = cells_of n work; frozen = table n (λ p. not (eqb (plane n 4 work p) 0)) }

-- a verdict of the rules as the number that plane 6 holds: 0 stay, 1 freeze, c + 2 merge into c
unfoldable pub fate_number : Verdict → ℕ
fate_number stay = 0
fate_number (merge c d) = c + 2
fate_number (freeze c d) = 1

-- every index of plane 0 is below k, and k at most 256
pub record Indexed (n k : ℕ) (work : List ℕ) : Type 0 where
  pub few : k ≤ 256
  pub below : (q : ℕ) → q < n → plane n 0 work q ≤ k

-- plane 5 tells that a place is large
unfoldable pub large_of : ℕ → List ℕ → ℕ → Bool
large_of n work q = not (eqb (plane n 5 work q) 0)

-- no place has the mark of a group without a number
abbrev pub Unmarked : ℕ → List ℕ → ℕ → Type 0
Unmarked n work at = plane n 6 work at ≡ 0 → (q : ℕ) → q < n → plane n 5 work q ≡ at + 2 → ⊥

-- The planes are sound: a small region is a group, and a group is frozen as a whole; plane 5 tells the large places; a group without a number is not frozen, nor is a place without a group
pub record Sound (rule : Rule) (n : ℕ) (work : List ℕ) : Type 0 where
  pub region : (x y : ℕ) → small rule (cells_of n work) x ≡ true → y < n → Joined rule.adj (cells_of n work) x y ↔ (plane n 1 work x ≡ plane n 1 work y)
  pub shown : (x : ℕ) → x < n → (opaque (cells_of n work) x ≡ true) ↔ (0 < plane n 1 work x)
  pub frozen : (x y : ℕ) → x < n → y < n → 0 < plane n 1 work x → plane n 1 work x ≡ plane n 1 work y → marked (state_of n work).frozen x ≡ marked (state_of n work).frozen y
  pub flags : (x : ℕ) → x < n → large_of n work x ≡ large rule (cells_of n work) x
  pub thawed : (x at : ℕ) → x < n → plane n 1 work x ≡ suc at → plane n 6 work at ≡ 0 → marked (state_of n work).frozen x ≡ true → ⊥
  pub clear : (x : ℕ) → x < n → plane n 1 work x ≡ 0 → marked (state_of n work).frozen x ≡ false

-- a group is judged: if it has no number, the answer is that of its fate at each of its places, else 0; only marks are written, and large places stay so
pub record Judged (rule : Rule) (n at : ℕ) (a b : List ℕ) (r : ℕ) : Type 0 where
  pub kept : MarksOnly n a b
  pub large : (q : ℕ) → q < n → large_of n b q ≡ large_of n a q
  -- a mark of this group stands only if it is decided
  pub marks : (q : ℕ) → q < n → (plane n 5 b q ≡ plane n 5 a q) ⊎ ((plane n 5 b q ≡ at + 2) × (r ≡ 0 → ⊥))
  pub done : (plane n 6 a at ≡ 0 → ⊥) → r ≡ 0
  pub little : (r ≡ 0 → ⊥) → plane n 5 a (plane n 2 a (end_of n a at)) ≡ 0
  pub right : plane n 6 a at ≡ 0 → (x : ℕ) → x < n → plane n 1 a x ≡ suc at → r ≡ fate_number (fate (fates rule (state_of n a)) x)
