-- The votes on a region, counted by marks in plane 5. Definitions only. Assumes nothing.
use Rattle.std.specs.Prelude.{ℕ, ◌+◌, ◌≤◌, ◌<◌, ◌≡◌, ◌⊎◌, Bool, true, ◌&&◌, List, eqb, length, get_or}
use Rattle.base.specs.Places.{count}
use Rattle.grid.specs.declared.Grid.{Grid}
use Rattle.grid.specs.Planes.{plane}
use Rattle.verdicts.specs.Steps.{area_of, adjoins}

-- all planes but plane 5 are left as they were
pub record MarksOnly (n : ℕ) (a b : List ℕ) : Type 0 where
  pub len : length b ≡ length a
  pub same : (j q : ℕ) → (5 ≡ j → ⊥) → q < n → plane n j b q ≡ plane n j a q

-- q is marked m and has the index c
unfoldable pub ballot : ℕ → List ℕ → ℕ → ℕ → ℕ → Bool
ballot n work m c q = eqb (plane n 5 work q) m && eqb (plane n 0 work q) (c + 1)

-- the counts are those of the cells marked m, by index
pub record Tallied (n : ℕ) (work : List ℕ) (m : ℕ) (counts : List ℕ) : Type 0 where
  pub size : length counts ≡ 256
  pub votes : (c : ℕ) → c < 256 → get_or counts c 0 ≡ count n (ballot n work m c)

-- The work area was a, and is b since the cells that `asked` names were asked: the large ones among them are marked m,
-- no other cell is that was not before, and the counts are right.
pub record Polled (n m : ℕ) (asked : ℕ → Type 0) (a b counts : List ℕ) : Type 0 where
  pub kept : MarksOnly n a b
  pub tally : Tallied n b m counts
  pub stays : (q : ℕ) → q < n → plane n 5 a q ≡ m → plane n 5 b q ≡ m
  pub marks : (q : ℕ) → q < n → (plane n 5 b q ≡ plane n 5 a q) ⊎ ((plane n 5 b q ≡ m) × asked q × (plane n 5 a q ≡ 0 → ⊥))
  pub voted : (q : ℕ) → q < n → asked q → (plane n 5 a q ≡ 0 → ⊥) → plane n 5 b q ≡ m

-- q is a neighbour of one of the places from `from` on and before `to` of the order
abbrev pub Beside : Grid → List ℕ → ℕ → ℕ → ℕ → Type 0
Beside grid work from to q = (i : ℕ) × (from ≤ i) × (i < to) × (adjoins grid (plane (area_of grid) 2 work i) q ≡ true)
