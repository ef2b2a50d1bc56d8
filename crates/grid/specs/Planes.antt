-- The planes of the work area. For a grid of n cells plane j begins at j * n: 0 paint, 1 label, 2 order, 3 end of region by label,
-- 4 frozen, 5 mark, 6 verdict by label, 7 spare. Definitions only. Assumes nothing.
use Rattle.std.specs.Prelude.{ℕ, zero, suc, ◌+◌, ◌*◌, ◌≤◌, ◌<◌, ◌≡◌, ◌↔◌, Bool, List, ℤ, pos, negsuc, get_or}
use Rattle.base.specs.Places.{table}
use Rattle.rules.specs.Regions.{root}
use Rattle.rules.specs.Masks as masks

-- what plane j holds at the place p
unfoldable pub plane : ℕ → ℕ → List ℕ → ℕ → ℕ
plane n j work p = get_or work (j * n + p) 0

-- ---- plane 0: paint

-- 0 for a transparent cell, index + 1 otherwise
unfoldable pub paint_of : ℤ → ℕ
paint_of (pos i) = i + 1
paint_of (negsuc i) = 0

-- the cell that a paint stands for
unfoldable pub cell_of : ℕ → ℤ
cell_of zero = negsuc 0
cell_of (suc i) = pos i

-- the sheet that plane 0 holds
unfoldable pub cells_of : ℕ → List ℕ → List ℤ
cells_of n work = table n (λ p. cell_of (plane n 0 work p))

-- ---- planes 1 to 3: regions

-- the label of the i-th place of the order
unfoldable pub group_at : ℕ → List ℕ → ℕ → ℕ
group_at n work i = plane n 1 work (plane n 2 work i)

-- how many places of the order belong to the regions 1 to k
unfoldable pub end_of : ℕ → List ℕ → ℕ → ℕ
end_of n work zero = 0
end_of n work (suc k) = plane n 3 work k

-- The planes hold the regions of a sheet: plane 1 the labels; plane 2 the opaque places, `taken` of them, region after region,
-- so that those of region k + 1 stand from end_of k on and before end_of (k + 1), its first cell foremost; plane 3 these ends.
pub record Labelled (adj : ℕ → ℕ → Bool) (cells : List ℤ) (n : ℕ) (work : List ℕ) (regions taken : ℕ) : Type 0 where
  pub labels : (p : ℕ) → p < n → plane n 1 work p ≡ masks.label_at n adj cells p
  pub count : regions ≡ masks.regions n adj cells
  pub room : taken ≤ n
  pub placed : (i : ℕ) → i < taken → (plane n 2 work i < n) × (1 ≤ group_at n work i)
  pub sorted : (i j : ℕ) → i ≤ j → j < taken → group_at n work i ≤ group_at n work j
  pub distinct : (i j : ℕ) → i < j → j < taken → plane n 2 work i ≡ plane n 2 work j → ⊥
  pub listed : (p : ℕ) → p < n → (plane n 1 work p ≡ 0 → ⊥) → (i : ℕ) × (i < taken) × (plane n 2 work i ≡ p)
  pub limits : (k : ℕ) → k ≤ regions → end_of n work k ≤ taken
  pub ends : (k : ℕ) → k ≤ regions → (i : ℕ) → i < taken → (group_at n work i ≤ k) ↔ (i < end_of n work k)
  pub foremost : (k : ℕ) → k < regions → root n adj cells (plane n 2 work (end_of n work k)) ≡ plane n 2 work (end_of n work k)
