-- Labels and masks: `label_regions`, `label4` and `binary_dilation8`. Definitions only. Assumes nothing.
use Rattle.std.specs.Prelude.{ℕ, ◌*◌, ◌/◌, ◌%◌, max, Bool, not, ◌&&◌, cond, List, [], ◌∷◌, map, ltb, eqb, ℤ, pos, negsuc, length, get_or, take, Option, Result}
use Rattle.base.specs.Places.{any, count}
use Rattle.base.specs.Outputs.{filled}
use Rattle.base.specs.declared.Refusal.{Refusal}
use Rattle.base.specs.declared.Refusal.TheVariants.{SettingOutOfRange}
use Rattle.base.specs.Refusals.{Row, row, refusal, unless, answered}
use Rattle.rules.specs.Grid.{close, eight, four}
use Rattle.rules.specs.Regions.{roots, first, label}
use Rattle.rules.specs.Rows.{too_large, too_short, cramped}

-- ---- labels, for any neighbourhood of n places

-- the label of each place
unfoldable pub label_at : ℕ → (ℕ → ℕ → Bool) → List ℤ → ℕ → ℕ
label_at n adj cells p = label cells (roots n adj cells) p

-- the number of regions
unfoldable pub regions : ℕ → (ℕ → ℕ → Bool) → List ℤ → ℕ
regions n adj cells = count n (first cells (roots n adj cells))

-- rows 1 to 3 of an entry that reads a lent list and fills another, each of one number a cell
unfoldable pub grid_refusal : ℕ → ℕ → ℕ → ℕ → ℕ → List Row → Option Refusal
grid_refusal h w lent out work more =
    refusal (too_large h w ∷ too_short lent (h * w) ∷ too_short out (h * w) ∷ cramped work (h * w) ∷ more)

-- `label_regions`: its refusal, its answer and its labels. Eight neighbours join.
unfoldable pub regions_refusal : List ℤ → ℕ → ℕ → List ℕ → ℕ → Option Refusal
regions_refusal cells h w labels work = grid_refusal h w (length cells) (length labels) work []

unfoldable pub regions_answer : List ℤ → ℕ → ℕ → List ℕ → ℕ → Result ℕ Refusal
regions_answer cells h w labels work =
    answered (regions_refusal cells h w labels work) (regions (h * w) (eight w) (take (h * w) cells))

unfoldable pub regions_labels : List ℤ → ℕ → ℕ → List ℕ → ℕ → List ℕ
regions_labels cells h w labels work =
    unless (regions_refusal cells h w labels work) (λ n. labels)
    (filled (h * w) (label_at (h * w) (eight w) (take (h * w) cells)) labels)

-- ---- masks

-- a nonzero byte is set
unfoldable pub is_set : ℕ → Bool
is_set b = not (eqb b 0)

-- a mask as cells: set ones have the index 0, the others are transparent
unfoldable pub mask_cells : List ℕ → List ℤ
mask_cells mask = map (λ b. cond (is_set b) (pos 0) (negsuc 0)) mask

-- `label4`: the same with four neighbours, 0 for unset
unfoldable pub mask_refusal : List ℕ → ℕ → ℕ → List ℕ → ℕ → Option Refusal
mask_refusal mask h w labels work = grid_refusal h w (length mask) (length labels) work []

unfoldable pub mask_answer : List ℕ → ℕ → ℕ → List ℕ → ℕ → Result ℕ Refusal
mask_answer mask h w labels work =
    answered (mask_refusal mask h w labels work) (regions (h * w) (four w) (mask_cells (take (h * w) mask)))

unfoldable pub mask_labels : List ℕ → ℕ → ℕ → List ℕ → ℕ → List ℕ
mask_labels mask h w labels work =
    unless (mask_refusal mask h w labels work) (λ n. labels)
    (filled (h * w) (label_at (h * w) (four w) (mask_cells (take (h * w) mask))) labels)

-- how far a dilation by k reaches: 0 means max(h, w)
unfoldable pub reach_of : ℕ → ℕ → ℕ → ℕ
reach_of h w k = cond (eqb k 0) (max h w) k

-- 1 for every cell within k rows and k columns of a set one, 0 for the others
unfoldable pub dilated_at : List ℕ → ℕ → ℕ → ℕ → ℕ → ℕ
dilated_at mask h w k p =
    cond (any (h * w) (λ q. is_set (get_or mask q 0) && close k (p / w) (q / w) && close k (p % w) (q % w))) 1 0

-- `binary_dilation8`: k above 65,535 is 6
unfoldable pub dilation_refusal : List ℕ → ℕ → ℕ → ℕ → List ℕ → ℕ → Option Refusal
dilation_refusal mask h w k out work = grid_refusal h w (length mask) (length out) work (row SettingOutOfRange (ltb 65535 k) ∷ [])

unfoldable pub dilation_answer : List ℕ → ℕ → ℕ → ℕ → List ℕ → ℕ → Result Unit Refusal
dilation_answer mask h w k out work = answered (dilation_refusal mask h w k out work) tt

unfoldable pub dilation_out : List ℕ → ℕ → ℕ → ℕ → List ℕ → ℕ → List ℕ
dilation_out mask h w k out work =
    unless (dilation_refusal mask h w k out work) (λ n. out) (filled (h * w) (dilated_at mask h w (reach_of h w k)) out)
