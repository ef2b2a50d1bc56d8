-- The labels of a sheet in plane 0. Assumes nothing.
use Prim.Native.Nat.{ℕ, ◌+◌, ◌*◌, ◌≤◌, ◌<◌}
use mathlib.Core.Path.{◌≡◌, sym, ap, fun_ext, ◌∙◌}
use mathlib.Core.Bool.{Bool}
use mathlib.Core.List.{List, ◌++◌}
use native.Mathlib.Omega.{arith}
use lib.IntN.{ℤ}
use lib.ListN.{length, get_or, take, drop, length-drop}
use lib.Seq.{ext_get_or, length-take-le, get_or-take, get_or-drop}
use Rattle.base.specs.Places.{table}
use Rattle.base.specs.Outputs.{filled}
use Rattle.base.proofs.Counting.{table_at, table-length}
use Rattle.rules.specs.Masks.{label_at, regions}
use Rattle.grid.specs.Planes.{plane, cells_of}
use Rattle.grid.proofs.Planes.{plane_read, Painted, same_labels, same-regions, painted-alike}

-- plane 1, handed out to the front of a list
pub plane_out : (n k : ℕ) (f : ℕ → ℕ) (work part labels : List ℕ) → part ≡ take k (drop n work) → k ≡ n → 2 * n ≤ length work → ((p : ℕ) → p < n → plane n 1 work p ≡ f p) →
    part ++ drop n labels ≡ filled n f labels
unfolding filled
plane_out n k f work part labels e is room labelled =
    ap (λ (x : List ℕ). x ++ drop n labels) (e ∙ ext_get_or 0 (take k (drop n work)) (table n f) (size ∙ sym (table-length n f)) (λ p l. at p (omega (arith, size))))
  where
    size : length (take k (drop n work)) ≡ n
    size = length-take-le k (drop n work) (omega (arith, length-drop n work)) ∙ is

    at : (p : ℕ) → p < n → get_or (take k (drop n work)) p 0 ≡ get_or (table n f) p 0
    at p l =
        get_or-take k (drop n work) p 0 (omega arith) ∙ get_or-drop n work p 0 ∙ plane_read n 1 p (n + p) work (omega arith) ∙ labelled p l ∙ sym (table_at n f 0 p l)

-- the labels of the sheet in plane 0 are those of the sheet that it was painted with
module _ {cells : List ℤ} {n : ℕ} {work : List ℕ} (s : Painted cells n work) {adj neighbours : ℕ → ℕ → Bool} (is : neighbours ≡ adj) where
  pub painted-regions : regions n neighbours (cells_of n work) ≡ regions n adj cells
  painted-regions = ap (λ (a : ℕ → ℕ → Bool). regions n a (cells_of n work)) is ∙ same-regions (cells_of n work) cells (painted-alike s) n adj

  pub painted_labels : (l : List ℕ) → filled n (label_at n neighbours (cells_of n work)) l ≡ filled n (label_at n adj cells) l
  painted_labels l =
      ap (λ (a : ℕ → ℕ → Bool). filled n (label_at n a (cells_of n work)) l) is
      ∙ ap (λ (f : ℕ → ℕ). filled n f l) (fun_ext (λ p. same_labels (cells_of n work) cells (painted-alike s) n adj p))
