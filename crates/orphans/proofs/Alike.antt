-- Sheets that differ only in how their transparent cells are written are cleaned alike. Assumes nothing.
use Prim.Native.Nat.{ℕ, zero, suc, ◌-◌, ◌<◌}
use mathlib.Core.Path.{◌≡◌, refl, sym, ap, ap₂, fun_ext, ◌∙◌, subst}
use mathlib.Core.Bool.{Bool, not, ◌&&◌, ◌||◌}
use mathlib.Core.List.{List}
use native.Mathlib.Decide.{dec_lt}
use native.Mathlib.Omega.{arith}
use lib.Dec.{eqb, ltb}
use lib.IntN.{ℤ, pos, negsuc}
use lib.Signed.{lt_z}
use lib.ListN.{get_or, get_or-eq_default}
use Rattle.base.specs.Places.{table, any, count, greatest}
use Rattle.base.proofs.Counting.{case, table_at, table-length}
use Rattle.rules.specs.Regions.{at, index, held, roots, inside, first}
use Rattle.rules.specs.Palette.{first_least}
use Rattle.rules.specs.Pass.{Rule, State, View, marked, size, few, is_large, view, Verdict, stay, merge, freeze, votes, most, frequent, target, top, voter, pending, verdict, painted, freezes, fates, fate, applied, pass, moves, Cleaned, clean}
use Rattle.rules.proofs.Runs.{clean_go, clean_stop}
use Rattle.grid.specs.Planes.{paint_of}
use Rattle.grid.proofs.Planes.{same-opaque, same-roots}

index_paint : (z : ℤ) → index z ≡ paint_of z - 1
unfolding index paint_of
index_paint (pos i) = omega arith
index_paint (negsuc i) = refl

paint_painted : (f : Verdict) (y z : ℤ) → paint_of y ≡ paint_of z → paint_of (painted f y) ≡ paint_of (painted f z)
unfolding painted
paint_painted stay y z e = e
paint_painted (merge c d) y z e = refl
paint_painted (freeze c d) y z e = e

-- ---- one pass

module _ (rule : Rule) (a b : List ℤ) (same : (p : ℕ) → paint_of (at a p) ≡ paint_of (at b p)) (frozenCells : List Bool) where
  abbrev n : ℕ
  n = rule.places

  abbrev index_at : List ℤ → ℕ → ℕ
  index_at c p = index (at c p)

  same_index : index_at a ≡ index_at b
  same_index = fun_ext (λ p. index_paint (at a p) ∙ ap (λ (x : ℕ). x - 1) (same p) ∙ sym (index_paint (at b p)))

  same-large : is_large rule a (roots n rule.adj a) ≡ is_large rule b (roots n rule.adj b)
  unfolding is_large few size inside
  same-large =
      ap₂ {C = ℕ → Bool} (λ (o : ℕ → Bool) (r : List ℕ) (p : ℕ). o p && not (lt_z (pos (count n (λ q. o q && eqb (held r q) (held r p)))) rule.limit))
      (same-opaque a b same) (same-roots a b same n rule.adj)

  -- a sheet with the roots and the large regions of b
  abbrev seen : List ℤ → View
  seen c = record { cells = c; frozen = frozenCells; root = roots n rule.adj b; large = table n (is_large rule b (roots n rule.adj b)) }

  same_view : view rule (record { cells = a; frozen = frozenCells }) ≡ seen a
  unfolding view
  same_view = rw (same-large, same-roots a b same n rule.adj)

  same-voter : (m : ℕ) → voter rule (seen a) m ≡ voter rule (seen b) m
  unfolding voter inside
  same-voter m =
      ap {B = ℕ → Bool} (λ (o : ℕ → Bool) (q : ℕ). marked (seen b).large q && any n (λ p. (o p && eqb (held (seen b).root p) m) && rule.adj p q)) (same-opaque a b same)

  same-votes : (voters : List Bool) → votes rule a voters ≡ votes rule b voters
  unfolding votes
  same-votes voters = ap {B = ℕ → ℕ} (λ (i : ℕ → ℕ) (c : ℕ). count n (λ q. marked voters q && eqb (i q) c)) same_index

  same-most : (voters : List Bool) → most rule a voters ≡ most rule b voters
  unfolding most
  same-most voters = ap₂ (λ (i v : ℕ → ℕ). greatest n (marked voters) (λ q. v (i q))) same_index (same-votes voters)

  same-frequent : (voters : List Bool) (c : ℕ) → frequent rule a voters c ≡ frequent rule b voters c
  unfolding frequent
  same-frequent voters c = ap₂ (λ (v : ℕ → ℕ) (m : ℕ). ltb 0 (v c) && eqb (v c) m) (same-votes voters) (same-most voters)

  same-top : top rule a ≡ top rule b
  unfolding top
  same-top = ap₂ (λ (o : ℕ → Bool) (i : ℕ → ℕ). suc (greatest n o i)) (same-opaque a b same) same_index

  same_target : (own : ℕ) (voters : List Bool) → target rule a own voters ≡ target rule b own voters
  unfolding target
  same_target own voters = ap₂ (λ (f : ℕ → Bool) (k : ℕ). first_least f (rule.dist own) k) (fun_ext (same-frequent voters)) same-top

  same-pending : (m : ℕ) → pending rule (seen a) m ≡ pending rule (seen b) m
  unfolding pending first inside
  same-pending m =
      ap₂ (λ (o : ℕ → Bool) (i : ℕ → ℕ). o m && eqb (held (seen b).root m) m && not (marked (seen b).large m) && rule.free (i m)
      && not (any n (λ p. (o p && eqb (held (seen b).root p) m) && marked frozenCells p))) (same-opaque a b same) same_index

  same-verdict : verdict rule (seen a) ≡ verdict rule (seen b)
  unfolding verdict
  same-verdict =
      fun_ext (λ m. let i : index (at a m) ≡ index (at b m) = ap (λ (f : ℕ → ℕ). f m) same_index in
      rw (same-pending m, i, same-voter m, same_target (index (at b m)) (table n (voter rule (seen b) m))))

  pub same-fates : fates rule (record { cells = a; frozen = frozenCells }) ≡ fates rule (record { cells = b; frozen = frozenCells })
  unfolding fates fate view
  same-fates =
      ap (λ (v : View). table n (λ p. get_or (table n (verdict rule v)) (held v.root p) stay)) same_view
      ∙ ap (λ (f : ℕ → Verdict). table n (λ p. get_or (table n f) (held (seen b).root p) stay)) same-verdict

  abbrev left : State
  left = record { cells = a; frozen = frozenCells }

  abbrev right : State
  right = record { cells = b; frozen = frozenCells }

  pub pass-alike : (p : ℕ) → paint_of (at (pass rule left).cells p) ≡ paint_of (at (pass rule right).cells p)
  unfolding pass applied at
  pass-alike p =
      elim (dec_lt p n) [
        | yes l ↦ (ap paint_of (table_at n _ (negsuc 0) p l) ∙ paint_painted (fate (fates rule left) p) (at a p) (at b p) (same p)
            ∙ ap (λ (f : List Verdict). paint_of (painted (fate f p) (at b p))) same-fates ∙ ap paint_of (sym (table_at n _ (negsuc 0) p l)))
        | no m ↦ ap paint_of (past (λ q. painted (fate (fates rule left) q) (at a q)) m ∙ sym (past (λ q. painted (fate (fates rule right) q) (at b q)) m))
      ]
    where
      past : (f : ℕ → ℤ) → (p < n → ⊥) → get_or (table n f) p (negsuc 0) ≡ negsuc 0
      past f m = get_or-eq_default (table n f) (negsuc 0) (omega (arith, table-length n f))

  pub pass_frozen_cells : (pass rule left).frozen ≡ (pass rule right).frozen
  unfolding pass applied
  pass_frozen_cells = ap (λ (f : List Verdict). table n (λ p. freezes (fate f p) || marked frozenCells p)) same-fates

  pub moves-alike : moves rule (fates rule left) ≡ moves rule (fates rule right)
  moves-alike = ap (moves rule) same-fates

-- ---- all passes

-- two results have one count, and sheets that are painted alike
pub record Same (c d : Cleaned) : Type 0 where
  pub paint : (p : ℕ) → paint_of (at c.state.cells p) ≡ paint_of (at d.state.cells p)
  pub count : c.count ≡ d.count

pub clean-alike : (rule : Rule) (k : ℕ) (a b : List ℤ) (frozenCells : List Bool) → ((p : ℕ) → paint_of (at a p) ≡ paint_of (at b p)) → Same (clean rule k (record { cells = a; frozen = frozenCells })) (clean rule k (record { cells = b; frozen = frozenCells }))
unfolding clean
clean-alike rule zero a b frozenCells same = record { paint = same; count = refl }
clean-alike rule (suc k) a b frozenCells same =
    let s : State = record { cells = a; frozen = frozenCells } in
    let t : State = record { cells = b; frozen = frozenCells } in
    case (moves rule (fates rule s))
    (λ y. let i = clean-alike rule k (pass rule s).cells (pass rule t).cells (pass rule s).frozen (pass-alike rule a b same frozenCells) in
    let j : Same (clean rule k (pass rule s)) (clean rule k (pass rule t)) = subst (λ (x : List Bool). Same (clean rule k (pass rule s)) (clean rule k (record { cells = (pass rule t).cells; frozen = x }))) (pass_frozen_cells rule a b same frozenCells) i in
    rw (clean_go rule k s y, clean_go rule k t (sym (moves-alike rule a b same frozenCells) ∙ y)) (record { paint = j.paint; count = ap suc j.count }))
    (λ z. rw (clean_stop rule k s z, clean_stop rule k t (sym (moves-alike rule a b same frozenCells) ∙ z)) (record { paint = pass-alike rule a b same frozenCells; count = refl }))
