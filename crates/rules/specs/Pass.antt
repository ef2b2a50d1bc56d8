-- One pass of cleaning, and cleaning: small regions take the index that most cells of large regions around them have.
-- Definitions only. Assumes nothing.
use Rattle.std.specs.Prelude.{ℕ, zero, suc, Bool, true, false, not, ◌&&◌, ◌||◌, cond, List, eqb, ltb, ℤ, pos, get_or, Float, Option, None, Some}
use Rattle.std.specs.Int.Signed.{lt_z}
use Rattle.std.specs.Float.Ieee.{lt}
use Rattle.base.specs.Places.{table, any, count, greatest}
use Rattle.rules.specs.Palette.{first_least}
use Rattle.rules.specs.Regions.{at, opaque, index, roots, held, inside, first}

-- what a pass goes by
pub record Rule : Type 0 where
  -- how many cells the sheet has
  pub places : ℕ
  -- which places neighbour which
  pub adj : ℕ → ℕ → Bool
  -- the region limit: a region of fewer cells is small
  pub limit : ℤ
  -- whether regions of an index may be decided
  pub free : ℕ → Bool
  -- the distance of two palette entries
  pub dist : ℕ → ℕ → Float
  -- the colour limit
  pub reach : Float

-- what a pass changes
pub record State : Type 0 where
  pub cells : List ℤ
  pub frozen : List Bool

-- a sheet at the start of a pass: with it the root of each place, and whether the place lies in a large region
pub record View : Type 0 where
  pub cells : List ℤ
  pub frozen : List Bool
  pub root : List ℕ
  pub large : List Bool

-- what a list of tests says at a place: past its end, no
unfoldable pub marked : List Bool → ℕ → Bool
marked l p = get_or l p false

-- the number of cells of the region with the root m
unfoldable pub size : ℕ → List ℤ → List ℕ → ℕ → ℕ
size n cells r m = count n (inside cells r m)

-- the region with the root m has fewer cells than the region limit
unfoldable pub few : Rule → List ℤ → List ℕ → ℕ → Bool
few rule cells r m = lt_z (pos (size rule.places cells r m)) rule.limit

-- p lies in a small region
unfoldable pub is_small : Rule → List ℤ → List ℕ → ℕ → Bool
is_small rule cells r p = opaque cells p && few rule cells r (held r p)

-- p lies in a large region
unfoldable pub is_large : Rule → List ℤ → List ℕ → ℕ → Bool
is_large rule cells r p = opaque cells p && not (few rule cells r (held r p))

-- the same on a sheet with its own roots
unfoldable pub small : Rule → List ℤ → ℕ → Bool
small rule cells p = is_small rule cells (roots rule.places rule.adj cells) p

unfoldable pub large : Rule → List ℤ → ℕ → Bool
large rule cells p = is_large rule cells (roots rule.places rule.adj cells) p

-- the number of small regions, by their first cells
unfoldable pub smalls : Rule → List ℤ → ℕ
smalls rule cells = count rule.places (λ p. first cells (roots rule.places rule.adj cells) p && small rule cells p)

unfoldable pub view : Rule → State → View
view rule s =
    let r = roots rule.places rule.adj s.cells in
    record { cells = s.cells; frozen = s.frozen; root = r; large = table rule.places (is_large rule s.cells r) }

-- what becomes of a region: it stays as it is, or takes a target at a distance, or is frozen for being too far from it
pub data Verdict : Type 0 where
  stay : Verdict
  merge : ℕ → Float → Verdict
  freeze : ℕ → Float → Verdict

-- the verdict that a target gives a region of the index own
unfoldable pub judged : Rule → ℕ → Option ℕ → Verdict
judged rule own None = stay
judged rule own (Some c) =
    cond (lt (rule.dist own c) rule.reach) (merge c (rule.dist own c)) (freeze c (rule.dist own c))

-- votes, by the list that says which places are voters
module _ (rule : Rule) (cells : List ℤ) where
  -- how many voters have the index c
  unfoldable pub votes : List Bool → ℕ → ℕ
  votes voters c = count rule.places (λ q. marked voters q && eqb (index (at cells q)) c)

  -- the votes of the voters' most frequent index
  unfoldable pub most : List Bool → ℕ
  most voters = greatest rule.places (marked voters) (λ q. votes voters (index (at cells q)))

  -- c is a most frequent index among the voters
  unfoldable pub frequent : List Bool → ℕ → Bool
  frequent voters c = ltb 0 (votes voters c) && eqb (votes voters c) (most voters)

  -- above every index on the sheet
  unfoldable pub top : ℕ
  top = suc (greatest rule.places (opaque cells) (λ p. index (at cells p)))

  -- of the most frequent indices the nearest to own, the lowest of several
  unfoldable pub target : ℕ → List Bool → Option ℕ
  target own voters = first_least (frequent voters) (rule.dist own) top

module _ (rule : Rule) (v : View) where
  -- q votes on the region m: it lies in a large region and neighbours a cell of m
  unfoldable pub voter : ℕ → ℕ → Bool
  voter m q = marked v.large q && any rule.places (λ p. inside v.cells v.root m p && rule.adj p q)

  -- m is the root of a small region that a pass may decide: its index is free and none of its cells is frozen
  unfoldable pub pending : ℕ → Bool
  pending m =
      first v.cells v.root m
      && not (marked v.large m)
      && rule.free (index (at v.cells m))
      && not (any rule.places (λ p. inside v.cells v.root m p && marked v.frozen p))

  -- the verdict on the region with the root m: one that is not pending stays
  unfoldable pub verdict : ℕ → Verdict
  verdict m =
      let own = index (at v.cells m) in
      cond (pending m) (judged rule own (target rule v.cells own (table rule.places (voter m)))) stay

-- what becomes of a cell
unfoldable pub painted : Verdict → ℤ → ℤ
painted stay z = z
painted (merge c d) z = pos c
painted (freeze c d) z = z

unfoldable pub merges : Verdict → Bool
merges stay = false
merges (merge c d) = true
merges (freeze c d) = false

unfoldable pub freezes : Verdict → Bool
freezes stay = false
freezes (merge c d) = false
freezes (freeze c d) = true

-- what a list of verdicts says of a place: past its end, stay
unfoldable pub fate : List Verdict → ℕ → Verdict
fate f p = get_or f p stay

-- the verdict on the region of each place, which is that on its root
unfoldable pub fates : Rule → State → List Verdict
fates rule s =
    let v = view rule s in
    let onRoots = table rule.places (verdict rule v) in
    table rule.places (λ p. fate onRoots (held v.root p))

-- one pass: all changes happen together
unfoldable pub applied : Rule → State → List Verdict → State
applied rule s f =
    record {
      cells = table rule.places (λ p. painted (fate f p) (at s.cells p));
      frozen = table rule.places (λ p. freezes (fate f p) || marked s.frozen p);
    }

unfoldable pub pass : Rule → State → State
pass rule s = applied rule s (fates rule s)

-- a pass from s repaints the cell at p
unfoldable pub repaints : Rule → State → ℕ → Bool
repaints rule s p = merges (fate (fates rule s) p)

-- a pass with the verdicts f repaints some cell
unfoldable pub moves : Rule → List Verdict → Bool
moves rule f = any rule.places (λ p. merges (fate f p))

-- a sheet with no cell frozen
unfoldable pub fresh : Rule → List ℤ → State
fresh rule cells = record { cells = cells; frozen = table rule.places (λ p. false) }

pub record Cleaned : Type 0 where
  pub state : State
  pub count : ℕ

-- at most k passes, each on what the last one left; a pass that repaints nothing is the last. With it the count of repainting passes.
unfoldable pub clean : Rule → ℕ → State → Cleaned
clean rule zero s = record { state = s; count = 0 }
clean rule (suc k) s =
    let f = fates rule s in
    let next = applied rule s f in
    elim (moves rule f) [
      | true ↦ (let c = clean rule k next in record { state = c.state; count = suc c.count })
      | false ↦ record { state = next; count = 0 }
    ]
