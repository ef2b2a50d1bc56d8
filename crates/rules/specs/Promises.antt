-- What is promised of cleaning by any rule, and of accepted calls of `remove_orphans` and of `run`: which marks survive, and which cells are opaque. Definitions only. Assumes nothing.
use Rattle.std.specs.Prelude.{ℕ, zero, suc, ◌≤◌, ◌<◌, ◌≡◌, ◌⊎◌, Bool, true, false, List, ℤ, take, Ok}
use Rattle.rules.specs.declared.Limits.{Limits}
use Rattle.rules.specs.declared.Facts.{Facts}
use Rattle.rules.specs.Sheet.{Sheet, lent_sheet, sheet_of, sheet_in}
use Rattle.rules.specs.Palette.{Palette}
use Rattle.rules.specs.Regions.{at, index, Joined}
use Rattle.rules.specs.Pass.{Rule, State, small, large, smalls, freezes, fates, fate, pass, moves, fresh, Cleaned, clean}
use Rattle.rules.specs.Outline.{asked, pads, canvas}
use Rattle.rules.specs.Calls.{OrphansCall, RunCall}
use Rattle.rules.specs.Run.{rule_for, limits_of, toned_palette, drawing_of, first_cleaning, outlined_run, cleans_again, process}
use Rattle.rules.specs.Entries.{facts_of, orphans_answer, orphans_cells, run_answer, run_cells, run_palette}
use Rattle.rules.specs.Claims.{repaintings, Apart, KeepsOpaque}

-- ---- cleaning by any rule

-- a pass from s freezes every cell of the region of x on the sheet `left`
unfoldable pub Freezes : Rule → State → List ℤ → ℕ → Type 0
Freezes rule s left x = (y : ℕ) → Joined rule.adj left x y → freezes (fate (fates rule s) y) ≡ true

-- one of the passes made in a run of at most k does
unfoldable pub WasFrozen : Rule → ℕ → State → List ℤ → ℕ → Type 0
WasFrozen rule zero s left x = ⊥
WasFrozen rule (suc k) s left x = Freezes rule s left x ⊎ ((moves rule (fates rule s) ≡ true) × WasFrozen rule k (pass rule s) left x)

-- a cleaning of at most `passes` passes: the list that it leaves, with the sheet in front, and the count that it reports
pub record Made : Type 0 where
  pub passes : ℕ
  pub left : List ℤ
  pub count : ℕ

-- by a rule, from the cells at the start, of which none is frozen
module _ (rule : Rule) (start : List ℤ) where
  abbrev pub initial : State
  initial = fresh rule start

  -- the rule's own run of at most k passes
  abbrev pub ruled : ℕ → Cleaned
  ruled k = clean rule k initial

  abbrev pub own_run : ℕ → Made
  own_run k = record { passes = k; left = (ruled k).state.cells; count = (ruled k).count }

  -- the sheet that a cleaning leaves
  abbrev pub sheet_left : Made → List ℤ
  sheet_left m = take rule.places m.left

  -- what holds of one cleaning
  pub record Cleans (m : Made) : Type 0 where
    -- no cell is repainted twice
    pub once : (x : ℕ) → repaintings rule m.passes initial x ≤ 1
    -- a repainted cell ends with an index that a large region had at the start
    pub source : (x : ℕ) → x < rule.places → 0 < repaintings rule m.passes initial x →
        (y : ℕ) × (large rule start y ≡ true) × (at m.left x ≡ at start y)
    -- the count of repainting passes is at most the number of small regions at the start
    pub bounded : m.count ≤ smalls rule start
    -- no image comes back: after i and after j of its repainting passes, i < j, the cells differ
    pub differ : (i j : ℕ) → i < j → j ≤ m.count → (ruled i).state.cells ≡ (ruled j).state.cells → ⊥
    -- it leaves the rule's cells and reports the rule's count
    pub cells : (x : ℕ) → x < rule.places → at m.left x ≡ at (ruled m.passes).state.cells x
    pub counts : m.count ≡ (ruled m.passes).count
    -- a cell that is not repainted keeps its index
    pub kept : (x : ℕ) → x < rule.places → repaintings rule m.passes initial x ≡ 0 → at m.left x ≡ at start x

  -- two cleanings end alike
  pub record EndAlike (m m' : Made) : Type 0 where
    -- in cells, count and frozen cells
    pub cells : m.left ≡ m'.left
    pub counts : m.count ≡ m'.count
    pub frozen : (ruled m.passes).state.frozen ≡ (ruled m'.passes).state.frozen
    -- each small region left, of an index that may be decided, touches no large one or was frozen in a pass made
    pub rest : (x : ℕ) → small rule (sheet_left m) x ≡ true → rule.free (index (at (sheet_left m) x)) ≡ true →
        Apart rule (fresh rule (sheet_left m)) x ⊎ WasFrozen rule m.passes initial (sheet_left m) x

  -- two cleanings, the first with at most as many passes as the second
  pub record Agree (m m' : Made) : Type 0 where
    -- a cell that the first repainted, or left in a large region, has the same index after the second
    pub repainted_same : (x : ℕ) → x < rule.places → 0 < repaintings rule m.passes initial x → at m.left x ≡ at m'.left x
    pub large-same : (x : ℕ) → x < rule.places → large rule (sheet_left m) x ≡ true → at m.left x ≡ at m'.left x
    -- what holds of either
    pub first : Cleans m
    pub second : Cleans m'
    -- if the first has at least as many passes as there are small regions at the start, both end alike
    pub settled : smalls rule start ≤ m.passes → EndAlike m m'

-- ---- `remove_orphans`

-- the same call with another number of passes and another work area
unfoldable pub with_passes : ℕ → ℕ → OrphansCall → OrphansCall
with_passes q work c =
    let l = c.lent in
    record { lent = lent_sheet l.cells l.height l.width work; palette = c.palette; limits = c.limits; passes = q }

-- Two accepted calls on the same cells, palette and limits, the second with q passes, at least those of the first, and a work area of any
-- length: the counts that they answer and the cells that they leave are those of two cleanings that agree.
pub record TwoCalls (c : OrphansCall) (q work : ℕ) : Type 0 where
  pub count : ℕ
  pub count' : ℕ
  pub answers : orphans_answer c ≡ Ok count
  pub answers' : orphans_answer (with_passes q work c) ≡ Ok count'
  pub agree : Agree (rule_for c.palette c.limits (sheet_in c.lent)) (sheet_in c.lent).cells
      (record { passes = c.passes; left = orphans_cells c; count = count })
      (record { passes = q; left = orphans_cells (with_passes q work c); count = count' })
  -- every index may be decided, so each small region left touches no large one or was frozen
  pub free : (i : ℕ) → (rule_for c.palette c.limits (sheet_in c.lent)).free i ≡ true

-- ---- `run`

-- a cleaning of at most k passes, made if `on`, of the sheet `start`: the sheet that it leaves and the count that is reported
pub record CleansIf (on : Bool) (palette : Palette) (limits : Limits) (start : Sheet) (k : ℕ) (left : Sheet) (count : ℕ) : Type 0 where
  pub made : on ≡ true → Cleans (rule_for palette limits start) start.cells (record { passes = k; left = left.cells; count = count })
  -- where it is not made the sheet goes on as it was, and the count is 0
  pub skipped : on ≡ false → (left ≡ start) × (count ≡ 0)
  pub height : left.height ≡ start.height
  pub width : left.width ≡ start.width
  -- it is a run of the rule, by which every index may be decided, and of which any two on this sheet agree
  pub free : (i : ℕ) → (rule_for palette limits start).free i ≡ true
  pub runs : (p q : ℕ) → p ≤ q →
      Agree (rule_for palette limits start) start.cells (own_run (rule_for palette limits start) start.cells p) (own_run (rule_for palette limits start) start.cells q)

-- the sheet before `run`, padded if padding applies
unfoldable pub before_run : RunCall → Sheet
before_run c = let s = sheet_in c.lent in canvas (pads (drawing_of c) s) s

-- the sheet that a call leaves, of the height and width that the facts tell
unfoldable pub after_run : RunCall → Facts → Sheet
after_run c facts = sheet_of (run_cells c) facts.height facts.width

-- an accepted call of `run`, which answers facts and a count for each cleaning
pub record RunPromise (c : RunCall) : Type 0 where
  pub facts : Facts
  pub passes : ℕ
  pub again : ℕ
  pub answers : run_answer c ≡ Ok (record { facts = facts; passes = passes; again = again })
  -- each cleaning leaves the rule's cells, and its count is the rule's: the first meets the sheet as it came, the second the outlined one
  pub first : CleansIf c.config.remove_orphans (toned_palette c) (limits_of c.config) (sheet_in c.lent) 5 (first_cleaning c).sheet passes
  pub second : CleansIf (cleans_again c.config) (outlined_run c).palette (limits_of c.config) (outlined_run c).sheet 1 (after_run c facts) again
  -- sheet, palette and facts are the specification's
  pub sheet : after_run c facts ≡ (process c).sheet
  pub lab : run_palette c ≡ (process c).palette.lab
  pub told : facts ≡ facts_of (process c).sheet (process c).palette (process c).index (process c).clipped
  -- an opaque cell stays opaque; a transparent one, padding included, turns opaque exactly when an outline is asked for and it is in the ring
  pub opacity : KeepsOpaque (asked c.config.outline) (before_run c) (after_run c facts)
