-- Pass after pass is the rules' cleaning. Assumes nothing.
use Prim.Native.Nat.{ℕ, ◌+◌, ◌-◌, ◌*◌, ◌≤◌, ◌<◌}
use mathlib.Core.Path.{◌≡◌, sym, ◌∙◌}
use mathlib.Core.Bool.{true, false}
use mathlib.Core.List.{List}
use native.Mathlib.Omega.{arith}
use borrow.Author.Tests.{lt-ltb, le-ltb}
use Rattle.rules.specs.Pass.{Rule, fresh, clean}
use Rattle.grid.specs.declared.Grid.{Grid}
use Rattle.grid.specs.Planes.{cells_of}
use Rattle.verdicts.specs.Steps.{area_of}
use Rattle.verdicts.specs.Judging.{state_of, Indexed}
use Rattle.orphans.specs.Passing.{Wiped, PassDone, CleanedTo, AtFrontier, PassMade}
use Rattle.orphans.proofs.Cleaning.{Unfrozen, wiped_unfrozen, unfrozen_known, Going, going_start, going_on, going_stops, going_ends, cleaned-from}

-- the log has grown, or not
repaints : {rule : Rule} {grid : Grid} {k end last : ℕ} {a b : List ℕ} → end < last → PassMade rule grid k end a b last → PassDone rule (area_of grid) k a b true
repaints {end = end} {last = last} l s = rw (lt-ltb end last l) at s.passed

rests : {rule : Rule} {grid : Grid} {k end last : ℕ} {a b : List ℕ} → last ≡ end → PassMade rule grid k end a b last → PassDone rule (area_of grid) k a b false
rests {end = end} {last = last} e s = rw (le-ltb end last (omega arith)) at s.passed

-- ---- the passes after the first

-- From the planes a on, `made` of at most `max` passes are made, each of which repainted; the planes are b, and the next pass goes by the log from `begin` on and before `end`
pub record LaterPasses (rule : Rule) (grid : Grid) (k max begin end : ℕ) (a b : List ℕ) (made : ℕ) : Type 0 where
  pub going : Going rule (area_of grid) k max a b made
  pub at_frontier : AtFrontier rule grid k begin end b

module _ (rule : Rule) (grid : Grid) (k max : ℕ) (a : List ℕ) where
  pub later_start : {begin end : ℕ} → AtFrontier rule grid k begin end a → LaterPasses rule grid k max begin end a a 0
  later_start p = record { going = going_start rule (area_of grid) k max a p.planes.stage.known; at_frontier = p }

  module _ {begin end made : ℕ} {b : List ℕ} (u : LaterPasses rule grid k max begin end a b made) where
    -- one more
    pub later_on : made < max → {c : List ℕ} {last : ℕ} → PassMade rule grid k end b c last → end < last → LaterPasses rule grid k max end last a c (made + 1)
    later_on m s l = record { going = going_on rule (area_of grid) k max a u.going m (repaints l s); at_frontier = s.next l }

    -- the last one repaints nothing
    pub later_stops : made < max → {c : List ℕ} {last : ℕ} → PassMade rule grid k end b c last → last ≡ end → CleanedTo (clean rule max (state_of (area_of grid) a)) (area_of grid) k a c made
    later_stops m s e = going_stops rule (area_of grid) k max a u.going m (rests e s)

    -- or there is none left
    pub later_ends : max ≤ made → CleanedTo (clean rule max (state_of (area_of grid) a)) (area_of grid) k a b max
    later_ends m = going_ends rule (area_of grid) k max a u.going m

-- ---- the first pass, and what came before it

-- no pass is asked for: plane 4 is wiped, and that is all
pub cleaned_none : (rule : Rule) (n k max : ℕ) {a b : List ℕ} → rule.places ≡ n → max ≡ 0 → Indexed n k a → Wiped (4 * n) n a b → CleanedTo (clean rule max (fresh rule (cells_of n a))) n k a b 0
cleaned_none rule n k max {b = b} is e known w =
    let u = wiped_unfrozen w in
    let v = cleaned-from rule n k max is u (going_ends rule n k max b (going_start rule n k max b (unfrozen_known u known)) (omega arith)) in
    record { len = v.len; state = v.state; count = sym e ∙ v.count; known = v.known }

-- a pass changes nothing
pub cleaned_still : (rule : Rule) (n k max : ℕ) {a f : List ℕ} → rule.places ≡ n → Unfrozen n a f → 0 < max → PassDone rule n k f f false → CleanedTo (clean rule max (fresh rule (cells_of n a))) n k a f 0
cleaned_still rule n k max {f = f} is u some p = cleaned-from rule n k max is u (going_stops rule n k max f (going_start rule n k max f p.known) some p)

-- the first pass found f, and left g
module _ (rule : Rule) (grid : Grid) (k max : ℕ) {a f g : List ℕ} (is : rule.places ≡ area_of grid) (u : Unfrozen (area_of grid) a f) (known : Indexed (area_of grid) k a) (some : 0 < max) {last : ℕ}
    (s : PassMade rule grid k 0 f g last) where
  going : Going rule (area_of grid) k max f f 0
  going = going_start rule (area_of grid) k max f (unfrozen_known u known)

  -- it repainted nothing
  pub cleaned-first : last ≡ 0 → CleanedTo (clean rule max (fresh rule (cells_of (area_of grid) a))) (area_of grid) k a g 0
  cleaned-first e = cleaned-from rule (area_of grid) k max is u (going_stops rule (area_of grid) k max f going some (rests e s))

  -- or further passes followed it
  pub cleaned-more : 0 < last → {c : List ℕ} {r : ℕ} → CleanedTo (clean rule (max - 1) (state_of (area_of grid) g)) (area_of grid) k g c r → CleanedTo (clean rule max (fresh rule (cells_of (area_of grid) a))) (area_of grid) k a c (r + 1)
  cleaned-more l v =
      let w = going_on rule (area_of grid) k max f going some (repaints l s) in
      cleaned-from rule (area_of grid) k max is u (record { len = v.len ∙ w.len; state = v.state ∙ sym w.state; count = omega (arith, v.count, w.passes); known = v.known })
