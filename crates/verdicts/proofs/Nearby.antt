-- Looking at the cells beside a place: each neighbour stands in one of three rows of three. Assumes nothing.
use Prim.Native.Nat.{ℕ, ◌+◌, ◌-◌, ◌*◌, ◌/◌, ◌%◌, ◌≤◌, ◌<◌}
use mathlib.Core.Path.{◌≡◌, ap}
use mathlib.Core.Bool.{true, not, ◌&&◌}
use native.Mathlib.Nat.{div-add-mod'}
use native.Mathlib.Numerals.{add-one}
use native.Mathlib.Decide.{ℕ_discrete, dec_lt}
use native.Mathlib.Omega.{arith}
use lib.Dec.{eqb, leb}
use Rattle.base.proofs.Counting.{left, right, leb_yes}
use Rattle.rules.specs.Grid.{close, eight}
use Rattle.grid.specs.declared.Grid.{Grid}
use Rattle.grid.proofs.Places.{neighbours_complete, step_few, hop-eight}
use Rattle.verdicts.specs.Steps.{area_of, adjoins}

-- neighbours are at most a row and a column apart
record OneApart (w p q : ℕ) : Type 0 where
  pub up : p / w ≤ q / w + 1
  pub down : q / w ≤ p / w + 1
  pub left : p % w ≤ q % w + 1
  pub right : q % w ≤ p % w + 1

eight_apart : (w p q : ℕ) → eight w p q ≡ true → OneApart w p q
unfolding eight close
eight_apart w p q e =
    let r = leb (p / w) (q / w + 1) in
    let s = leb (q / w) (p / w + 1) in
    let c = leb (p % w) (q % w + 1) in
    let d = leb (q % w) (p % w + 1) in
    let u = left ((r && s) && (c && d)) (not (eqb p q)) e in
    let y = left (r && s) (c && d) u in
    let x = right (r && s) (c && d) u in
    record { up = leb_yes (left r s y); down = leb_yes (right r s y); left = leb_yes (left c d x); right = leb_yes (right c d x) }

-- so a neighbour stands in one of the three rows of three
data InRows (w p q : ℕ) : Type 0 where
  above : (i : ℕ) → i < 3 → q + (w + 1) ≡ p + i → InRows w p q
  level : (i : ℕ) → i < 3 → q + 1 ≡ p + i → InRows w p q
  below : (i : ℕ) → i < 3 → q + 1 ≡ p + w + i → InRows w p q

next_row : (w a b : ℕ) → a ≡ b + 1 → a * w ≡ b * w + w
next_row w a b e = rw (e, add-one b) (omega arith)

apart_rows : (w p q : ℕ) → OneApart w p q → InRows w p q
apart_rows w p q a =
    let ep = div-add-mod' p w in
    let eq = div-add-mod' q w in
    let li : q % w + 1 - p % w < 3 = omega (arith, a.right) in
    elim (ℕ_discrete (p / w) (q / w)) [
      | yes e ↦ level (q % w + 1 - p % w) li (let f = ap (λ (x : ℕ). x * w) e in omega (arith, a.left, ep, eq))
      | no z ↦ elim (dec_lt (p / w) (q / w)) [
        | yes l ↦ below (q % w + 1 - p % w) li (let f = next_row w (q / w) (p / w) (omega (arith, a.down)) in omega (arith, a.left, ep, eq))
        | no g ↦ above (q % w + 1 - p % w) li (let f = next_row w (p / w) (q / w) (omega (arith, a.up)) in omega (arith, a.left, ep, eq))
      ]
    ]

-- what holds in three rows of three
module _ (P : ℕ → Type 0) (w p : ℕ) (rim : w + 1 ≤ p) (over : (i : ℕ) → i < 3 → P (p - (w + 1) + i)) (mid : (i : ℕ) → i < 3 → P (p - 1 + i)) (under : (i : ℕ) → i < 3 → P (p + (w + 1) - 2 + i)) where
  -- holds where a neighbour stands
  each_there : (q : ℕ) → InRows w p q → P q
  each_there q (above i l e) = let f : q ≡ p - (w + 1) + i = omega arith in rw f (over i l)
  each_there q (level i l e) = let f : q ≡ p - 1 + i = omega arith in rw f (mid i l)
  each_there q (below i l e) = let f : q ≡ p + (w + 1) - 2 + i = omega arith in rw f (under i l)

  -- holds of each neighbour
  pub near-each : (q : ℕ) → eight w p q ≡ true → P q
  near-each q y = each_there q (apart_rows w p q (eight_apart w p q y))

-- neighbours in four directions are neighbours in eight
pub neighbours_in : (grid : Grid) (p q : ℕ) → q < area_of grid → adjoins grid p q ≡ true → eight grid.w p q ≡ true
neighbours_in grid p q l y =
    let f = neighbours_complete grid.near grid.h grid.w p q l y in
    hop-eight grid.h grid.w p f.0 q (step_few grid.near f.0 f.1) f.2
