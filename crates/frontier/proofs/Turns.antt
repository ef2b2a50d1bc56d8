-- What holds where a step leads, and in a turn over the log. Assumes nothing.
use Prim.Native.Nat.{ℕ, suc, ◌+◌, ◌*◌, ◌≤◌, ◌<◌}
use mathlib.Core.Path.{◌≡◌, sym, ◌∙◌, subst}
use mathlib.Core.Logic.{◌⊎◌, ⊎_elim}
use mathlib.Core.List.{List}
use native.Mathlib.Omega.{arith}
use lib.ListN.{length, get_or}
use Rattle.std.specs.Prelude.{Some}
use Rattle.grid.specs.declared.Grid.{Grid}
use Rattle.grid.specs.declared.Move.{Move}
use Rattle.grid.specs.Planes.{plane, end_of}
use Rattle.grid.proofs.Places.{step_sound}
use Rattle.grid.proofs.Planes.{plane_read}
use Rattle.verdicts.specs.Steps.{area_of, landing}
use Rattle.verdicts.specs.Groups.{Group, GroupedSheet}
use Rattle.verdicts.proofs.Keeping.{sheet-few}
use Rattle.verdicts.proofs.Spans.{Within}

-- what holds where a step leads
pub record Landed (n q : ℕ) (work : List ℕ) : Type 0 where
  pub few : n ≤ 264196
  pub room : 8 * n ≤ length work
  pub bound : q < n

pub step_read : {grid : Grid} (step : Move) {work : List ℕ} {q : ℕ} → GroupedSheet grid work → landing grid step ≡ Some q → Landed (area_of grid) q work
step_read step sheet cell = record { few = sheet-few sheet; room = sheet.room; bound = (step_sound _ _ _ _ _ _ _ cell).inside }

-- what holds of a place of a group, and of a number of its span before i
module _ (P : ℕ → Type 0) {n at from to : ℕ} {a : List ℕ} (g : Group n a at) (ends : (from ≡ end_of n a at) × (to ≡ end_of n a (suc at))) {i : ℕ} where
  pub group-within : to ≤ i → (p : ℕ) × (p < n) × (plane n 1 a p ≡ suc at) × P p → Within from i (λ j. P (plane n 2 a j))
  group-within l z = let j = g.all z.0 z.1 z.2 in (j.0, omega (arith, j.1, ends.0), omega (arith, j.2, ends.1), subst P (sym j.3) z.3)

  pub within-group : i ≤ to → Within from i (λ j. P (plane n 2 a j)) → (p : ℕ) × (p < n) × (plane n 1 a p ≡ suc at) × P p
  within-group l z = let p = g.places z.0 (omega (arith, z.1, ends.0)) (omega (arith, z.2, ends.1)) in (plane n 2 a z.0, p.0, p.1, z.3)

-- what holds before the end of a loop, which is its beginning if that lies past `to`
pub within_end : {from i to : ℕ} {P : ℕ → Type 0} → (i ≤ to) ⊎ (i ≡ from) → Within from i P → Within from to P
within_end e z = (z.0, z.1, ⊎_elim (λ y. omega (arith, z.2)) (λ y. let x = z.1 in absurd (omega (arith, z.2))) e, z.3)

-- a turn over the log before `to`: what it holds at i is a group
pub record LogTurn (n to i : ℕ) (a b : List ℕ) : Type 0 where
  pub few : n ≤ 264196
  pub room : 8 * n ≤ length b
  pub turn : i < to
  pub on : i < n
  pub is : get_or b (7 * n + i) 0 ≡ plane n 7 a i
  pub group : Group n a (get_or b (7 * n + i) 0)
  pub label : get_or b (7 * n + i) 0 < n

-- while the log is kept, a turn reads what it held
pub log_turn : {n to i : ℕ} {a b : List ℕ} → n ≤ 264196 → 8 * n ≤ length a → to ≤ n → i < to → length b ≡ length a → (i < n → plane n 7 b i ≡ plane n 7 a i) → Group n a (plane n 7 a i) → LogTurn n to i a b
log_turn {n} {to} {i} {a} {b} few room last t len kept was =
    let on : i < n = omega arith in
    let e = plane_read n 7 i (7 * n + i) b (omega arith) ∙ kept on in
    let g : Group n a (get_or b (7 * n + i) 0) = rw e was in
    record { few = few; room = rw len room; turn = t; on = on; is = e; group = g; label = g.label }
