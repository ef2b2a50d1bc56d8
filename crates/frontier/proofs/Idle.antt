-- Idle places: the test in words, and that a place that is idle now was so before. Assumes nothing.
use Prim.Native.Nat.{ℕ, suc, ◌-◌, ◌<◌}
use mathlib.Core.Path.{◌≡◌}
use mathlib.Core.Bool.{true, false, not, ◌&&◌}
use mathlib.Core.List.{List}
use native.Mathlib.Omega.{arith}
use lib.Dec.{ltb}
use Rattle.base.proofs.Counting.{case, clash, both, left, right, not_true, not_false, leb_yes, yes_leb}
use Rattle.grid.specs.Planes.{plane}
use Rattle.verdicts.specs.Judging.{large_of}
use Rattle.frontier.specs.Judging.{idle}

-- idle, in words
pub record Idle (n : ℕ) (work : List ℕ) (x : ℕ) : Type 0 where
  pub label : 0 < plane n 1 work x
  pub little : large_of n work x ≡ false
  pub number : plane n 6 work (plane n 1 work x - 1) < 2

pub idle_record : (n : ℕ) (work : List ℕ) (x : ℕ) → idle n work x ≡ true → Idle n work x
unfolding idle
idle_record n work x y =
    let p = ltb 0 (plane n 1 work x) in
    let q = not (large_of n work x) in
    let o = ltb (plane n 6 work (plane n 1 work x - 1)) 2 in
    record {
      label = leb_yes {m = 1} {n = plane n 1 work x} (left p q (left (p && q) o y));
      little = not_true (right p q (left (p && q) o y));
      number = leb_yes {m = suc (plane n 6 work (plane n 1 work x - 1))} {n = 2} (right (p && q) o y);
    }

pub record_idle : (n : ℕ) (work : List ℕ) (x : ℕ) → Idle n work x → idle n work x ≡ true
unfolding idle
record_idle n work x u =
    both (both (yes_leb {m = 1} {n = plane n 1 work x} u.label) (not_false u.little)) (yes_leb {m = suc (plane n 6 work (plane n 1 work x - 1))} {n = 2} u.number)

-- a place that is idle in b was so in a, where it has its label, is large if it was, and its group's number tells as much as it did
pub idle_was : (n : ℕ) (a b : List ℕ) (x : ℕ) → plane n 1 b x ≡ plane n 1 a x → (large_of n a x ≡ true → large_of n b x ≡ true) →
    ((t : ℕ) → plane n 1 a x ≡ suc t → plane n 6 b t < 2 → plane n 6 a t < 2) → idle n b x ≡ true → idle n a x ≡ true
idle_was n a b x label large number y =
    let i = idle_record n b x y in
    let some : 0 < plane n 1 a x = rw label at i.label in
    let less : plane n 6 b (plane n 1 a x - 1) < 2 = rw label at i.number in
    record_idle n a x (record {
      label = some;
      little = case (large_of n a x) (λ t. clash (large t) i.little) (λ t. t);
      number = number (plane n 1 a x - 1) (omega arith) less;
    })
