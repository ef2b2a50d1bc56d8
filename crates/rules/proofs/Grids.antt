-- The two neighbourhoods of a grid work both ways round, and so does the rule on a sheet. Assumes nothing.
use Prim.Native.Nat.{ℕ, ◌/◌, ◌%◌, ◌+◌}
use mathlib.Core.Path.{◌≡◌, refl, sym, subst}
use mathlib.Core.Logic.{⊎_elim}
use mathlib.Core.Bool.{true, not, ◌&&◌, ◌||◌}
use lib.Dec.{leb, eqb}
use Rattle.rules.specs.declared.Limits.{Limits}
use Rattle.rules.specs.Sheet.{Sheet}
use Rattle.rules.specs.Palette.{Palette}
use Rattle.rules.specs.Regions.{Symmetric}
use Rattle.rules.specs.Grid.{close, eight, four}
use Rattle.rules.specs.Run.{rule_on, rule_for}
use Rattle.base.proofs.Counting.{case, clash, both, left, right, either, or_left, or_right, not_true, not_false, eqb_yes, yes_eqb}

close_sym : (a b : ℕ) → close 1 a b ≡ true → close 1 b a ≡ true
unfolding close
close_sym a b e = both (right (leb a (b + 1)) (leb b (a + 1)) e) (left (leb a (b + 1)) (leb b (a + 1)) e)

eqb_sym : (a b : ℕ) → eqb a b ≡ true → eqb b a ≡ true
eqb_sym a b e = yes_eqb (sym (eqb_yes {m = a} {n = b} e))

other_sym : (a b : ℕ) → not (eqb a b) ≡ true → not (eqb b a) ≡ true
other_sym a b e = not_false (case (eqb b a) (λ y. clash (eqb_sym b a y) (not_true {b = eqb a b} e)) (λ z. z))

pub eight_symmetric : (w : ℕ) → Symmetric (eight w)
unfolding Symmetric eight
eight_symmetric w p q e =
    let r = close 1 (p / w) (q / w) in
    let c = close 1 (p % w) (q % w) in
    let d = not (eqb p q) in
    both (both (close_sym (p / w) (q / w) (left r c (left (r && c) d e))) (close_sym (p % w) (q % w) (right r c (left (r && c) d e)))) (other_sym p q (right (r && c) d e))

pub four_symmetric : (w : ℕ) → Symmetric (four w)
unfolding Symmetric four
four_symmetric w p q e =
    let r = eqb (p / w) (q / w) in
    let c = eqb (p % w) (q % w) in
    both (eight_symmetric w p q (left (eight w p q) (r || c) e))
    (⊎_elim (λ y. or_left (eqb (q % w) (p % w)) (eqb_sym (p / w) (q / w) y)) (λ y. or_right (eqb (q / w) (p / w)) (eqb_sym (p % w) (q % w) y)) (either r c (right (eight w p q) (r || c) e)))

-- the neighbours on a sheet are the eight
neighbours_eight : (palette : Palette) (limits : Limits) (s : Sheet) → (rule_for palette limits s).adj ≡ eight s.width
unfolding rule_for rule_on
neighbours_eight palette limits s = refl

pub ruled_both_ways : (palette : Palette) (limits : Limits) (s : Sheet) → Symmetric (rule_for palette limits s).adj
ruled_both_ways palette limits s = subst Symmetric (sym (neighbours_eight palette limits s)) (eight_symmetric s.width)
