-- What tells whether a value is out of range, and what it tells that no row refuses. Assumes nothing.
use Rattle.std.proofs.Common.{◌≡◌, ℕ, ◌*◌, ◌≤◌, ◌<◌, Bool, true, false, not, ◌||◌, List, length, get_or, None, sym, ap, arith}
use Rattle.std.specs.Bool.{MatchBool}
use Rattle.std.specs.List.{AllWithin, HoldsAt}
use lib.Ieee.{Float, nan}
use borrow.Author.Tests.{ltb-false, eqb-true, not-false}
use Rattle.base.specs.Places.{any}
use Rattle.base.specs.Refusals.{refusal}
use Rattle.base.proofs.Counting.{case, clash, not_true, neither, any_yes, yes_any}
use Rattle.base.proofs.Refusing.{rows_none}
use Rattle.color.specs.Lab.{within}
use Rattle.color_lists.specs.Entries.{colours, ragged, crowded, strays, rgb8_to_lab_rows, lab_to_rgb8_rows, delta_e_rows, matrix_rows, nearest_rows}

-- ---- a value out of range, or all in range

pub strays_told : (l : List Float) (r : Bool) → MatchBool r (AllWithin (λ x. within x ≡ true) l 0 (length l)) ((k : ℕ) × (k < length l) × HoldsAt (λ x. within x ≡ false) l k) → not r ≡ strays l
unfolding strays
strays_told l true h =
    let t : ℕ → Bool = λ i. not (within (get_or l i nan)) in
    sym (case (any (length l) t) (λ y. let a = any_yes (length l) t y in clash (h a.0 nan (omega arith) a.1) (not_true a.2)) (λ z. z))
strays_told l false h = sym (yes_any (length l) _ h.0 h.1 (ap not (h.2 nan)))

-- ---- what each entry may rely on once nothing is refused

pub rgb8_to-lab_room : (rgb8 : List ℕ) (room : ℕ) → refusal (rgb8_to_lab_rows rgb8 room) ≡ None → 3 * colours rgb8 ≤ room
unfolding rgb8_to_lab_rows
rgb8_to-lab_room rgb8 room e = ltb-false room (3 * colours rgb8) (rows_none _ _ e).0

pub lab-to_rgb8_room : (lab : List Float) (room : ℕ) → refusal (lab_to_rgb8_rows lab room) ≡ None → 3 * colours lab ≤ room
unfolding lab_to_rgb8_rows
lab-to_rgb8_room lab room e = ltb-false room (3 * colours lab) (rows_none _ _ e).0

pub delta_e_room : (a b : List Float) (room : ℕ) → refusal (delta_e_rows a b room) ≡ None → (length a ≡ length b) × (colours a ≤ room)
unfolding delta_e_rows
delta_e_room a b room e =
    let p = rows_none _ _ e in
    let q = rows_none _ _ p.1 in
    (eqb-true (length a) (length b) (not-false _ (neither (ragged a || ragged b) _ q.0).1), ltb-false room (colours a) p.0)

pub matrix_room : (palette : List Float) (room : ℕ) → refusal (matrix_rows palette room) ≡ None →
    (colours palette ≤ 256) × (colours palette * colours palette ≤ room)
unfolding matrix_rows crowded
matrix_room palette room e =
    let p = rows_none _ _ e in
    let q = rows_none _ _ p.1 in
    (ltb-false 256 (colours palette) (neither (ragged palette) _ q.0).1, ltb-false room (colours palette * colours palette) p.0)

pub nearest_room : (pixels palette : List Float) (room : ℕ) → refusal (nearest_rows pixels palette room) ≡ None →
    (colours palette ≤ 256) × (colours pixels ≤ room)
unfolding nearest_rows crowded
nearest_room pixels palette room e =
    let p = rows_none _ _ e in
    let q = rows_none _ _ p.1 in
    (ltb-false 256 (colours palette) (neither (ragged pixels || ragged palette) _ q.0).1, ltb-false room (colours pixels) p.0)
