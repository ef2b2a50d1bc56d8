-- What entries may rely on once their rows refuse nothing: rows 1 to 3, also with two lent lists, and rows 4 to 6. Assumes nothing.
use Prim.Native.Nat.{ℕ, ◌+◌, ◌*◌, ◌≤◌, min}
use mathlib.Core.Path.{◌≡◌, ap, ◌∙◌}
use mathlib.Core.Logic.{⊎_elim}
use mathlib.Core.Bool.{Bool, true, false, not, ◌||◌}
use mathlib.Core.List.{List, [], ◌∷◌, ◌++◌}
use Rattle.std.specs.Prelude.{Option, None, Result}
use native.Mathlib.Nat.{mul-le-mul, min-le_left, min-le_right}
use native.Mathlib.Omega.{arith}
use borrow.Author.Tests.{ltb-true, ltb-false, lt-ltb, eqb-true, not-false}
use lib.Dec.{ltb, eqb}
use lib.ListN.{length}
use Rattle.base.specs.declared.Refusal.TheVariants.{ListTooShort, SettingOutOfRange}
use Rattle.base.specs.declared.Refusal.{Refusal}
use Rattle.base.specs.Refusals.{Row, row, refusal, answered}
use Rattle.base.proofs.Counting.{same_test, either, neither, or_left, or_right, min-is}
use Rattle.base.proofs.Refusing.{rows_none, rows_same, rows_either}
use Rattle.rules.specs.Palette.{Palette}
use Rattle.rules.specs.Sheet.{needed}
use Rattle.rules.specs.Masks.{grid_refusal}
use Rattle.rules.specs.Rows.{too_large, too_short, cramped, bad_palette, bad_colour, bad_setting, sheet_rows, palette_rows}
use Rattle.refusals.specs.Room.{SheetFits, Usable}

-- ---- rows 1 to 3

pub not_large : (h w : ℕ) → (too_large h w).applies ≡ false → (h ≤ 512) × (w ≤ 512)
unfolding too_large
not_large h w e = let k = neither (ltb 512 h) (ltb 512 w) e in (ltb-false 512 h k.0, ltb-false 512 w k.1)

pub few-cells : (h w : ℕ) → (too_large h w).applies ≡ false → h * w ≤ 262144
few-cells h w e = let k = not_large h w e in mul-le-mul k.0 k.1

-- the needed cells, padded or not
pub few-needed : (h w : ℕ) (b : Bool) → (too_large h w).applies ≡ false → needed h w b ≤ 264196
unfolding needed
few-needed h w true e =
    let k = not_large h w e in
    let high : h + 2 ≤ 514 = omega (arith, k.0) in
    let wide : w + 2 ≤ 514 = omega (arith, k.1) in
    mul-le-mul high wide
few-needed h w false e = omega (arith, few-cells h w e)

pub sheet_room : {h w need lent work : ℕ} (more : List Row) → refusal (sheet_rows h w need lent work ++ more) ≡ None → SheetFits h w need lent work × (refusal more ≡ None)
unfolding too_short cramped
sheet_room {h} {w} {need} {lent} {work} more e =
    let one = rows_none (too_large h w) _ e in
    let two = rows_none (too_short lent need) _ one.1 in
    let three = rows_none (cramped work need) more two.1 in
    let sides = not_large h w one.0 in (
      record { high = sides.0; wide = sides.1; few = few-cells h w one.0; long = ltb-false lent need two.0; free = ltb-false work (8 * need) three.0 },
      three.1,
    )

-- ---- an entry with two lent lists

-- one of two lists is too short if the shorter one is
short_either : (a b n : ℕ) → ltb (min a b) n ≡ (ltb a n || ltb b n)
short_either a b n =
    same_test
    (λ y. let l = ltb-true (min a b) n y in ⊎_elim (λ e. or_left (ltb b n) (lt-ltb a n (omega (arith, l, e)))) (λ e. or_right (ltb a n) (lt-ltb b n (omega (arith, l, e)))) (min-is a b))
    (λ y. lt-ltb (min a b) n (⊎_elim (λ l. omega (arith, ltb-true a n l, min-le_left a b)) (λ l. omega (arith, ltb-true b n l, min-le_right a b)) (either (ltb a n) (ltb b n) y)))

pub shorter_list : (h w lent out work : ℕ) → refusal (sheet_rows h w (h * w) (min lent out) work) ≡ grid_refusal h w lent out work []
unfolding grid_refusal too_short
shorter_list h w lent out work =
    rows_same (too_large h w ∷ []) (too_short (min lent out) (h * w) ∷ cramped work (h * w) ∷ []) (too_short lent (h * w) ∷ too_short out (h * w) ∷ cramped work (h * w) ∷ [])
    (rw (short_either lent out (h * w)) (rows_either ListTooShort (ltb lent (h * w)) (ltb out (h * w)) (cramped work (h * w) ∷ [])))

-- the answer by the shorter of two lists is that by both
pub by_shorter : (h w lent out work short : ℕ) (r : Result (Unit {0}) Refusal) → r ≡ answered (refusal (sheet_rows h w (h * w) short work)) tt → short ≡ min lent out → r ≡ answered (grid_refusal h w lent out work []) tt
by_shorter h w lent out work short r e s =
    e ∙ ap (λ (n : ℕ). answered (refusal (sheet_rows h w (h * w) n work)) tt) s ∙ ap (λ (o : Option Refusal). answered o tt) (shorter_list h w lent out work)

pub grid_room : {h w lent out work : ℕ} → grid_refusal h w lent out work [] ≡ None → SheetFits h w (h * w) lent work × (h * w ≤ out)
grid_room {h} {w} {lent} {out} {work} e =
    let r = (sheet_room {lent = min lent out} [] (shorter_list h w lent out work ∙ e)).0 in (
      record { high = r.high; wide = r.wide; few = r.few; long = omega (arith, r.long, min-le_left lent out); free = r.free },
      omega (arith, r.long, min-le_right lent out),
    )

-- ---- rows 4 to 6

pub good_palette : (palette : Palette) → (bad_palette palette).applies ≡ false → (palette.count ≤ 256) × (length palette.lab ≡ 768)
unfolding bad_palette
good_palette palette e =
    let k = neither (ltb 256 palette.count) (not (eqb (length palette.lab) 768)) e in
    (ltb-false 256 palette.count k.0, eqb-true (length palette.lab) 768 (not-false _ k.1))

pub palette_room : {palette : Palette} {bad : Bool} (more : List Row) → refusal (palette_rows palette bad ++ more) ≡ None → Usable palette bad × (refusal more ≡ None)
unfolding bad_colour bad_setting
palette_room {palette} {bad} more e =
    let four = rows_none (bad_palette palette) _ e in
    let five = rows_none (bad_colour palette) _ four.1 in
    let six = rows_none (bad_setting bad) more five.1 in
    let good = good_palette palette four.0 in (
      record { few = good.0; whole = good.1; ranged = five.0; settled = six.0 },
      six.1,
    )

-- row 6 of two conditions is row 6 of the first and then of the second
pub setting_in_two : (palette : Palette) (a b : Bool) → refusal (palette_rows palette (a || b)) ≡ refusal (palette_rows palette a ++ row SettingOutOfRange b ∷ [])
unfolding bad_setting
setting_in_two palette a b =
    rows_same (bad_palette palette ∷ bad_colour palette ∷ []) (row SettingOutOfRange (a || b) ∷ []) (row SettingOutOfRange a ∷ row SettingOutOfRange b ∷ []) (rows_either SettingOutOfRange a b [])
