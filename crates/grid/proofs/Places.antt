-- Rows, columns and places; where a step leads; and that the first four and all eight steps reach exactly the neighbours. Assumes nothing.
use Prim.Native.Nat.{ℕ, zero, suc, ◌+◌, ◌-◌, ◌*◌, ◌/◌, ◌%◌, ◌≤◌, ◌<◌}
use mathlib.Core.Path.{◌≡◌, refl, sym, ap, ◌∙◌, subst}
use mathlib.Core.Logic.{◌⊎◌, inl, inr, ⊎_elim}
use mathlib.Core.Bool.{Bool, true, false, not, ◌&&◌, ◌||◌, cond}
use mathlib.Core.List.{List, [], ◌∷◌}
use Rattle.std.specs.Prelude.{Option, None, Some}
use native.Mathlib.Nat.{mul-zero, mul-le-mul, not-suc-le-zero, add-mul, mod-lt, mod-eq_of_lt, div-eq_of_lt, mul-add-div_right, mul-add-mod_self_right, div-add-mod', div-lt_iff_lt-mul}
use native.Mathlib.Decide.{ℕ_discrete, dec_lt}
use native.Mathlib.Omega.{arith}
use borrow.Author.Tests.{ltb-true, ltb-false, lt-ltb, le-ltb, eqb-false}
use lib.Dec.{lit<, lit≤, leb, ltb, eqb}
use lib.IntN.{ℤ, pos, negsuc, ◌+ℤ◌}
use lib.ListN.{get_or}
use lib.Signed.{le_z}
use Rattle.base.proofs.Counting.{case, clash, both, left, right, either, or_left, or_right, not_true, not_false, eqb_yes, yes_eqb, leb_yes, yes_leb, neither}
use Rattle.rules.specs.Regions.{Symmetric}
use Rattle.rules.specs.Grid.{close, eight, four, on_edge, on_side, place_of, step_to}
use Rattle.rules.proofs.Grids.{eight_symmetric, four_symmetric}
use Rattle.grid.specs.declared.Neighbourhood.{Neighbourhood}
use Rattle.grid.specs.declared.Neighbourhood.TheVariants.{Four, Eight}
use Rattle.grid.specs.Steps.{steps_of, Single, Inner, neighbours}

-- ---- rows, columns and places

pub wide : (h w p : ℕ) → p < h * w → 0 < w
wide h zero p l = absurd (not-suc-le-zero (subst (λ (n : ℕ). p < n) (mul-zero h) l))
wide h (suc w) p l = omega arith

pub row_in : (h w p : ℕ) → p < h * w → p / w < h
row_in h w p l = (div-lt_iff_lt-mul (wide h w p l)).1 l

pub col_in : (h w p : ℕ) → p < h * w → p % w < w
col_in h w p l = mod-lt p (wide h w p l)

pub row_of : (w y x : ℕ) → x < w → (y * w + x) / w ≡ y
row_of w y x l = let pw : 0 < w = omega arith in omega (arith, mul-add-div_right pw y x, div-eq_of_lt l)

pub col_of : (w y x : ℕ) → x < w → (y * w + x) % w ≡ x
col_of w y x l = mul-add-mod_self_right y w x ∙ mod-eq_of_lt l

pub place_in_lem : (h w y x : ℕ) → y < h → x < w → y * w + x < h * w
place_in_lem h w y x ly lx =
    let pw : 0 < w = omega arith in
    (div-lt_iff_lt-mul pw).0 (subst (λ (n : ℕ). n < h) (sym (row_of w y x lx)) ly)

pub area : (h w : ℕ) → h ≤ 514 → w ≤ 514 → h * w ≤ 264196
area h w a b = mul-le-mul a b

-- ---- where a step leads

pub some_inj : {a b : ℕ} → Some a ≡ Some b → a ≡ b
some_inj e = cc

pub none_some : {a : ℕ} → None ≡ Some a → ⊥
none_some e = let z : ◌≡◌ {A = ℕ} 0 1 = cc in omega arith

-- b is d further than a
abbrev pub Shifted : ℤ → ℕ → ℕ → Type 0
Shifted (pos k) a b = b ≡ a + k
Shifted (negsuc k) a b = a ≡ b + suc k

-- a step along a side finds b exactly if b is on the side and d further
pub side_sound : (len a b : ℕ) (d : ℤ) → on_side len (pos a +ℤ d) ≡ Some b → (b < len) × Shifted d a b
unfolding on_side
side_sound len a b (pos k) e =
    case (ltb (a + k) len)
    (λ y. let q : a + k ≡ b = some_inj (rw y at e) in (omega (arith, ltb-true (a + k) len y), sym q))
    (λ z. absurd (none_some (rw z at e)))
side_sound len a b (negsuc k) e =
    case (ltb a (suc k))
    (λ y. absurd (none_some (rw y at e)))
    (λ z. let s : suc k ≤ a = ltb-false a (suc k) z in
    let e' : cond (ltb (a - suc k) len) (Some (a - suc k)) None ≡ Some b = rw z at e in
    case (ltb (a - suc k) len)
    (λ y. let q : a - suc k ≡ b = some_inj (rw y at e') in (omega (arith, ltb-true (a - suc k) len y), omega arith))
    (λ u. absurd (none_some (rw u at e'))))

pub side_complete : (len a b : ℕ) (d : ℤ) → b < len → Shifted d a b → on_side len (pos a +ℤ d) ≡ Some b
unfolding on_side
side_complete len a b (pos k) l e = rw (← e) (rw (lt-ltb b len l))
side_complete len a b (negsuc k) l e =
    let z : ltb a (suc k) ≡ false = le-ltb a (suc k) (omega arith) in
    let q : a - suc k ≡ b = omega arith in
    rw (z, q, lt-ltb b len l)

-- a row and a column that steps along the sides find make a place
pub both_in : (h w y x : ℕ) (dy dx : ℤ) {row col : ℕ} → h ≤ 514 → w ≤ 514 → on_side h (pos y +ℤ dy) ≡ Some row → on_side w (pos x +ℤ dx) ≡ Some col →
    row * w + col < 264196
both_in h w y x dy dx {row} {col} lh lw r q =
    let i = place_in_lem h w row col (side_sound h y row dy r).0 (side_sound w x col dx q).0 in
    let m = area h w lh lw in
    omega arith

-- a step finds q exactly if q's row and column are on the grid and as much further
pub step_complete : (h w y x b a : ℕ) (dy dx : ℤ) → b < h → a < w → Shifted dy y b → Shifted dx x a → step_to h w y x dy dx ≡ Some (b * w + a)
unfolding step_to place_of
step_complete h w y x b a dy dx lb la sb sa = rw (side_complete h y b dy lb sb, side_complete w x a dx la sa)

pub record Found (h w y x : ℕ) (dy dx : ℤ) (q : ℕ) : Type 0 where
  pub inside : q < h * w
  pub row : Shifted dy y (q / w)
  pub col : Shifted dx x (q % w)

pub step_sound : (h w y x q : ℕ) (dy dx : ℤ) → step_to h w y x dy dx ≡ Some q → Found h w y x dy dx q
unfolding step_to place_of
step_sound h w y x q dy dx e = go (on_side h (pos y +ℤ dy)) (on_side w (pos x +ℤ dx)) refl refl e
  where
    go : (r c : Option ℕ) → on_side h (pos y +ℤ dy) ≡ r → on_side w (pos x +ℤ dx) ≡ c → place_of w r c ≡ Some q → Found h w y x dy dx q
    go (Some b) (Some a) er ec f =
        let sb : (b < h) × Shifted dy y b = side_sound h y b dy er in
        let sa : (a < w) × Shifted dx x a = side_sound w x a dx ec in
        let i : b * w + a ≡ q = some_inj f in
        record {
          inside = subst (λ (n : ℕ). n < h * w) i (place_in_lem h w b a sb.0 sa.0);
          row = subst (Shifted dy y) (sym (row_of w b a sa.0) ∙ ap (λ (n : ℕ). n / w) i) sb.1;
          col = subst (Shifted dx x) (sym (col_of w b a sa.0) ∙ ap (λ (n : ℕ). n % w) i) sa.1;
        }
    go (Some b) None er ec f = absurd (none_some f)
    go None c er ec f = absurd (none_some f)

-- ---- the eight steps

-- their rows and columns; the four orthogonal steps first
abbrev pub offsets : List (List ℤ)
offsets =
    (negsuc 0 ∷ pos 0 ∷ []) ∷ (pos 0 ∷ negsuc 0 ∷ []) ∷ (pos 0 ∷ pos 1 ∷ []) ∷ (pos 1 ∷ pos 0 ∷ []) ∷
    (negsuc 0 ∷ negsuc 0 ∷ []) ∷ (negsuc 0 ∷ pos 1 ∷ []) ∷ (pos 1 ∷ negsuc 0 ∷ []) ∷ (pos 1 ∷ pos 1 ∷ []) ∷ []

-- the rows and the columns of the k-th step
abbrev pub rows_of : ℕ → ℤ
rows_of k = get_or (get_or offsets k []) 0 (pos 0)

abbrev pub cols_of : ℕ → ℤ
cols_of k = get_or (get_or offsets k []) 1 (pos 0)

-- where the k-th step leads from the place p
unfoldable pub hop : ℕ → ℕ → ℕ → ℕ → Option ℕ
hop h w p k = step_to h w (p / w) (p % w) (rows_of k) (cols_of k)

-- what holds of the eight steps holds of each number below 8
pub each_step : (P : ℕ → Type 0) → P 0 → P 1 → P 2 → P 3 → P 4 → P 5 → P 6 → P 7 → (k : ℕ) → k < 8 → P k
each_step P a b c d e f g h zero l = a
each_step P a b c d e f g h (suc zero) l = b
each_step P a b c d e f g h (suc (suc zero)) l = c
each_step P a b c d e f g h (suc (suc (suc zero))) l = d
each_step P a b c d e f g h (suc (suc (suc (suc zero)))) l = e
each_step P a b c d e f g h (suc (suc (suc (suc (suc zero))))) l = f
each_step P a b c d e f g h (suc (suc (suc (suc (suc (suc zero)))))) l = g
each_step P a b c d e f g h (suc (suc (suc (suc (suc (suc (suc zero))))))) l = h
each_step P a b c d e f g h (suc (suc (suc (suc (suc (suc (suc (suc k)))))))) l = absurd (omega arith)

-- one place back, None, or one on
data Way (a b : ℕ) : ℤ → Type 0 where
  back : a ≡ b + 1 → Way a b (negsuc 0)
  stay : a ≡ b → Way a b (pos 0)
  on : b ≡ a + 1 → Way a b (pos 1)

-- two ways, by row and by column
abbrev Ways : ℕ → ℕ → ℕ → ℕ → ℕ → Type 0
Ways y b x a k = Way y b (rows_of k) × Way x a (cols_of k)

none_on : {a b : ℕ} → b ≡ a + 0 → a ≡ b
none_on e = omega arith

ways : (y b x a k : ℕ) → k < 8 → Shifted (rows_of k) y b → Shifted (cols_of k) x a → Ways y b x a k
ways y b x a =
    each_step (λ (k : ℕ). Shifted (rows_of k) y b → Shifted (cols_of k) x a → Ways y b x a k)
    (λ r c. (back r, stay (none_on c))) (λ r c. (stay (none_on r), back c)) (λ r c. (stay (none_on r), on c)) (λ r c. (on r, stay (none_on c)))
    (λ r c. (back r, back c)) (λ r c. (back r, on c)) (λ r c. (on r, back c)) (λ r c. (on r, on c))

-- rows or columns at most one apart, and whether they differ
way-far : {a b : ℕ} {d : ℤ} → Way a b d → (a ≤ b + 1) × (b ≤ a + 1)
way-far (back e) = (omega arith, omega arith)
way-far (stay e) = (omega arith, omega arith)
way-far (on e) = (omega arith, omega arith)

way-close : {a b : ℕ} {d : ℤ} → Way a b d → close 1 a b ≡ true
unfolding close
way-close v = both (yes_leb (way-far v).0) (yes_leb (way-far v).1)

zero_way : {a b : ℕ} {d : ℤ} → Way a b d → a ≡ b → d ≡ pos 0
zero_way (back e) f = absurd (omega arith)
zero_way (stay e) f = refl
zero_way (on e) f = absurd (omega arith)

way_zero : {a b : ℕ} {d : ℤ} → Way a b d → d ≡ pos 0 → a ≡ b
way_zero (back e) f = let z : ◌≡◌ {A = ℕ} 0 1 = cc in absurd (omega arith)
way_zero (stay e) f = e
way_zero (on e) f = let z : ◌≡◌ {A = ℕ} 1 0 = cc in absurd (omega arith)

way_shifted : {a b : ℕ} {d : ℤ} → Way a b d → Shifted d a b
way_shifted (back e) = e
way_shifted (stay e) = omega arith
way_shifted (on e) = e

back_zero : {a : ℕ} → negsuc 0 ≡ pos a → ⊥
back_zero e = let z : ◌≡◌ {A = ℕ} 0 1 = cc in omega arith

on_zero : pos 1 ≡ pos 0 → ⊥
on_zero e = let z : ◌≡◌ {A = ℕ} 1 0 = cc in omega arith

-- every step moves, and the first four keep the row or the column
moves : (k : ℕ) → k < 8 → rows_of k ≡ pos 0 → cols_of k ≡ pos 0 → ⊥
moves =
    each_step (λ (k : ℕ). rows_of k ≡ pos 0 → cols_of k ≡ pos 0 → ⊥)
    (λ r c. back_zero r) (λ r c. back_zero c) (λ r c. on_zero c) (λ r c. on_zero r)
    (λ r c. back_zero r) (λ r c. back_zero r) (λ r c. on_zero r) (λ r c. on_zero r)

straight : (k : ℕ) → k < 8 → k < 4 → (rows_of k ≡ pos 0) ⊎ (cols_of k ≡ pos 0)
straight =
    each_step (λ (k : ℕ). k < 4 → (rows_of k ≡ pos 0) ⊎ (cols_of k ≡ pos 0))
    (λ l. inr refl) (λ l. inl refl) (λ l. inl refl) (λ l. inr refl)
    (λ l. absurd (omega arith)) (λ l. absurd (omega arith)) (λ l. absurd (omega arith)) (λ l. absurd (omega arith))

-- a step of at most two rows and columns
pub record Near (dy dx : ℤ) : Type 0 where
  pub up : le_z (negsuc 1) dy ≡ true
  pub down : le_z dy (pos 2) ≡ true
  pub left : le_z (negsuc 1) dx ≡ true
  pub right : le_z dx (pos 2) ≡ true

-- no step goes further than one row or column
pub offset_single : (k : ℕ) → k < 8 → Single (rows_of k) × Single (cols_of k)
offset_single =
    each_step (λ (k : ℕ). Single (rows_of k) × Single (cols_of k))
    (Single.back, Single.stay) (Single.stay, Single.back) (Single.stay, Single.on) (Single.on, Single.stay)
    (Single.back, Single.back) (Single.back, Single.on) (Single.on, Single.back) (Single.on, Single.on)

pub single-near : {dy dx : ℤ} → Single dy → Single dx → Near dy dx
single-near y x = record { up = low y; down = high y; left = low x; right = high x }
  where
    low : {d : ℤ} → Single d → le_z (negsuc 1) d ≡ true
    low Single.back = refl
    low Single.stay = refl
    low Single.on = refl

    high : {d : ℤ} → Single d → le_z d (pos 2) ≡ true
    high Single.back = refl
    high Single.stay = refl
    high Single.on = refl

module _ (h w p : ℕ) where
  hop-found : (k q : ℕ) → hop h w p k ≡ Some q → Found h w (p / w) (p % w) (rows_of k) (cols_of k) q
  unfolding hop
  hop-found k q e = step_sound h w (p / w) (p % w) q (rows_of k) (cols_of k) e

  hop_ways : (k q : ℕ) → k < 8 → hop h w p k ≡ Some q → Ways (p / w) (q / w) (p % w) (q % w) k
  hop_ways k q l e = let f = hop-found k q e in ways (p / w) (q / w) (p % w) (q % w) k l f.row f.col

  pub hop_in : (k q : ℕ) → hop h w p k ≡ Some q → q < h * w
  hop_in k q e = (hop-found k q e).inside

  pub hop-eight : (k q : ℕ) → k < 8 → hop h w p k ≡ Some q → eight w p q ≡ true
  unfolding eight
  hop-eight k q l e =
      let v = hop_ways k q l e in
      both (both (way-close v.0) (way-close v.1))
      (not_false (case (eqb p q)
      (λ y. let z : p ≡ q = eqb_yes y in
      absurd (moves k l (zero_way v.0 (ap (λ (n : ℕ). n / w) z)) (zero_way v.1 (ap (λ (n : ℕ). n % w) z)))) (λ u. u)))

  pub hop-four : (k q : ℕ) → k < 4 → hop h w p k ≡ Some q → four w p q ≡ true
  unfolding four
  hop-four k q l e =
      let l' : k < 8 = omega arith in
      let v = hop_ways k q l' e in
      both (hop-eight k q l' e)
      (⊎_elim (λ z. or_left (eqb (p % w) (q % w)) (yes_eqb (way_zero v.0 z))) (λ z. or_right (eqb (p / w) (q / w)) (yes_eqb (way_zero v.1 z))) (straight k l' l))

  -- ---- and each neighbour is found by a step

  hop-is : (k q : ℕ) → q < h * w → Ways (p / w) (q / w) (p % w) (q % w) k → hop h w p k ≡ Some q
  unfolding hop
  hop-is k q l v =
      step_complete h w (p / w) (p % w) (q / w) (q % w) (rows_of k) (cols_of k) (row_in h w q l) (col_in h w q l) (way_shifted v.0) (way_shifted v.1)
      ∙ ap Some (div-add-mod' q w)

-- a way for numbers that are at most one apart
some_way : (a b : ℕ) → close 1 a b ≡ true → (d : ℤ) × Way a b d
unfolding close
some_way a b e =
    let lo : a ≤ b + 1 = leb_yes (left (leb a (b + 1)) (leb b (a + 1)) e) in
    let hi : b ≤ a + 1 = leb_yes (right (leb a (b + 1)) (leb b (a + 1)) e) in
    elim (ℕ_discrete a b) [
      | yes q ↦ (pos 0, stay q)
      | no n ↦ elim (dec_lt a b) [ yes l ↦ (pos 1, on (omega arith)) | no m ↦ (negsuc 0, back (omega arith)) ]
    ]

-- the step that goes two ways: its number, which is below 4 if a row or column is kept
record Chosen (y b x a : ℕ) : Type 0 where
  pub k : ℕ
  pub below : k < 8
  pub go : Ways y b x a k
  pub keeps : (y ≡ b) ⊎ (x ≡ a) → k < 4

both_move : {A : Type 0} {a b c d : ℕ} → (a ≡ b → ⊥) → (c ≡ d → ⊥) → (a ≡ b) ⊎ (c ≡ d) → A
both_move f g s = absurd (⊎_elim f g s)

chosen : {y b x a : ℕ} {d e : ℤ} → Way y b d → Way x a e → ((y ≡ b) → (x ≡ a) → ⊥) → Chosen y b x a
chosen (back r) (stay c) n = record { k = 0; below = lit< tt; go = (back r, stay c); keeps = λ s. lit< tt }
chosen (stay r) (back c) n = record { k = 1; below = lit< tt; go = (stay r, back c); keeps = λ s. lit< tt }
chosen (stay r) (on c) n = record { k = 2; below = lit< tt; go = (stay r, on c); keeps = λ s. lit< tt }
chosen (on r) (stay c) n = record { k = 3; below = lit< tt; go = (on r, stay c); keeps = λ s. lit< tt }
chosen (back r) (back c) n = record { k = 4; below = lit< tt; go = (back r, back c); keeps = both_move (λ z. omega arith) (λ z. omega arith) }
chosen (back r) (on c) n = record { k = 5; below = lit< tt; go = (back r, on c); keeps = both_move (λ z. omega arith) (λ z. omega arith) }
chosen (on r) (back c) n = record { k = 6; below = lit< tt; go = (on r, back c); keeps = both_move (λ z. omega arith) (λ z. omega arith) }
chosen (on r) (on c) n = record { k = 7; below = lit< tt; go = (on r, on c); keeps = both_move (λ z. omega arith) (λ z. omega arith) }
chosen (stay r) (stay c) n = absurd (n r c)

eight_chosen : (w p q : ℕ) → eight w p q ≡ true → Chosen (p / w) (q / w) (p % w) (q % w)
unfolding eight
eight_chosen w p q e =
    let r = close 1 (p / w) (q / w) in
    let c = close 1 (p % w) (q % w) in
    let d = not (eqb p q) in
    chosen (some_way (p / w) (q / w) (left r c (left (r && c) d e))).1 (some_way (p % w) (q % w) (right r c (left (r && c) d e))).1
    (λ y x. clash (yes_eqb (sym (div-add-mod' p w) ∙ rw (y, x) (div-add-mod' q w))) (not_true (right (r && c) d e)))

-- a neighbour below in another column
pub record Aside (w p q : ℕ) : Type 0 where
  pub is : (q + 1 ≡ p + w) ⊎ (q ≡ p + w + 1)
  pub row : p / w ≡ q / w → ⊥
  pub col : p % w ≡ q % w → ⊥

-- a neighbour after p is the next place or one of three below
pub data After (w p q : ℕ) : Type 0 where
  next : q ≡ p + 1 → After w p q
  below : q ≡ p + w → After w p q
  aside : Aside w p q → After w p q

-- one row further down
row_below : (w p q : ℕ) → q / w ≡ p / w + 1 → q + p % w ≡ p + w + q % w
row_below w p q e = omega (arith, div-add-mod' p w, div-add-mod' q w, add-mul (p / w) 1 w, ap (λ (y : ℕ). y * w) e)

ways_after : (w p q : ℕ) {d e : ℤ} → 0 < w → p < q → Way (p / w) (q / w) d → Way (p % w) (q % w) e → After w p q
ways_after w p q pw l (back r) v = absurd (omega (arith, row_below w q p r, mod-lt q pw))
ways_after w p q pw l (stay r) v = next (omega (arith, div-add-mod' p w, div-add-mod' q w, ap (λ (y : ℕ). y * w) r, (way-far v).1))
ways_after w p q pw l (on r) (back c) = aside (record { is = inl (omega (arith, row_below w p q r)); row = λ z. omega arith; col = λ z. omega arith })
ways_after w p q pw l (on r) (stay c) = below (omega (arith, row_below w p q r))
ways_after w p q pw l (on r) (on c) = aside (record { is = inr (omega (arith, row_below w p q r)); row = λ z. omega arith; col = λ z. omega arith })

pub eight-after : (w p q : ℕ) → 0 < w → p < q → eight w p q ≡ true → After w p q
eight-after w p q pw l e = let c = eight_chosen w p q e in ways_after w p q pw l c.go.0 c.go.1

pub four-after : (w p q : ℕ) → 0 < w → p < q → four w p q ≡ true → (q ≡ p + 1) ⊎ (q ≡ p + w)
unfolding four
four-after w p q pw l e =
    let s = eqb (p / w) (q / w) || eqb (p % w) (q % w) in
    go (eight-after w p q pw l (left (eight w p q) s e)) (either (eqb (p / w) (q / w)) (eqb (p % w) (q % w)) (right (eight w p q) s e))
  where
    go : After w p q → (eqb (p / w) (q / w) ≡ true) ⊎ (eqb (p % w) (q % w) ≡ true) → (q ≡ p + 1) ⊎ (q ≡ p + w)
    go (next f) s = inl f
    go (below f) s = inr f
    go (aside a) s = absurd (⊎_elim (λ y. a.row (eqb_yes y)) (λ y. a.col (eqb_yes y)) s)

pub eight-hop : (h w p q : ℕ) → q < h * w → eight w p q ≡ true → (k : ℕ) × (k < 8) × (hop h w p k ≡ Some q)
eight-hop h w p q l e = let c = eight_chosen w p q e in (c.k, c.below, hop-is h w p c.k q l c.go)

pub four-hop : (h w p q : ℕ) → q < h * w → four w p q ≡ true → (k : ℕ) × (k < 4) × (hop h w p k ≡ Some q)
unfolding four
four-hop h w p q l e =
    let r = eqb (p / w) (q / w) in
    let c = eqb (p % w) (q % w) in
    let f = eight_chosen w p q (left (eight w p q) (r || c) e) in
    (f.k, f.keeps (⊎_elim (λ y. inl (eqb_yes y)) (λ y. inr (eqb_yes y)) (either r c (right (eight w p q) (r || c) e))), hop-is h w p f.k q l f.go)

-- ---- the same for both neighbourhoods

pub steps_most : (near : Neighbourhood) → steps_of near ≤ 8
unfolding steps_of
steps_most Four = lit≤ tt
steps_most Eight = lit≤ tt

pub step_few : (near : Neighbourhood) (k : ℕ) → k < steps_of near → k < 8
step_few near k l = omega (arith, steps_most near)

pub neighbours-four : (w : ℕ) → neighbours Four w ≡ four w
unfolding neighbours
neighbours-four w = refl

pub neighbours-eight : (w : ℕ) → neighbours Eight w ≡ eight w
unfolding neighbours
neighbours-eight w = refl

pub neighbours_symmetric : (near : Neighbourhood) (w : ℕ) → Symmetric (neighbours near w)
unfolding neighbours
neighbours_symmetric Four w = four_symmetric w
neighbours_symmetric Eight w = eight_symmetric w

pub neighbours-sound : (near : Neighbourhood) (h w p k q : ℕ) → k < steps_of near → hop h w p k ≡ Some q → neighbours near w p q ≡ true
unfolding neighbours steps_of
neighbours-sound Four h w p k q l e = hop-four h w p k q l e
neighbours-sound Eight h w p k q l e = hop-eight h w p k q l e

pub neighbours_complete : (near : Neighbourhood) (h w p q : ℕ) → q < h * w → neighbours near w p q ≡ true → (k : ℕ) × (k < steps_of near) × (hop h w p k ≡ Some q)
unfolding neighbours steps_of
neighbours_complete Four h w p q l e = four-hop h w p q l e
neighbours_complete Eight h w p q l e = eight-hop h w p q l e

-- ---- a step from within the border

-- r is one more than a single step
pub record Past (d : ℤ) (r : ℕ) : Type 0 where
  pub few : r ≤ 2
  pub shifted : (a b : ℕ) → b + 1 ≡ a + r → Shifted d a b

pub past_is : {d : ℤ} {r : ℕ} → Single d → pos r ≡ d +ℤ pos 1 → Past d r
past_is {r = r} Single.back e = let z : r ≡ 0 = cc in record { few = omega arith; shifted = λ a b f. omega arith }
past_is {r = r} Single.stay e = let z : r ≡ 1 = cc in record { few = omega arith; shifted = λ a b f. omega arith }
past_is {r = r} Single.on e = let z : r ≡ 2 = cc in record { few = omega arith; shifted = λ a b f. omega arith }

-- a place that is not on the border
pub off_border : (h w p : ℕ) → p < h * w → {b : Bool} → b ≡ on_edge h w p → b ≡ false → Inner h w p
unfolding on_edge
off_border h w p l e z =
    let c = neither (eqb (p / w) 0 || eqb (p / w + 1) h || eqb (p % w) 0) (eqb (p % w + 1) w) (sym e ∙ z) in
    let b = neither (eqb (p / w) 0 || eqb (p / w + 1) h) (eqb (p % w) 0) c.0 in
    let a = neither (eqb (p / w) 0) (eqb (p / w + 1) h) b.0 in
    record {
      above = omega (arith, eqb-false (p / w) 0 a.0);
      below = omega (arith, row_in h w p l, eqb-false (p / w + 1) h a.1);
      before = omega (arith, eqb-false (p % w) 0 b.1);
      after = omega (arith, col_in h w p l, eqb-false (p % w + 1) w c.1);
    }

module _ {h w p rows cols : ℕ} {dy dx : ℤ} (i : Inner h w p) (u : Past dy rows) (v : Past dx cols) where
  -- the row and the column that the step finds
  abbrev row : ℕ
  row = p / w + rows - 1

  abbrev col : ℕ
  col = p % w + cols - 1

  inner_place : p + rows * w + cols ≡ row * w + col + (w + 1)
  inner_place =
      let e : row + 1 ≡ p / w + rows = omega (arith, i.above) in
      omega (arith, i.before, div-add-mod' p w, add-mul (p / w) rows w, add-mul row 1 w, ap (λ (b : ℕ). b * w) e)

  pub inner_step : step_to h w (p / w) (p % w) dy dx ≡ Some (p + rows * w + cols - (w + 1))
  inner_step =
      step_complete h w (p / w) (p % w) row col dy dx (omega (arith, i.below, u.few)) (omega (arith, i.after, v.few))
      (u.shifted (p / w) row (omega (arith, i.above))) (v.shifted (p % w) col (omega (arith, i.before)))
      ∙ ap Some (omega (arith, inner_place))
