-- Scans of the entries of a palette: for the least value, and for the first entry that passes a test. Assumes nothing.
use Prim.Native.Nat.{ℕ, zero, suc, ◌+◌, ◌-◌, ◌≤◌, ◌<◌}
use mathlib.Core.Path.{◌≡◌, refl, sym, ap, ◌∙◌, subst}
use mathlib.Core.Bool.{Bool, true, false, cond}
use mathlib.Core.List.{List, [], ◌∷◌, ◌++◌}
use Rattle.std.specs.Prelude.{Option, None, Some}
use native.Mathlib.Nat.{lt_of_lt_of_le, le_step, lt-suc_self, add-zero, zero-add, suc-add}
use Rattle.std.specs.List.{range_with_len, fold}
use Rattle.std.specs.Option.{MatchOption}
use Rattle.std.proofs.lemmas.List.Sums.{fold_push}
use native.Mathlib.Omega.{arith}
use lib.Dec.{lit<}
use lib.Ieee.{Float, lt}
use Rattle.base.proofs.Counting.{case}
use Rattle.color.specs.declared.Lab.{Lab}
use Rattle.color.specs.declared.Rgb8.{Rgb8}
use Rattle.color.specs.declared.least.Least.{Least}
use Rattle.color.specs.Lab.{distance, lab_to_rgb8}
use Rattle.color.specs.Least.{lowered}
use Rattle.rules.specs.Palette.{Palette, palette_of, colour, first_least, first_where}
use Rattle.rules.specs.Outline.{darkest, nearest_entry, same_rgb8}
use Rattle.rules.proofs.Least.{least_some}
use Rattle.outline_entry.specs.Line.{placed}

-- a place with its value
abbrev pub met : (ℕ → Float) → ℕ → Least
met v i = record { at = i; value = v i }

unfoldable pub held : (ℕ → Float) → Option ℕ → Option Least
held v None = None
held v (Some b) = Some (met v b)

step : (v : ℕ → Float) (i b : ℕ) (l : Bool) → Some (cond l (met v i) (met v b)) ≡ held v (Some (cond l i b))
unfolding held
step v i b true = refl
step v i b false = refl

one_more : (v : ℕ → Float) (i : ℕ) (o : Option ℕ) → Some (lowered (held v o) (met v i)) ≡ held v (elim o [ None ↦ Some i | Some b ↦ Some (cond (lt (v i) (v b)) i b) ])
unfolding lowered held
one_more v i None = refl
one_more v i (Some b) = step v i b (lt (v i) (v b))

-- any entry may be chosen; the L of an entry; its distance from a colour
abbrev pub all : ℕ → Bool
all i = true

abbrev pub light : List Float → ℕ → ℕ → Float
light l k i = (colour (palette_of l k) i).l

abbrev pub far : List Float → ℕ → Lab → ℕ → Float
far l k c i = distance (colour (palette_of l k) i) c

-- one more place of a range
range_push : (a n : ℕ) → range_with_len a (suc n) ≡ range_with_len a n ++ (a + n) ∷ []
range_push a zero = ap (λ (x : ℕ). x ∷ []) (sym (add-zero a))
range_push a (suc n) = ap (λ (l : List ℕ). a ∷ l) (range_push (a + 1) n ∙ ap (λ (x : ℕ). range_with_len (a + 1) n ++ x ∷ []) (omega arith))

-- a fold over the entries below k that keeps the least
pub scanned : (v : ℕ → Float) (k : ℕ) → fold (λ (best : Option Least) (i : ℕ). Some (lowered best (met v i))) None (range_with_len 0 k) ≡ held v (first_least all v k)
unfolding held first_least
scanned v zero = refl
scanned v (suc k) =
    let next : Option Least → ℕ → Option Least = (λ best i. Some (lowered best (met v i))) in
    ap (fold next None) (range_push 0 k)
    ∙ fold_push next None (range_with_len 0 k) (0 + k)
    ∙ ap (next (fold next None (range_with_len 0 k))) (zero-add k)
    ∙ ap (λ (o : Option Least). next o k) (scanned v k)
    ∙ one_more v k (first_least all v k)

-- the entry that a scan ends with, 0 where there is none
pub placed-held : (v : ℕ → Float) (o : Option ℕ) → placed (held v o) ≡ elim o [ None ↦ 0 | Some i ↦ i ]
unfolding placed held
placed-held v None = refl
placed-held v (Some i) = refl

pub chosen_below : (o : Option ℕ) (k : ℕ) → 0 < k → ((b : ℕ) → o ≡ Some b → b < k) → elim o [ None ↦ 0 | Some i ↦ i ] < k
chosen_below None k h f = h
chosen_below (Some b) k h f = f b refl

pub darkest-below : (palette : Palette) → palette.count ≤ 256 → darkest palette < 256
unfolding darkest
darkest-below palette h = chosen_below (first_least _ _ palette.count) 256 (lit< tt) (λ b e. lt_of_lt_of_le (least_some _ _ palette.count b e).0 h)

pub nearest-below : (may : ℕ → Bool) (palette : Palette) (c : Lab) → palette.count ≤ 256 → nearest_entry may palette c < 256
unfolding nearest_entry
nearest-below may palette c h = chosen_below (first_least may _ palette.count) 256 (lit< tt) (λ b e. lt_of_lt_of_le (least_some may _ palette.count b e).0 h)

-- ---- the first that passes

-- an entry has an RGB8
abbrev pub same : List Float → ℕ → Rgb8 → ℕ → Bool
same l k rgb i = same_rgb8 (lab_to_rgb8 (colour (palette_of l k) i)) rgb

module _ (t : ℕ → Bool) where
  where_none : first_where t 0 ≡ None
  unfolding first_where
  where_none = refl

  next : (i : ℕ) (o : Option ℕ) → first_where t i ≡ o → first_where t (suc i) ≡ elim o [ None ↦ cond (t i) (Some i) None | Some b ↦ Some b ]
  unfolding first_where
  next i o e = ap (λ (r : Option ℕ). elim r [ None ↦ cond (t i) (Some i) None | Some b ↦ Some b ]) e

  stays : (b j d : ℕ) → first_where t j ≡ Some b → first_where t (d + j) ≡ Some b
  stays b j zero e = rw zero-add e
  stays b j (suc d) e = rw suc-add (next (d + j) (Some b) (stays b j d e))

  pub where_hit : (i k : ℕ) → i < k → first_where t i ≡ None → t i ≡ true → first_where t k ≡ Some i
  where_hit i k h e y =
      let a : first_where t (suc i) ≡ Some i = next i None e ∙ ap (λ (b : Bool). cond b (Some i) None) y in
      let q : k - suc i + suc i ≡ k = omega arith in
      subst (λ (n : ℕ). first_where t n ≡ Some i) q (stays i (suc i) (k - suc i) a)

  -- no entry below k passes
  none_below : (k : ℕ) → ((j : ℕ) → j < k → t j ≡ false) → first_where t k ≡ None
  none_below zero f = where_none
  none_below (suc k) f = next k None (none_below k (λ j h. f j (le_step h))) ∙ ap (λ (b : Bool). cond b (Some k) None) (f k (lt-suc_self k))

  -- what a search from the front finds is the first
  pub found : (k : ℕ) (o : Option ℕ) → MatchOption o ((j : ℕ) → 0 ≤ j → j < k → t j ≡ false) (λ i. (0 ≤ i) × (i < k) × (t i ≡ true) × ((j : ℕ) → 0 ≤ j → j < i → t j ≡ false)) → o ≡ first_where t k
  found k None f = sym (none_below k (λ j h. f j (omega arith) h))
  found k (Some i) w = sym (where_hit i k w.1 (none_below i (λ j h. w.3 j (omega arith) h)) w.2)

  pub where_below : (k b : ℕ) → first_where t k ≡ Some b → b < k
  unfolding first_where
  where_below zero b e = let z : ◌≡◌ {A = ℕ} 0 1 = cc in absurd (omega arith)
  where_below (suc i) b e = pick (first_where t i) (λ c. where_below i c) e
    where
      pick : (o : Option ℕ) → ((c : ℕ) → o ≡ Some c → c < i) → elim o [ None ↦ cond (t i) (Some i) None | Some c ↦ Some c ] ≡ Some b → b < suc i
      pick None f q =
          case (t i) (λ y. let j : i ≡ b = got (rw y at q) in omega arith) (λ z. absurd (lost (rw z at q)))
        where
          got : {m : ℕ} → Some m ≡ Some b → m ≡ b
          got r = cc

          lost : None ≡ Some b → ⊥
          lost r = let z : ◌≡◌ {A = ℕ} 0 1 = cc in omega arith
      pick (Some c) f q = let j : c ≡ b = cc in omega (arith, f c refl)
