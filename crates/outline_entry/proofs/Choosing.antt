-- The ways in which the outline's colour gets an entry. Assumes nothing.
use Prim.Native.Nat.{ℕ, ◌+◌, ◌≤◌, ◌<◌}
use mathlib.Core.Path.{◌≡◌, refl, ap, ◌∙◌}
use mathlib.Core.Bool.{Bool, true, false, cond}
use mathlib.Core.List.{List}
use Rattle.std.specs.Prelude.{Option, None, Some}
use native.Mathlib.Nat.{lt_of_lt_of_le}
use borrow.Author.Tests.{lt-ltb, le-ltb, ltb-true}
use lib.Dec.{ltb}
use lib.Ieee.{Float}
use Rattle.color.specs.declared.Lab.{Lab}
use Rattle.color.specs.Lab.{lab_to_rgb8}
use Rattle.rules.specs.Palette.{Palette, colour, recoloured, first_where}
use Rattle.rules.specs.Outline.{nearest_entry, same_rgb8, reuse, append, replace, choice, chosen_index, chosen_palette}
use Rattle.outline_entry.specs.Line.{Chose}
use Rattle.outline_entry.proofs.Scans.{nearest-below, where_below}

module _ (palette : Palette) (c : Lab) where
  abbrev same : ℕ → Bool
  same i = same_rgb8 (lab_to_rgb8 (colour palette i)) (lab_to_rgb8 c)

  by_first : (o : Option ℕ) → first_where same palette.count ≡ o
      → choice (λ i. true) false palette c ≡ elim o [ Some i ↦ reuse i | None ↦ cond (ltb palette.count 256) append (replace (nearest_entry (λ i. true) palette c)) ]
  unfolding choice
  by_first o e = ap (λ (r : Option ℕ). elim r [ Some i ↦ reuse i | None ↦ cond (ltb palette.count 256) append (replace (nearest_entry (λ i. true) palette c)) ]) e

  pub chose_fixed : (i : ℕ) → i ≡ nearest_entry (λ i. true) palette c → Chose palette c (choice (λ i. true) true palette c) i palette.count palette.lab
  unfolding choice chosen_index chosen_palette
  chose_fixed i e = record { at = e; colours = refl; doubles = refl }

  pub chose_same : (i : ℕ) → first_where same palette.count ≡ Some i → Chose palette c (choice (λ i. true) false palette c) i palette.count palette.lab
  unfolding chosen_index chosen_palette
  chose_same i e = rw (by_first (Some i) e) (record { at = refl; colours = refl; doubles = refl })

  module _ (e : first_where same palette.count ≡ None) where
    at_last : {b : Bool} → ltb palette.count 256 ≡ b → choice (λ i. true) false palette c ≡ cond b append (replace (nearest_entry (λ i. true) palette c))
    at_last t = by_first None e ∙ ap (λ (b : Bool). cond b append (replace (nearest_entry (λ i. true) palette c))) t

    pub chose_append : (lab : List Float) → palette.count < 256 → lab ≡ recoloured palette.lab palette.count c → Chose palette c (choice (λ i. true) false palette c) palette.count (palette.count + 1) lab
    unfolding chosen_index chosen_palette
    chose_append lab h d = rw (at_last (lt-ltb palette.count 256 h)) (record { at = refl; colours = refl; doubles = d })

    pub chose_replace : (i : ℕ) (lab : List Float) → 256 ≤ palette.count → i ≡ nearest_entry (λ i. true) palette c → lab ≡ recoloured palette.lab i c
        → Chose palette c (choice (λ i. true) false palette c) i palette.count lab
    unfolding chosen_index chosen_palette
    chose_replace i lab h n d = rw (at_last (le-ltb palette.count 256 h)) (record { at = n; colours = refl; doubles = d ∙ ap (λ (j : ℕ). recoloured palette.lab j c) n })

-- the entry that a choice gives is one of the 256
pub index_below : (may : ℕ → Bool) (fixed : Bool) (palette : Palette) (c : Lab) → palette.count ≤ 256 → chosen_index palette (choice may fixed palette c) < 256
unfolding choice chosen_index
index_below may true palette c h = nearest-below (λ i. true) palette c h
index_below may false palette c h = go (first_where same palette.count) (where_below same palette.count)
  where
    same : ℕ → Bool
    same i = same_rgb8 (lab_to_rgb8 (colour palette i)) (lab_to_rgb8 c)

    room : (b : Bool) → ltb palette.count 256 ≡ b → chosen_index palette (cond b append (replace (nearest_entry may palette c))) < 256
    room true e = ltb-true palette.count 256 e
    room false e = nearest-below may palette c h

    go : (o : Option ℕ) → ((b : ℕ) → o ≡ Some b → b < palette.count)
        → chosen_index palette (elim o [ Some i ↦ reuse i | None ↦ cond (ltb palette.count 256) append (replace (nearest_entry may palette c)) ]) < 256
    go (Some i) f = lt_of_lt_of_le (f i refl) h
    go None f = room (ltb palette.count 256) refl
