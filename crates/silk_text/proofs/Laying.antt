-- Lists that are laid over others, from a place on. Assumes nothing.
use Prim.Native.Nat.{ℕ, suc, ◌+◌, ◌*◌, ◌≤◌, ◌<◌}
use mathlib.Core.Path.{◌≡◌, refl, sym, ap, ◌∙◌}
use mathlib.Core.List.{List, [], ◌∷◌, ◌++◌, append_assoc, append-nil}
use native.Mathlib.Nat.{add-zero, zero-add, add_assoc}
use native.Mathlib.Omega.{arith}
use lib.Ieee.{Float}
use lib.ListN.{length, take, drop, set, length-append, length-drop, take-append-drop, drop_of_length-le}
use lib.Seq.{take_at, drop-append-add, drop-drop, length-take-le, sets, sets-eq}
use borrow.Rule.Slice.PartMut.{put_mid}
use Rattle.std.proofs.lemmas.Slice.{put_mid-paste}
use Rattle.std.proofs.lemmas.List.Edits.{paste_all}
use Rattle.base.specs.declared.Refusal.{Refusal}
use Rattle.color.specs.Lab.{rgb8_to_lab}
use Rattle.color.specs.declared.Rgb8.{Rgb8}
use Rattle.rules.specs.Palette.{recoloured}
use Rattle.rules.specs.Sheet.{over}
use Rattle.silk_reader.specs.Reader.{got, refused, Reader}
use Rattle.silk_text.specs.Format.{doubles}
use Rattle.silk_text.specs.Answers.{laid, onto}

module _ {A : Type 0} where
  pub laid_none : (at : ℕ) (old : List A) → old ≡ laid at [] old
  unfolding laid
  laid_none at old = sym (rw (append-nil (take at old), add-zero at) (take-append-drop at old))

  head-length : (at : ℕ) (s old : List A) → at ≤ length old → length (take at old ++ s) ≡ at + length s
  head-length at s old h = length-append (take at old) s ∙ ap (λ (k : ℕ). k + length s) (length-take-le at old h)

  pub laid-length : (at : ℕ) (s old : List A) → at + length s ≤ length old → length (laid at s old) ≡ length old
  unfolding laid
  laid-length at s old h =
      length-append (take at old ++ s) (drop (at + length s) old)
      ∙ omega (arith, head-length at s old (omega arith), length-drop (at + length s) old)

  -- one list after the other
  pub laid_more : (at : ℕ) (s t old : List A) → at + length s ≤ length old → laid (at + length s) t (laid at s old) ≡ laid at (s ++ t) old
  unfolding laid
  laid_more at s t old h =
      let p = take at old ++ s in
      let e : length p ≡ at + length s = head-length at s old (omega arith) in
      let back : drop (at + length s + length t) (laid at s old) ≡ drop (at + length (s ++ t)) old =
      ap (λ (k : ℕ). drop (k + length t) (p ++ drop (at + length s) old)) (sym e)
      ∙ drop-append-add p (drop (at + length s) old) (length t)
      ∙ drop-drop (length t) (at + length s) old
      ∙ ap (λ (k : ℕ). drop k old) (add_assoc at (length s) (length t) ∙ ap (λ (k : ℕ). at + k) (sym (length-append s t))) in
      ap (λ (l : List A). l ++ t ++ drop (at + length s + length t) (laid at s old)) (take_at p (drop (at + length s) old) (at + length s) e)
      ∙ ap (λ (l : List A). p ++ t ++ l) back
      ∙ ap (λ (l : List A). l ++ drop (at + length (s ++ t)) old) (append_assoc (take at old) s t)

  -- one element after the other
  pub laid_sets : (at : ℕ) (new old : List A) → at + length new ≤ length old → sets old at new ≡ laid at new old
  unfolding laid
  laid_sets at new old h = sets-eq new old at h

  pub laid_one : (at : ℕ) (x : A) (old : List A) → at < length old → set old at x ≡ laid at (x ∷ []) old
  laid_one at x old h = laid_sets at (x ∷ []) old (omega arith)

  -- a part that was written
  pub mid_laid : (at k : ℕ) (old part : List A) {new : List A} → part ≡ new → k ≡ length new → put_mid at k old part ≡ laid at new old
  unfolding laid
  mid_laid at k old part {new} e n =
      put_mid-paste at k old part new (length new) e (sym n) refl
      ∙ paste_all old at new (length new) refl
      ∙ sym (append_assoc (take at old) new (drop (at + length new) old))

  -- ---- from the first place on

  pub laid_over : (new old : List A) → laid 0 new old ≡ over new old
  unfolding laid over
  laid_over new old = ap (λ (k : ℕ). new ++ drop k old) (zero-add (length new))

  pub over_none : (old : List A) → old ≡ over [] old
  unfolding over
  over_none old = refl

  pub over-length : (s old : List A) → length s ≤ length old → length (over s old) ≡ length old
  unfolding over
  over-length s old h = length-append s (drop (length s) old) ∙ omega (arith, length-drop (length s) old)

  pub over_more : (s t old : List A) → length s ≤ length old → laid (length s) t (over s old) ≡ over (s ++ t) old
  over_more s t old h =
      ap (laid (length s) t) (sym (laid_over s old))
      ∙ ap (λ (k : ℕ). laid k t (laid 0 s old)) (sym (zero-add (length s)))
      ∙ laid_more 0 s t old (omega arith)
      ∙ laid_over (s ++ t) old

  -- a list over one as long
  pub over_whole : (new old : List A) → length new ≡ length old → over new old ≡ new
  unfolding over
  over_whole new old e = rw (drop_of_length-le old {i = length new} (omega arith)) (append-nil new)

-- a colour that is written to the entry i
pub recoloured-laid : (palette : List Float) (i : ℕ) (c : Rgb8) → 3 * i + 3 ≤ length palette → recoloured palette i (rgb8_to_lab c) ≡ laid (3 * i) (doubles c) palette
unfolding recoloured doubles
recoloured-laid palette i c h =
    let a : 3 * i + 1 ≡ suc (3 * i) = omega arith in
    let b : 3 * i + 2 ≡ suc (suc (3 * i)) = omega arith in
    rw (a, b) (laid_sets (3 * i) (doubles c) palette (omega arith))

-- ---- what a reading writes over a list

pub onto_yes : {A : Type 0} (old : List A) (p : Reader (List A)) (text : List ℕ) {l : List A} {rest : List ℕ} → p text ≡ got l rest → {new : List A} → over l old ≡ new → onto old p text ≡ got new rest
unfolding onto
onto_yes old p text e f = rw (e, f)

pub onto_not : {A : Type 0} (old : List A) (p : Reader (List A)) (text : List ℕ) {n : Refusal} → p text ≡ refused n → onto old p text ≡ refused n
unfolding onto
onto_not old p text e = rw e
