-- `clear`: plane 1 is written by plane 0, which stands before it. Assumes nothing.
use Rattle.std.proofs.Common.{◌≡◌, ℕ, ◌+◌, ◌-◌, ◌*◌, ◌<◌, ◌≤◌, List, ◌++◌, length, get_or, drop, length-append, length-drop, length-take, sym, ap, ◌∙◌, arith}
use mathlib.Core.Logic.{◌⊎◌, inl, inr}
use mathlib.Core.Path.{refl}
use native.Mathlib.Nat.{mul-le-mul_right}
use native.Mathlib.Decide.{ℕ_discrete}
use lib.Seq.{get_or-append-add, get_or-drop}
use Rattle.std.proofs.lemmas.List.Prefix.{front_reads}
use Rattle.grid.specs.Planes.{plane}
use Rattle.grid.proofs.Planes.{plane_read}
use Rattle.labels.specs.Filling.{word_of, Cleared}
use Rattle.labels.proofs.label.clear.Goals as goal

module _ (n : ℕ) (old paints rest : List ℕ) (split : old ≡ paints ++ rest) (size : length paints ≡ n) where
  -- plane 0
  paint_at : (p : ℕ) → p < n → get_or paints p 0 ≡ plane n 0 old p
  paint_at p l = sym (front_reads 0 old paints rest split p (omega arith)) ∙ plane_read n 0 p p old (omega arith)

  -- what stands past plane 0
  behind : (xs : List ℕ) (i q : ℕ) → i ≡ n + q → get_or (paints ++ xs) i 0 ≡ get_or xs q 0
  behind xs i q e = let f : i ≡ length paints + q = omega arith in ap (λ (x : ℕ). get_or (paints ++ xs) x 0) f ∙ get_or-append-add paints xs q 0

  -- plane 1 written anew
  module _ (codes : List ℕ) (two : 2 * n ≤ length old) (long : length codes ≡ n) (word : (k : ℕ) → k < n → get_or codes k 0 ≡ word_of (get_or paints k 0)) where
    abbrev new : List ℕ
    new = paints ++ (codes ++ drop n rest)

    kept : (i : ℕ) → (i < n) ⊎ (2 * n ≤ i) → get_or new i 0 ≡ get_or old i 0
    kept i (inl l) = front_reads 0 new paints (codes ++ drop n rest) refl i (omega arith) ∙ sym (front_reads 0 old paints rest split i (omega arith))
    kept i (inr m) =
        let f : i - n ≡ length codes + (i - 2 * n) = omega arith in
        let g : n + (i - 2 * n) ≡ i - n = omega arith in
        behind (codes ++ drop n rest) i (i - n) (omega arith) ∙ ap (λ (x : ℕ). get_or (codes ++ drop n rest) x 0) f ∙ get_or-append-add codes (drop n rest) (i - 2 * n) 0
        ∙ get_or-drop n rest (i - 2 * n) 0 ∙ ap (λ (x : ℕ). get_or rest x 0) g ∙ sym (ap (λ (l : List ℕ). get_or l i 0) split ∙ behind rest i (i - n) (omega arith))

    cleared : Cleared n n old new
    unfolding plane
    cleared = record {
      size = omega (arith, length-append paints (codes ++ drop n rest), length-append codes (drop n rest), length-drop n rest, ap length split, length-append paints rest);
      word = λ p lp. behind (codes ++ drop n rest) (1 * n + p) p (omega arith) ∙ front_reads 0 (codes ++ drop n rest) codes (drop n rest) refl p (omega arith) ∙ word p lp ∙ ap word_of (paint_at p lp);
      others = λ j p ne lp. kept (j * n + p) (elim (ℕ_discrete j 0) [ yes y ↦ inl (rw y (omega arith)) | no m ↦ (let t : 2 ≤ j = omega arith in inr (omega (arith, mul-le-mul_right n t))) ]);
    }

pub word-requires : goal.word-requires
word-requires c =
    let s = c.split_at_mut-paints in
    let l : c.loop-p.p < c.args.n = omega (arith, length-take {A = ℕ} c.args.n s.result.1.now) in
    omega (arith, paint_at _ _ _ _ s.ensures.value s.ensures.front_len c.loop-p.p l, c.requires.by_index c.loop-p.p l)

pub returns : goal.returns
returns c =
    let s = c.split_at_mut-paints in
    let long : length c.loop-p.code-items ≡ c.args.n = omega (arith, length-take {A = ℕ} c.args.n s.result.1.now, s.ensures.back_len) in
    cleared _ _ _ _ s.ensures.value s.ensures.front_len _ (omega arith) long (λ k l. c.loop-p.invariant k (omega arith))
