-- A loop that writes to the places of a group, one after the other. Assumes nothing.
use Prim.Native.Nat.{ℕ, suc, ◌+◌, ◌*◌, ◌≤◌, ◌<◌}
use mathlib.Core.Path.{◌≡◌, refl, sym, ap, ◌∙◌}
use mathlib.Core.Logic.{◌⊎◌, inl, inr, ⊎_elim}
use mathlib.Core.List.{List}
use native.Mathlib.Nat.{mul-le-mul_right, suc-mul}
use native.Mathlib.Decide.{ℕ_discrete}
use native.Mathlib.Omega.{arith}
use lib.ListN.{length, set, length-set}
use Rattle.grid.specs.Planes.{plane, end_of}
use Rattle.grid.proofs.Planes.{plane-same, plane_else, plane_other}
use Rattle.verdicts.specs.declared.large.Span.{Span}
use Rattle.verdicts.specs.Groups.{Group}
use Rattle.verdicts.proofs.Spans.{SpanTurn, span_turn, group-stretch}
use Rattle.frontier.specs.Judging.{RegionSet}
use Rattle.frontier.specs.Growing.{Repainted}

-- a place of a plane lies in the work area
pub in_plane : (n j p : ℕ) → j < 8 → p < n → j * n + p < 8 * n
in_plane n j p l h = omega (arith, mul-le-mul_right n l, suc-mul j n)

-- ---- one plane

-- in plane j the places from end_of at on and before i of the order hold v, and the others what they held
pub record Written (n at j v i : ℕ) (a b : List ℕ) : Type 0 where
  pub new : (e : ℕ) → end_of n a at ≤ e → e < i → plane n j b (plane n 2 a e) ≡ v
  pub old : (q : ℕ) → q < n → (plane n j b q ≡ plane n j a q) ⊎ ((e : ℕ) × (end_of n a at ≤ e) × (e < i) × (plane n 2 a e ≡ q))

-- none yet
written_start : (n at j v : ℕ) (a : List ℕ) → Written n at j v (end_of n a at) a a
written_start n at j v a = record { new = λ e l h. absurd (omega arith); old = λ q l. inl refl }

-- one more place of the group was written
written_on : (n at j v i : ℕ) (a b : List ℕ) → Written n at j v i a b → end_of n a at ≤ i → (x p : ℕ) → p ≡ plane n 2 a i → x ≡ j * n + p → x < length b → Written n at j v (i + 1) a (set b x v)
written_on n at j v i a b u lo x p e f lx = record {
  new = λ d l h. elim (ℕ_discrete (plane n 2 a d) p) [
    | yes y ↦ rw y (plane-same n j p x b v f lx)
    | no y ↦ plane_else n j p x b v f (plane n 2 a d) y ∙ u.new d l (elim (ℕ_discrete d i) [ yes w ↦ absurd (y (ap (plane n 2 a) w ∙ sym e)) | no w ↦ omega arith ])
  ];
  old = λ q l. elim (ℕ_discrete q p) [
    | yes y ↦ inr (i, lo, omega arith, sym e ∙ sym y)
    | no y ↦ ⊎_elim (λ w. inl (plane_else n j p x b v f q y ∙ w)) (λ w. inr (w.0, w.1, omega (arith, w.2), w.3)) (u.old q l)
  ];
}

module _ (n at j v i : ℕ) (a : List ℕ) (g : Group n a at) (hi : i ≤ end_of n a (suc at)) (b : List ℕ) (u : Written n at j v i a b) where
  -- a store in another plane leaves that as it is
  written_else : (k x p t : ℕ) → (k ≡ j → ⊥) → p < n → x ≡ k * n + p → Written n at j v i a (set b x t)
  written_else k x p t z lp f = record {
    new = λ e l h. plane_other n k p x b t f j (plane n 2 a e) z lp (g.places e l (omega arith)).0 ∙ u.new e l h;
    old = λ q l. ⊎_elim (λ w. inl (plane_other n k p x b t f j q z lp l ∙ w)) inr (u.old q l);
  }

  -- at the end the places of the group hold v
  written_new : end_of n a (suc at) ≤ i → (q : ℕ) → q < n → plane n 1 a q ≡ suc at → plane n j b q ≡ v
  written_new h q l y = let w = g.all q l y in ap (plane n j b) (sym w.3) ∙ u.new w.0 w.1 (omega (arith, w.2))

  -- and the others what they held
  written_old : (q : ℕ) → q < n → (plane n 1 a q ≡ suc at → ⊥) → plane n j b q ≡ plane n j a q
  written_old q l z = ⊎_elim (λ w. w) (λ w. absurd (z (ap (plane n 1 a) (sym w.3) ∙ (g.places w.0 w.1 (omega (arith, w.2))).1))) (u.old q l)

-- ---- setting

-- plane j is written so far, and no other
pub record RegionSetting (n at j v i : ℕ) (a b : List ℕ) : Type 0 where
  pub len : length b ≡ length a
  pub others : (k q : ℕ) → (j ≡ k → ⊥) → q < n → plane n k b q ≡ plane n k a q
  pub here : Written n at j v i a b
  pub low : end_of n a at ≤ i
  pub high : i ≤ end_of n a (suc at)

module _ (n at j v : ℕ) (a : List ℕ) (g : Group n a at) where
  -- before the first turn
  pub setting_start : RegionSetting n at j v (end_of n a at) a a
  setting_start = record {
    len = refl;
    others = λ k q z l. refl;
    here = written_start n at j v a;
    low = omega arith;
    high = omega (arith, g.some);
  }

  -- what a turn reads is a place of the group
  pub setting_turn : {i : ℕ} {b : List ℕ} {span : Span} → n ≤ 264196 → 8 * n ≤ length a → (j ≡ 0) ⊎ (4 ≤ j) → (span.from ≡ end_of n a at) × (span.to ≡ end_of n a (suc at)) → RegionSetting n at j v i a b → i < span.to → SpanTurn n i span a b
  setting_turn few room other ends u turn =
      span_turn few room (group-stretch g ends) u.len (λ q l. u.others 2 q (λ z. ⊎_elim (λ y. absurd (omega arith)) (λ y. absurd (omega arith)) other) l) (omega (arith, ends.0, u.low)) turn

  -- one turn: the store at the place p
  pub setting_on : (i : ℕ) (b : List ℕ) → RegionSetting n at j v i a b → i < end_of n a (suc at) → (x p : ℕ) → p < n → p ≡ plane n 2 a i → x ≡ j * n + p → x < length b → RegionSetting n at j v (i + 1) a (set b x v)
  setting_on i b u li x p lp e f lx = record {
    len = length-set b x v ∙ u.len;
    others = λ k q z l. plane_other n j p x b v f k q z lp l ∙ u.others k q z l;
    here = written_on n at j v i a b u.here u.low x p e f lx;
    low = omega (arith, u.low);
    high = omega arith;
  }

  -- after the last turn the group is set
  pub setting_end : (i : ℕ) (b : List ℕ) → RegionSetting n at j v i a b → end_of n a (suc at) ≤ i → RegionSet n at j v a b
  setting_end i b u h = record {
    len = u.len;
    others = u.others;
    new = written_new n at j v i a g u.high b u.here h;
    old = written_old n at j v i a g u.high b u.here;
  }

-- ---- repainting

-- the paint and the size are written so far, and nothing else
pub record Repainting (n at v i : ℕ) (a b : List ℕ) : Type 0 where
  pub len : length b ≡ length a
  pub same : (k q : ℕ) → (0 ≡ k → ⊥) → (5 ≡ k → ⊥) → q < n → plane n k b q ≡ plane n k a q
  pub paint : Written n at 0 v i a b
  pub large : Written n at 5 1 i a b
  pub low : end_of n a at ≤ i
  pub high : i ≤ end_of n a (suc at)

module _ (n at v : ℕ) (a : List ℕ) (g : Group n a at) where
  -- before the first turn
  pub repainting_start : Repainting n at v (end_of n a at) a a
  repainting_start = record {
    len = refl;
    same = λ k q z y l. refl;
    paint = written_start n at 0 v a;
    large = written_start n at 5 1 a;
    low = omega arith;
    high = omega (arith, g.some);
  }

  -- what a turn reads is a place of the group
  pub repainting_turn : {i : ℕ} {b : List ℕ} {span : Span} → n ≤ 264196 → 8 * n ≤ length a → (span.from ≡ end_of n a at) × (span.to ≡ end_of n a (suc at)) → Repainting n at v i a b → i < span.to → SpanTurn n i span a b
  repainting_turn few room ends u turn =
      span_turn few room (group-stretch g ends) u.len (λ q l. u.same 2 q (λ z. absurd (omega arith)) (λ z. absurd (omega arith)) l) (omega (arith, ends.0, u.low)) turn

  -- one turn: both stores at the place p
  pub repainting_on : (i : ℕ) (b : List ℕ) → Repainting n at v i a b → i < end_of n a (suc at) → (p x : ℕ) → p < n → p ≡ plane n 2 a i → x ≡ 5 * n + p → x < length b → Repainting n at v (i + 1) a (set (set b p v) x 1)
  repainting_on i b u li p x lp e f lx =
      let c = set b p v in
      let l0 : length c ≡ length b = length-set b p v in
      let f0 : p ≡ 0 * n + p = omega arith in
      record {
        len = length-set c x 1 ∙ l0 ∙ u.len;
        same = λ k q z y l. plane_other n 5 p x c 1 f k q y lp l ∙ plane_other n 0 p p b v f0 k q z lp l ∙ u.same k q z y l;
        paint = written_else n at 0 v (i + 1) a g (omega arith) c (written_on n at 0 v i a b u.paint u.low p p e f0 (omega arith)) 5 x p 1 (λ z. absurd (omega arith)) lp f;
        large = written_on n at 5 1 i a c (written_else n at 5 1 i a g u.high b u.large 0 p p v (λ z. absurd (omega arith)) lp f0) u.low x p e f (omega arith);
        low = omega (arith, u.low);
        high = omega arith;
      }

  -- after the last turn the group is repainted
  pub repainting_end : (i : ℕ) (b : List ℕ) → Repainting n at v i a b → end_of n a (suc at) ≤ i → v + 1 ≡ plane n 6 a at → Repainted n (λ l. l ≡ at) a b
  repainting_end i b u h e = record {
    len = u.len;
    same = u.same;
    paint = λ q l k f y. ap (λ (x : ℕ). x + 1) (written_new n at 0 v i a g u.high b u.paint h q k (f ∙ ap suc y)) ∙ e ∙ ap (plane n 6 a) (sym y);
    large = λ q l k f y. written_new n at 5 1 i a g u.high b u.large h q k (f ∙ ap suc y);
    each = λ q k. elim (ℕ_discrete (plane n 1 a q) (suc at)) [
      | yes y ↦ inr (at, y, refl)
      | no d ↦ inl (written_old n at 0 v i a g u.high b u.paint q k d, written_old n at 5 1 i a g u.high b u.large q k d)
    ];
  }
