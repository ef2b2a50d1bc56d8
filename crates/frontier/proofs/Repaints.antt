-- Groups are enlarged or repainted, one after the other. Assumes nothing.
use Prim.Native.Nat.{ℕ, suc, ◌+◌, ◌-◌, ◌*◌, ◌≤◌, ◌<◌}
use mathlib.Core.Path.{◌≡◌, refl, sym, ap, ◌∙◌}
use mathlib.Core.Logic.{◌⊎◌, inl, inr, ⊎_elim}
use mathlib.Core.List.{List}
use native.Mathlib.Decide.{ℕ_discrete}
use native.Mathlib.Omega.{arith}
use lib.ListN.{length}
use Rattle.grid.specs.Planes.{plane, end_of}
use Rattle.verdicts.specs.Groups.{Group}
use Rattle.frontier.specs.Judging.{RegionSet}
use Rattle.frontier.specs.Growing.{Enlarged, Repainted}
use Rattle.verdicts.proofs.Keeping.{Alike, end_alike, group-alike, kept_alike}
use Rattle.frontier.proofs.Turns.{LogTurn, log_turn}

-- ---- enlarging

pub enlarged_start : (n : ℕ) (named : ℕ → Type 0) (a : List ℕ) → ((l : ℕ) → named l → ⊥) → Enlarged n named a a
enlarged_start n named a z = record {
  kept = record { len = refl; same = λ j q y l. refl };
  new = λ q l b e y. absurd (z l y);
  each = λ q l. inl refl;
}

-- the same groups by another name
pub enlarged_same : {n : ℕ} {named named' : ℕ → Type 0} {a b : List ℕ} → ((l : ℕ) → named l → named' l) → ((l : ℕ) → named' l → named l) → Enlarged n named a b → Enlarged n named' a b
enlarged_same f g u = record {
  kept = u.kept;
  new = λ q l b e y. u.new q l b e (g l y);
  each = λ q l. ⊎_elim inl (λ w. inr (w.0, w.1, f w.0 w.2)) (u.each q l);
}

-- one more group
pub enlarged_on : (n : ℕ) (named : ℕ → Type 0) (a b c : List ℕ) (at : ℕ) → Enlarged n named a b → RegionSet n at 5 1 b c → Enlarged n (λ l. named l ⊎ (l ≡ at)) a c
enlarged_on n named a b c at u s = record {
  kept = record { len = s.len ∙ u.kept.len; same = λ j q z l. s.others j q z l ∙ u.kept.same j q z l };
  new = λ q l h e z. elim (ℕ_discrete l at) [
    | yes i ↦ s.new q h (label q h ∙ e ∙ ap suc i)
    | no d ↦ s.old q h (λ y. d (let f : suc l ≡ suc at = sym e ∙ sym (label q h) ∙ y in omega arith)) ∙ u.new q l h e (⊎_elim (λ y. y) (λ y. absurd (d y)) z)
  ];
  each = λ q h. elim (ℕ_discrete (plane n 1 a q) (suc at)) [
    | yes i ↦ inr (at, i, inr refl)
    | no d ↦ ⊎_elim (λ e. inl (s.old q h (λ y. d (sym (label q h) ∙ y)) ∙ e)) (λ w. inr (w.0, w.1, inl w.2)) (u.each q h)
  ];
}
  where
    label : (q : ℕ) → q < n → plane n 1 b q ≡ plane n 1 a q
    label q l = u.kept.same 1 q (λ z. absurd (omega arith)) l

pub enlarged_group : {n : ℕ} {named : ℕ → Type 0} {a b : List ℕ} {at : ℕ} → Enlarged n named a b → Group n a at → Group n b at
enlarged_group {at = at} u g = group-alike (kept_alike u.kept) at g

-- a group ends where it did
pub enlarged_end : {n : ℕ} {named : ℕ → Type 0} {a b : List ℕ} {at : ℕ} → Enlarged n named a b → Group n a at → (end_of n b at ≡ end_of n a at) × (end_of n b (suc at) ≡ end_of n a (suc at))
enlarged_end {at = at} u g = let k = kept_alike u.kept in (end_alike k at (omega (arith, g.label)), end_alike k (suc at) (omega (arith, g.label)))

-- l + 1 is the label of a group before `at` with enough places
abbrev pub Wide : ℕ → List ℕ → ℕ → ℕ → ℕ → Type 0
Wide n a limit at l = (l < at) × (limit ≤ end_of n a (suc l) - end_of n a l)

pub wide_start : (n limit : ℕ) (a : List ℕ) → Enlarged n (Wide n a limit 0) a a
wide_start n limit a = enlarged_start n (Wide n a limit 0) a (λ l z. let y = z.0 in absurd (omega arith))

module _ {n limit at : ℕ} {a b : List ℕ} (u : Enlarged n (Wide n a limit at) a b) where
  -- the group has enough, and is set
  pub wide_more : {c : List ℕ} → limit ≤ end_of n a (suc at) - end_of n a at → RegionSet n at 5 1 b c → Enlarged n (Wide n a limit (at + 1)) a c
  wide_more {c} wide s =
      enlarged_same {named = λ l. Wide n a limit at l ⊎ (l ≡ at)} {named' = Wide n a limit (at + 1)}
      (λ l y. elim y [ inl z ↦ (omega (arith, z.0), z.1) | inr z ↦ (omega arith, rw z wide) ])
      (λ l z. elim (ℕ_discrete l at) [ yes e ↦ inr e | no d ↦ inl (omega (arith, z.0), z.1) ])
      (enlarged_on n (Wide n a limit at) a b c at u s)

  -- it has not
  pub wide_same : (limit ≤ end_of n a (suc at) - end_of n a at → ⊥) → Enlarged n (Wide n a limit (at + 1)) a b
  wide_same thin =
      enlarged_same
      (λ l z. (omega (arith, z.0), z.1))
      (λ l z. (elim (ℕ_discrete l at) [ yes e ↦ absurd (thin (rw e at z.1)) | no d ↦ omega (arith, z.0) ], z.1))
      u

  pub wide_all : {count : ℕ} → at ≤ count → count ≤ at → Enlarged n (λ l. (l < count) × (limit ≤ end_of n a (suc l) - end_of n a l)) a b
  wide_all lo hi = enlarged_same (λ l z. (omega (arith, z.0), z.1)) (λ l z. (omega (arith, z.0), z.1)) u

-- ---- repainting

pub repainted_start : (n : ℕ) (named : ℕ → Type 0) (a : List ℕ) → ((l : ℕ) → named l → ⊥) → Repainted n named a a
repainted_start n named a z = record {
  len = refl;
  same = λ j q y w l. refl;
  paint = λ q l b e y. absurd (z l y);
  large = λ q l b e y. absurd (z l y);
  each = λ q l. inl (refl, refl);
}

-- the same groups by another name
pub repainted_same : {n : ℕ} {named named' : ℕ → Type 0} {a b : List ℕ} → ((l : ℕ) → named l → named' l) → ((l : ℕ) → named' l → named l) → Repainted n named a b → Repainted n named' a b
repainted_same f g u = record {
  len = u.len;
  same = u.same;
  paint = λ q l b e y. u.paint q l b e (g l y);
  large = λ q l b e y. u.large q l b e (g l y);
  each = λ q l. ⊎_elim inl (λ w. inr (w.0, w.1, f w.0 w.2)) (u.each q l);
}

-- one more group
module _ (n : ℕ) (named : ℕ → Type 0) (a b c : List ℕ) (at : ℕ) (lat : at < n) (u : Repainted n named a b) (v : Repainted n (λ l. l ≡ at) b c) where
  label : (q : ℕ) → q < n → plane n 1 b q ≡ plane n 1 a q
  label q l = u.same 1 q (λ z. absurd (omega arith)) (λ z. absurd (omega arith)) l

  -- a place of another group is left alone
  still : (q l : ℕ) → q < n → plane n 1 a q ≡ suc l → (l ≡ at → ⊥) → (plane n 0 c q ≡ plane n 0 b q) × (plane n 5 c q ≡ plane n 5 b q)
  still q l h e d = ⊎_elim (λ w. w) (λ w. absurd (d (let f : suc l ≡ suc w.0 = sym e ∙ sym (label q h) ∙ w.1 in let g : w.0 ≡ at = w.2 in omega arith))) (v.each q h)

  pub repainted_on : Repainted n (λ l. named l ⊎ (l ≡ at)) a c
  repainted_on = record {
    len = v.len ∙ u.len;
    same = λ j q z y l. v.same j q z y l ∙ u.same j q z y l;
    paint = λ q l h e z. elim (ℕ_discrete l at) [
      | yes i ↦ v.paint q l h (label q h ∙ e) i ∙ ap (plane n 6 b) i ∙ u.same 6 at (λ z. absurd (omega arith)) (λ z. absurd (omega arith)) lat ∙ ap (plane n 6 a) (sym i)
      | no d ↦ ap (λ (x : ℕ). x + 1) (still q l h e d).0 ∙ u.paint q l h e (⊎_elim (λ y. y) (λ y. absurd (d y)) z)
    ];
    large = λ q l h e z. elim (ℕ_discrete l at) [
      | yes i ↦ v.large q l h (label q h ∙ e) i
      | no d ↦ (still q l h e d).1 ∙ u.large q l h e (⊎_elim (λ y. y) (λ y. absurd (d y)) z)
    ];
    each = λ q h. ⊎_elim
        (λ w. ⊎_elim (λ y. inl (w.0 ∙ y.0, w.1 ∙ y.1)) (λ y. inr (y.0, y.1, inl y.2)) (u.each q h))
        (λ w. inr (w.0, sym (label q h) ∙ w.1, inr w.2))
        (v.each q h);
  }

pub repainted_alike : {n : ℕ} {named : ℕ → Type 0} {a b : List ℕ} → Repainted n named a b → Alike n a b
repainted_alike u = record {
  label = λ q l. u.same 1 q (λ z. absurd (omega arith)) (λ z. absurd (omega arith)) l;
  order = λ q l. u.same 2 q (λ z. absurd (omega arith)) (λ z. absurd (omega arith)) l;
  ends = λ q l. u.same 3 q (λ z. absurd (omega arith)) (λ z. absurd (omega arith)) l;
}

pub repainted_group : {n : ℕ} {named : ℕ → Type 0} {a b : List ℕ} {at : ℕ} → Repainted n named a b → Group n a at → Group n b at
repainted_group {at = at} u g = group-alike (repainted_alike u) at g

-- a turn over the log reads what it held
pub repainted_turn : {n to i : ℕ} {named : ℕ → Type 0} {a b : List ℕ} → n ≤ 264196 → 8 * n ≤ length a → to ≤ n → i < to → Repainted n named a b → Group n a (plane n 7 a i) → LogTurn n to i a b
repainted_turn few room last turn u group = log_turn few room last turn u.len (u.same 7 _ (λ z. absurd (omega arith)) (λ z. absurd (omega arith))) group
