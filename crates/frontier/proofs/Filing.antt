-- The log of the groups that are to be repainted, while groups are judged. Assumes nothing.
use Prim.Native.Nat.{ℕ, suc, ◌≤◌, ◌<◌}
use mathlib.Core.Path.{◌≡◌, refl, sym, ap, ◌∙◌}
use mathlib.Core.Logic.{inl, inr}
use mathlib.Core.List.{List}
use native.Mathlib.Decide.{ℕ_discrete, dec_lt}
use native.Mathlib.Omega.{arith}
use Rattle.rules.specs.Pass.{Rule}
use Rattle.grid.specs.Planes.{plane}
use Rattle.frontier.specs.Judging.{Noted, Chosen, Filed}

pub filed_start : (n end : ℕ) (a : List ℕ) → Filed n a a end end
filed_start n end a = record {
  rises = omega arith;
  kept = λ i l. refl;
  named = λ i l h. absurd (omega arith);
  all = λ l z. absurd (omega (arith, z.free, z.number));
}

-- one after the other: a number stays once it is given
module _ (n from mid end : ℕ) (a b c : List ℕ) (label : (q : ℕ) → q < n → plane n 1 b q ≡ plane n 1 a q)
    (was : (x l : ℕ) → x < n → plane n 1 a x ≡ suc l → plane n 6 b l ≡ 0 → plane n 6 a l ≡ 0)
    (stays : (x l : ℕ) → x < n → plane n 1 a x ≡ suc l → (plane n 6 b l ≡ 0 → ⊥) → plane n 6 c l ≡ plane n 6 b l)
    (u : Filed n a b from mid) (v : Filed n b c mid end) where
  pub filed_trans : Filed n a c from end
  filed_trans = record {
    rises = omega (arith, u.rises, v.rises);
    kept = λ i l. v.kept i (omega (arith, u.rises)) ∙ u.kept i l;
    named = named';
    all = all';
  }
    where
      named' : (i : ℕ) → from ≤ i → i < end → Chosen n a c (plane n 7 c i)
      named' i l h =
          elim (dec_lt i mid) [
            | yes y ↦ (let w = u.named i l y in
                let s = stays w.place (plane n 7 b i) w.bound w.label (λ z. absurd (omega (arith, w.number))) in
                rw (v.kept i y) (record { place = w.place; bound = w.bound; label = w.label; free = w.free; number = omega (arith, w.number) }))
            | no y ↦ (let w = v.named i (omega arith) h in
                let e = sym (label w.place w.bound) ∙ w.label in
                record { place = w.place; bound = w.bound; label = e; free = was w.place _ w.bound e w.free; number = w.number })
          ]

      all' : (l : ℕ) → Chosen n a c l → (i : ℕ) × (from ≤ i) × (i < end) × (plane n 7 c i ≡ l)
      all' l z =
          elim (ℕ_discrete (plane n 6 b l) 0) [
            | yes o ↦ (let i = v.all l (record { place = z.place; bound = z.bound; label = label z.place z.bound ∙ z.label; free = o; number = z.number }) in
                (i.0, omega (arith, i.1, u.rises), i.2, i.3))
            | no o ↦ (let s = stays z.place l z.bound z.label o in
                let i = u.all l (record { place = z.place; bound = z.bound; label = z.label; free = z.free; number = omega (arith, z.number) }) in
                (i.0, i.1, omega (arith, i.2, v.rises), v.kept i.0 i.2 ∙ i.3))
          ]

-- a group is judged
module _ (rule : Rule) (n at end : ℕ) (a b : List ℕ) (r : ℕ) (u : Noted rule n at end a b r) (in_use : (x l : ℕ) → x < n → plane n 1 a x ≡ suc l → l < n)
    (y : ℕ) (ly : y < n) (gy : plane n 1 a y ≡ suc at) where
  -- no other group is chosen
  only : (l : ℕ) → Chosen n a b l → l ≡ at
  only l z = elim (ℕ_discrete l at) [ yes e ↦ e | no d ↦ (let s = u.numbers l (in_use z.place l z.bound z.label) d in absurd (omega (arith, z.free, z.number))) ]

  -- it is not
  filed_none : (Chosen n a b at → ⊥) → r ≡ end → Filed n a b end r
  filed_none z e = record {
    rises = omega arith;
    kept = u.log;
    named = λ i l h. absurd (omega arith);
    all = λ l c. absurd (z (rw (only l c) at c));
  }

  pub filed_noted : Filed n a b end r
  filed_noted =
      elim (ℕ_discrete (plane n 6 a at) 0) [
        | no z ↦ filed_none (λ c. z c.free) (u.unlogged (inl z))
        | yes f ↦ (elim (dec_lt (plane n 6 b at) 2) [
          | yes l ↦ filed_none (λ c. absurd (omega (arith, c.number))) (u.unlogged (inr l))
          | no m ↦ (let two : 2 ≤ plane n 6 b at = omega arith in
              let w = u.logged f two in
              record {
                rises = omega (arith, w.0);
                kept = u.log;
                named = λ i l h. let e : i ≡ end = omega (arith, w.0) in
                    rw (ap (plane n 7 b) e ∙ w.1) (record { place = y; bound = ly; label = gy; free = f; number = two });
                all = λ l c. (end, omega arith, omega (arith, w.0), w.1 ∙ sym (only l c));
              })
        ])
      ]
