-- What is written of a group that was judged. Assumes nothing.
use Prim.Native.Nat.{ℕ, suc, ◌+◌, ◌*◌, ◌≤◌, ◌<◌}
use mathlib.Core.Path.{◌≡◌, refl, sym, ap, ◌∙◌}
use mathlib.Core.Logic.{◌⊎◌, inl, inr, ⊎_elim}
use mathlib.Core.Bool.{Bool, not}
use mathlib.Core.List.{List}
use native.Mathlib.Decide.{ℕ_discrete}
use native.Mathlib.Omega.{arith}
use lib.Dec.{eqb}
use lib.ListN.{length, set, length-set}
use Rattle.rules.specs.Pass.{Rule}
use Rattle.grid.specs.declared.Grid.{Grid}
use Rattle.grid.specs.Planes.{plane}
use Rattle.grid.proofs.Planes.{plane-same, plane_else, plane_other}
use Rattle.verdicts.specs.Steps.{area_of}
use Rattle.verdicts.specs.Groups.{Group}
use Rattle.verdicts.specs.Judging.{large_of, Judged}
use Rattle.frontier.specs.Judging.{RegionSet, Noted, Stage}
use Rattle.frontier.proofs.Stages.{stage_room}
use Rattle.verdicts.proofs.Keeping.{Alike}

module _ (rule : Rule) (n at end : ℕ) (a b : List ℕ) (lat : at < n) (le : end ≤ n) where
  -- it stays
  pub noted_still : Judged rule n at a b 0 → Noted rule n at end a b end
  noted_still u =
      let keep : (j q : ℕ) → (5 ≡ j → ⊥) → q < n → plane n j b q ≡ plane n j a q = u.kept.same in
      let num : plane n 6 b at ≡ plane n 6 a at = keep 6 at (λ z. absurd (omega arith)) lat in
      record {
        len = u.kept.len;
        same = λ j q l h. keep j q (λ z. absurd (omega arith)) h;
        large = u.large;
        marks = λ q l. ⊎_elim inl (λ m. absurd (m.1 refl)) (u.marks q l);
        numbers = λ l h z. keep 6 l (λ z. absurd (omega arith)) h;
        done = λ z. num;
        right = λ z x l e. num ∙ z ∙ u.right z x l e;
        little = λ z y. absurd (y (num ∙ z));
        thawed = λ x l z. keep 4 x (λ z. absurd (omega arith)) l;
        frozen = λ z o x l e. absurd (omega (arith, num));
        log = λ i l. keep 7 i (λ z. absurd (omega arith)) (omega arith);
        logged = λ z o. absurd (omega (arith, num));
        unlogged = λ z. refl;
      }

  module _ (v : ℕ) (u : Judged rule n at a b v) (some : v ≡ 0 → ⊥) (i : ℕ) (ei : i ≡ 6 * n + at) (li : i < length b) where
    abbrev c : List ℕ
    c = set b i v

    free : plane n 6 a at ≡ 0
    free = elim (ℕ_discrete (plane n 6 a at) 0) [ yes y ↦ y | no z ↦ absurd (some (u.done z)) ]

    off_six : (j q : ℕ) → (5 ≡ j → ⊥) → (6 ≡ j → ⊥) → q < n → plane n j c q ≡ plane n j a q
    off_six j q z y h = plane_other n 6 at i b v ei j q y lat h ∙ u.kept.same j q z h

    five : (q : ℕ) → q < n → plane n 5 c q ≡ plane n 5 b q
    five q h = plane_other n 6 at i b v ei 5 q (λ z. absurd (omega arith)) lat h

    number : plane n 6 c at ≡ v
    number = plane-same n 6 at i b v ei li

    others : (l : ℕ) → l < n → (l ≡ at → ⊥) → plane n 6 c l ≡ plane n 6 a l
    others l h z = plane_else n 6 at i b v ei l z ∙ u.kept.same 6 l (λ z. absurd (omega arith)) h

    -- the order is as it was
    pub six_alike : Alike n a c
    six_alike = record {
      label = λ q h. off_six 1 q (λ z. absurd (omega arith)) (λ z. absurd (omega arith)) h;
      order = λ q h. off_six 2 q (λ z. absurd (omega arith)) (λ z. absurd (omega arith)) h;
      ends = λ q h. off_six 3 q (λ z. absurd (omega arith)) (λ z. absurd (omega arith)) h;
    }

    marks_of : (d : List ℕ) → ((q : ℕ) → q < n → plane n 5 d q ≡ plane n 5 c q) → plane n 6 d at ≡ v → (q : ℕ) → q < n → (plane n 5 d q ≡ plane n 5 a q) ⊎ ((plane n 5 d q ≡ at + 2) × (plane n 6 d at ≡ 0 → ⊥))
    marks_of d f e q h =
        ⊎_elim (λ m. inl (f q h ∙ five q h ∙ m)) (λ m. inr (f q h ∙ five q h ∙ m.0, (λ z. some (sym e ∙ z)))) (u.marks q h)

    large_of_lem : (d : List ℕ) → ((q : ℕ) → q < n → plane n 5 d q ≡ plane n 5 c q) → (q : ℕ) → q < n → large_of n d q ≡ large_of n a q
    unfolding large_of
    large_of_lem d f q h = ap big_of (f q h ∙ five q h) ∙ u.large q h
      where
        big_of : ℕ → Bool
        big_of x = not (eqb x 0)

    -- it is frozen
    pub noted_froze : v ≡ 1 → (d : List ℕ) → RegionSet n at 4 1 c d → Noted rule n at end a d end
    unfolding large_of
    noted_froze one d s =
        let keep : (j q : ℕ) → (4 ≡ j → ⊥) → q < n → plane n j d q ≡ plane n j c q = s.others in
        let num : plane n 6 d at ≡ v = keep 6 at (λ z. absurd (omega arith)) lat ∙ number in
        let label : (q : ℕ) → q < n → plane n 1 c q ≡ plane n 1 a q = (λ q h. off_six 1 q (λ z. absurd (omega arith)) (λ z. absurd (omega arith)) h) in
        record {
          len = s.len ∙ length-set b i v ∙ u.kept.len;
          same = λ j q l h. keep j q (λ z. absurd (omega arith)) h ∙ off_six j q (λ z. absurd (omega arith)) (λ z. absurd (omega arith)) h;
          large = large_of_lem d (λ q h. keep 5 q (λ z. absurd (omega arith)) h);
          marks = marks_of d (λ q h. keep 5 q (λ z. absurd (omega arith)) h) num;
          numbers = λ l h z. keep 6 l (λ z. absurd (omega arith)) h ∙ others l h z;
          done = λ z. absurd (z free);
          right = λ z x l e. num ∙ u.right z x l e;
          little = λ z y. u.little some;
          thawed = λ x l z. s.old x l (λ e. ⊎_elim (λ y. y (sym (label x l) ∙ e)) (⊎_elim (λ y. y free) (λ y. y (num ∙ one))) z) ∙ off_six 4 x (λ z. absurd (omega arith)) (λ z. absurd (omega arith)) l;
          frozen = λ z o x l e. s.new x l (label x l ∙ e);
          log = λ j l. keep 7 j (λ z. absurd (omega arith)) (omega arith) ∙ off_six 7 j (λ z. absurd (omega arith)) (λ z. absurd (omega arith)) (omega arith);
          logged = λ z o. absurd (omega (arith, num));
          unlogged = λ z. refl;
        }

    -- it is to be repainted
    module _ (many : v ≡ 1 → ⊥) (lend : end < n) (j : ℕ) (ej : j ≡ 7 * n + end) (lj : j < length c) where
      abbrev e : List ℕ
      e = set c j at

      keep_log : (m q : ℕ) → (7 ≡ m → ⊥) → q < n → plane n m e q ≡ plane n m c q
      keep_log m q z h = plane_other n 7 end j c at ej m q z lend h

      pub noted_logged : Noted rule n at end a e (suc end)
      noted_logged =
          let num : plane n 6 e at ≡ v = keep_log 6 at (λ z. absurd (omega arith)) lat ∙ number in
          record {
            len = length-set c j at ∙ length-set b i v ∙ u.kept.len;
            same = λ m q l h. keep_log m q (λ z. absurd (omega arith)) h ∙ off_six m q (λ z. absurd (omega arith)) (λ z. absurd (omega arith)) h;
            large = large_of_lem e (λ q h. keep_log 5 q (λ z. absurd (omega arith)) h);
            marks = marks_of e (λ q h. keep_log 5 q (λ z. absurd (omega arith)) h) num;
            numbers = λ l h z. keep_log 6 l (λ z. absurd (omega arith)) h ∙ others l h z;
            done = λ z. absurd (z free);
            right = λ z x l y. num ∙ u.right z x l y;
            little = λ z y. u.little some;
            thawed = λ x l z. keep_log 4 x (λ z. absurd (omega arith)) l ∙ off_six 4 x (λ z. absurd (omega arith)) (λ z. absurd (omega arith)) l;
            frozen = λ z o. absurd (many (sym num ∙ o));
            log = λ m l. plane_else n 7 end j c at ej m (λ z. absurd (omega arith)) ∙ off_six 7 m (λ z. absurd (omega arith)) (λ z. absurd (omega arith)) (omega arith);
            logged = λ z o. (refl, plane-same n 7 end j c at ej lj);
            unlogged = λ z. ⊎_elim (λ y. absurd (y free)) (λ y. absurd (omega (arith, num, two))) z;
          }
        where
          two : 2 ≤ v
          two = omega (arith, some, many)

-- a group that is to be repainted finds the log with room
pub noted_room : {rule : Rule} {grid : Grid} {k at end r : ℕ} {a b : List ℕ} → Stage rule grid k end a → Group (area_of grid) a at → Judged rule (area_of grid) at a b r → (r ≡ 0 → ⊥) → end < area_of grid
noted_room {grid = grid} {at = at} {a = a} st g u z =
    (stage_room st g).1 (elim (ℕ_discrete (plane (area_of grid) 6 a at) 0) [ yes y ↦ y | no y ↦ absurd (z (u.done y)) ]) (u.little z)
