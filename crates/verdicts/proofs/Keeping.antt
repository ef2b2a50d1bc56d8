-- What a poll leaves of the sheet. Assumes nothing.
use Prim.Native.Nat.{ℕ, zero, suc, ◌≤◌, ◌<◌}
use mathlib.Core.Path.{◌≡◌, refl, sym, ap, ◌∙◌}
use mathlib.Core.Logic.{◌⊎◌, inl, ⊎_elim}
use mathlib.Core.List.{List}
use native.Mathlib.Omega.{arith}
use lib.ListN.{length}
use Rattle.grid.specs.declared.Grid.{Grid}
use Rattle.grid.specs.Planes.{plane, end_of}
use Rattle.grid.proofs.Places.{area}
use Rattle.verdicts.specs.Steps.{area_of}
use Rattle.verdicts.specs.Groups.{Planes, Group, GroupedSheet}
use Rattle.verdicts.specs.Polling.{MarksOnly, Polled}
use Rattle.verdicts.proofs.Votes.{large_was}

-- a sheet's grid has few cells
pub sheet-few : {grid : Grid} {work : List ℕ} → GroupedSheet grid work → area_of grid ≤ 264196
sheet-few {grid} b = area grid.h grid.w b.rows b.cols

pub sheet-planes : {grid : Grid} {work : List ℕ} → GroupedSheet grid work → Planes (area_of grid) work
sheet-planes b = record { few = sheet-few b; room = b.room }

-- planes 1 to 3 are as they were
pub record Alike (n : ℕ) (a b : List ℕ) : Type 0 where
  pub label : (q : ℕ) → q < n → plane n 1 b q ≡ plane n 1 a q
  pub order : (q : ℕ) → q < n → plane n 2 b q ≡ plane n 2 a q
  pub ends : (q : ℕ) → q < n → plane n 3 b q ≡ plane n 3 a q

module _ {n : ℕ} {a b : List ℕ} (u : Alike n a b) where
  pub end_alike : (k : ℕ) → k ≤ n → end_of n b k ≡ end_of n a k
  unfolding end_of
  end_alike zero l = refl
  end_alike (suc k) l = u.ends k (omega arith)

  pub group-alike : (at : ℕ) → Group n a at → Group n b at
  group-alike at g =
      let e = end_alike at (omega (arith, g.label)) in
      let f = end_alike (suc at) (omega (arith, g.label)) in
      record {
        label = g.label;
        some = rw (e, f) g.some;
        end = rw f g.end;
        places = λ i l h. let l' : end_of n a at ≤ i = rw e at l in
            let h' : i < end_of n a (suc at) = rw f at h in
            let p = g.places i l' h' in
            let o : plane n 2 b i ≡ plane n 2 a i = u.order i (omega (arith, g.end)) in
            (rw o p.0, ap (plane n 1 b) o ∙ u.label (plane n 2 a i) p.0 ∙ p.1);
        all = λ p h y. let w = g.all p h (sym (u.label p h) ∙ y) in
            (w.0, rw e w.1, rw f w.2, u.order w.0 (omega (arith, w.2, g.end)) ∙ w.3);
      }

pub kept_alike : {n : ℕ} {a b : List ℕ} → MarksOnly n a b → Alike n a b
kept_alike u = record {
  label = λ q l. u.same 1 q (λ z. absurd (omega arith)) l;
  order = λ q l. u.same 2 q (λ z. absurd (omega arith)) l;
  ends = λ q l. u.same 3 q (λ z. absurd (omega arith)) l;
}

-- a sheet whose groups stay is one still, if each place has the paint it had and is large only if it was, or has the paint of an index
pub sheet_alike : {grid : Grid} {a b : List ℕ} → GroupedSheet grid a → length b ≡ length a → Alike (area_of grid) a b →
    ((q : ℕ) → q < area_of grid → ((plane (area_of grid) 0 b q ≡ plane (area_of grid) 0 a q) × ((plane (area_of grid) 5 b q ≡ 0 → ⊥) → plane (area_of grid) 5 a q ≡ 0 → ⊥)) ⊎ ((1 ≤ plane (area_of grid) 0 b q) × (plane (area_of grid) 0 b q ≤ 256))) →
    GroupedSheet grid b
sheet_alike d len u each = record {
  rows = d.rows;
  cols = d.cols;
  room = rw len d.room;
  paint = λ q l. ⊎_elim (λ y. rw y.0 (d.paint q l)) (λ y. y.1) (each q l);
  shown = λ q l z. ⊎_elim (λ y. rw y.0 (d.shown q l (λ e. z (u.label q l ∙ e)))) (λ y. y.0) (each q l);
  large = λ q l z. ⊎_elim (λ y. rw y.0 (d.large q l (y.1 z))) (λ y. y.0) (each q l);
  groups = λ q at l e. group-alike u at (d.groups q at l (sym (u.label q l) ∙ e));
}

pub sheet_polled : {grid : Grid} {m : ℕ} {A : ℕ → Type 0} {a b counts : List ℕ} → (m ≡ 0 → ⊥) → Polled (area_of grid) m A a b counts → GroupedSheet grid a → GroupedSheet grid b
sheet_polled some u d = let k = u.kept in sheet_alike d k.len (kept_alike k) (λ q l. inl (k.same 0 q (λ z. absurd (omega arith)) l, large_was some u q l))
