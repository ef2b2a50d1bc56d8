-- Passes one after the other are the rules' cleaning. Assumes nothing.
use Prim.Native.Nat.{ℕ, suc, ◌+◌, ◌-◌, ◌*◌, ◌≤◌, ◌<◌}
use mathlib.Core.Path.{◌≡◌, refl, sym, ap, ◌∙◌}
use mathlib.Core.Logic.{inl}
use mathlib.Core.Bool.{true, false, not}
use mathlib.Core.List.{List}
use native.Mathlib.Omega.{arith}
use lib.Dec.{eqb}
use lib.ListN.{length}
use Rattle.rules.specs.Pass.{Rule, State, Cleaned, fresh, clean}
use Rattle.rules.proofs.Runs.{clean_go, clean_stop}
use Rattle.grid.specs.Planes.{plane, cells_of}
use Rattle.grid.proofs.Planes.{cells_kept}
use Rattle.labels.specs.Filling.{Sized}
use Rattle.verdicts.specs.Judging.{state_of, Indexed}
use Rattle.orphans.specs.Passing.{Wiped, PassDone, CleanedTo}
use Rattle.base.proofs.Counting.{table_same}

-- ---- a sheet with no cell frozen

-- the planes f hold the sheet of a, and no place of them is frozen
pub record Unfrozen (n : ℕ) (a f : List ℕ) : Type 0 where
  pub len : length f ≡ length a
  pub paint : (q : ℕ) → q < n → plane n 0 f q ≡ plane n 0 a q
  pub thawed : (q : ℕ) → q < n → plane n 4 f q ≡ 0

-- so they do once plane 4 is wiped
pub wiped_unfrozen : {n : ℕ} {a b : List ℕ} → Wiped (4 * n) n a b → Unfrozen n a b
unfolding plane
wiped_unfrozen {n} u = record { len = u.len; paint = λ q l. u.others (0 * n + q) (inl (omega arith)); thawed = u.zeros }

module _ {n : ℕ} {a f : List ℕ} (u : Unfrozen n a f) where
  pub unfrozen_state : (rule : Rule) → rule.places ≡ n → state_of n f ≡ fresh rule (cells_of n a)
  unfolding state_of fresh
  unfrozen_state rule e = rw (e, cells_kept n f a u.paint, table_same n (λ p. not (eqb (plane n 4 f p) 0)) (λ p. false) false (λ p l. rw (u.thawed p l)))

  pub unfrozen_known : {k : ℕ} → Indexed n k a → Indexed n k f
  unfrozen_known i = record { few = i.few; below = λ q l. rw (u.paint q l) (i.below q l) }

-- ---- pass after pass

-- from the planes a on, `count` passes are made, each of which repainted, and the planes are b; at most `max` are asked for
pub record Going (rule : Rule) (n k max : ℕ) (a b : List ℕ) (count : ℕ) : Type 0 where
  pub len : length b ≡ length a
  pub known : Indexed n k b
  pub few : count ≤ max
  pub state : (clean rule max (state_of n a)).state ≡ (clean rule (max - count) (state_of n b)).state
  pub passes : (clean rule max (state_of n a)).count ≡ count + (clean rule (max - count) (state_of n b)).count

module _ (rule : Rule) (n k max : ℕ) (a : List ℕ) where
  pub going_start : Indexed n k a → Going rule n k max a a 0
  going_start known =
      let e : max - 0 ≡ max = omega arith in
      record { len = refl; known = known; few = omega arith; state = rw e; passes = rw e (omega arith) }

  module _ {b : List ℕ} {count : ℕ} (u : Going rule n k max a b count) (l : count < max) where
    abbrev left : ℕ
    left = max - (count + 1)

    one_more : max - count ≡ suc left
    one_more = omega arith

    pub going_on : {c : List ℕ} → PassDone rule n k b c true → Going rule n k max a c (count + 1)
    going_on {c} p =
        let g = clean_go rule left (state_of n b) (sym p.moves) in
        record {
          len = p.len ∙ u.len;
          known = p.known;
          few = omega arith;
          state = u.state ∙ rw (one_more, p.state) (ap (λ (x : Cleaned). x.state) g);
          passes = u.passes ∙ (let f : (clean rule (max - count) (state_of n b)).count ≡ suc (clean rule left (state_of n c)).count = rw (one_more, p.state) (ap (λ (x : Cleaned). x.count) g) in omega arith);
        }

    -- the last pass repaints nothing
    pub going_stops : {c : List ℕ} → PassDone rule n k b c false → CleanedTo (clean rule max (state_of n a)) n k a c count
    going_stops p =
        let g = clean_stop rule left (state_of n b) (sym p.moves) in
        record {
          len = p.len ∙ u.len;
          state = p.state ∙ sym (u.state ∙ rw one_more (ap (λ (x : Cleaned). x.state) g));
          count = let f : (clean rule (max - count) (state_of n b)).count ≡ 0 = rw one_more (ap (λ (x : Cleaned). x.count) g) in omega (arith, u.passes);
          known = p.known;
        }

  -- or there is none left
  pub going_ends : {b : List ℕ} {count : ℕ} → Going rule n k max a b count → max ≤ count → CleanedTo (clean rule max (state_of n a)) n k a b max
  unfolding clean
  going_ends {b} {count} u h =
      let e : max - count ≡ 0 = omega (arith, u.few) in
      record {
        len = u.len;
        state = sym (u.state ∙ rw e);
        count = let f : (clean rule (max - count) (state_of n b)).count ≡ 0 = rw e in omega (arith, u.passes, u.few);
        known = u.known;
      }

-- ---- as the code has it

pub same_size : {h w : ℕ} {a b : List ℕ} → Sized h w a → length b ≡ length a → Sized h w b
same_size s e = record { rows = s.rows; cols = s.cols; planes = rw e s.planes }

-- cleaning begins with no cell frozen
pub cleaned-from : (rule : Rule) (n k max : ℕ) {a f c : List ℕ} {r : ℕ} → rule.places ≡ n → Unfrozen n a f → CleanedTo (clean rule max (state_of n f)) n k f c r → CleanedTo (clean rule max (fresh rule (cells_of n a))) n k a c r
cleaned-from rule n k max e u v =
    let t = unfrozen_state u rule e in
    record {
      len = v.len ∙ u.len;
      state = v.state ∙ ap (λ (s : State). (clean rule max s).state) t;
      count = v.count ∙ ap (λ (s : State). (clean rule max s).count) t;
      known = v.known;
    }
