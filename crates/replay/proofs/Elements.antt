-- A loop that fills a list with what is stored of it, and one that compares a list with that. Assumes nothing.
use Rattle.std.proofs.Common.{◌≡◌, ℕ, ◌+◌, ◌<◌, min, Bool, true, false, not, ◌&&◌, ◌||◌, nat_eq, List, [], length, get_or, drop, refl, ap, ◌∙◌, add-one, arith}
use Rattle.std.proofs.lemmas.List.{drop_all, append-nil}
use Rattle.base.specs.Places.{any, table}
use Rattle.base.specs.Outputs.{filled}
use Rattle.base.proofs.Counting.{get_d_within}
use Rattle.replay.specs.declared.lists.Stored.{Stored}
use Rattle.replay.specs.declared.lists.After.{After}
use Rattle.replay.specs.Kinds.{same_at}
use Rattle.replay.specs.Lists.{element, element_after, stored_list, agrees}

-- ---- filling

-- a list of the stored length, or as long as there is room, that is filled throughout
pub lent : {A : Type 0} (read : ℕ → A) (s : Stored) (room i : ℕ) (l : List A) → length l ≡ min s.len room → i ≡ length l →
    filled i (λ j. read (element s j)) l ≡ stored_list read s room
unfolding filled stored_list
lent read s room i l e h =
    let d : drop i l ≡ [] = drop_all i l (omega arith) in
    rw (d, append-nil) (ap (λ k. table k (λ j. read (element s j))) (h ∙ e))

-- ---- comparing

-- the length is right, and none of the first i elements differs
pub record AlikeSoFar {A : Type 0} (read : ℕ → A) (bits : A → ℕ) (l : List A) (a : After) (i : ℕ) (same : Bool) : Type 0 where
  pub equal : same ≡ (nat_eq (length l) a.before.len && not (any i (λ j. not (same_at read bits l j (element_after a j)))))

pub none_compared : {A : Type 0} {read : ℕ → A} {bits : A → ℕ} {l : List A} {a : After} → AlikeSoFar read bits l a 0 (nat_eq (length l) a.before.len)
unfolding any
none_compared {l} {a} = record { equal = at_start (nat_eq (length l) a.before.len) }
  where
    at_start : (b : Bool) → b ≡ (b && true)
    at_start true = refl
    at_start false = refl

module _ {A : Type 0} {read : ℕ → A} {bits : A → ℕ} {l : List A} {a : After} {i : ℕ} {same : Bool} (w : AlikeSoFar read bits l a i same) where
  pub one_compared : (x y : A) → i < length l → x ≡ get_or l i x → y ≡ read (element_after a i) → AlikeSoFar read bits l a (i + 1) (same && nat_eq (bits x) (bits y))
  unfolding any
  one_compared x y h e f =
      let d : x ≡ get_or l i (read 0) = e ∙ get_d_within l i x (read 0) h in
      record { equal = rw (w.equal, d, f, add-one) (join (nat_eq (length l) a.before.len) (any i (λ j. not (same_at read bits l j (element_after a j)))) (same_at read bits l i (element_after a i))) }
    where
      join : (p q r : Bool) → ((p && not q) && r) ≡ (p && not (not r || q))
      join false q r = refl
      join true false false = refl
      join true false true = refl
      join true true false = refl
      join true true true = refl

  pub all_compared : i ≡ length l → same ≡ agrees a (length l) (same_at read bits l)
  unfolding agrees
  all_compared h = w.equal ∙ ap (λ (n : ℕ). nat_eq (length l) a.before.len && not (any n (λ j. not (same_at read bits l j (element_after a j))))) h
