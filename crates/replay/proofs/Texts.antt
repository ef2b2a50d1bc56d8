-- A loop that puts the numbers of a text over the front of a list. Assumes nothing.
use Rattle.std.proofs.Common.{◌≡◌, ℕ, ◌+◌, ◌-◌, ◌<◌, ◌≤◌, min, List, [], ◌∷◌, ◌++◌, length, take, drop, set, refl, ap, sym, ◌∙◌, add-one, drop-cons, arith}
use Rattle.std.proofs.lemmas.List.{drop_all, take_all, append-nil, append_assoc, take_more_set, take-append-drop, drop-set-lt, length-set}
use Rattle.replay.specs.Texts.{over_within}

-- the first numbers of all stand at the front of the list, and the rest are still to be put
pub record Placed (all old rest now : List ℕ) (count : ℕ) : Type 0 where
  pub list : over_within all old ≡ take count now ++ over_within rest (drop count now)
  pub size : min (length all) (length old) ≡ count + min (length rest) (length now - count)
  pub within : count ≤ length now

-- a number stands at the front of what is over a list that has room for it
over_within_more : (n : ℕ) (rest l : List ℕ) (i : ℕ) → i < length l → over_within (n ∷ rest) (drop i l) ≡ n ∷ over_within rest (drop (i + 1) l)
unfolding over_within
over_within_more n rest l i h = rw (drop-cons l i 0 h, add-one) refl

-- nothing goes over an empty list
over_within_none : (l : List ℕ) → over_within l [] ≡ []
unfolding over_within
over_within_none [] = refl
over_within_none (n ∷ l) = refl

module _ {all old rest now : List ℕ} {count : ℕ} where
  pub one_placed : (n : ℕ) → Placed all old (n ∷ rest) now count → count < length now → Placed all old rest (set now count n) (count + 1)
  one_placed n w h =
      let front : take (count + 1) (set now count n) ≡ take count now ++ n ∷ [] = take_more_set now count n h in
      let back : drop (count + 1) (set now count n) ≡ drop (count + 1) now = drop-set-lt (count + 1) now count n (omega arith) in
      record {
        list = rw (front, back, append_assoc) (w.list ∙ ap (λ l. take count now ++ l) (over_within_more n rest now count h));
        size = rw length-set (w.size ∙ omega arith);
        within = omega (arith, length-set now count n, h);
      }

  -- there is no more room
  pub full : Placed all old rest now count → count ≡ length now → (now ≡ over_within all old) × (count ≡ min (length all) (length old))
  full w h =
      let none : drop count now ≡ [] = drop_all count now (omega arith) in
      let whole : take count now ≡ now = take_all count now (omega arith) in
      (sym (w.list ∙ rw (none, over_within_none rest, append-nil) whole), omega (arith, w.size, h))

-- all are put
pub all_placed : {all old now : List ℕ} {count : ℕ} → Placed all old [] now count → (now ≡ over_within all old) × (count ≡ min (length all) (length old))
unfolding over_within
all_placed {now} {count} w = (sym (w.list ∙ take-append-drop count now), omega (arith, w.size))
