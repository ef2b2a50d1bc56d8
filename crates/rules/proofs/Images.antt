-- No image comes back in a run, since each repainting pass leaves fewer small regions; so cleaning that watches for one is cleaning. Assumes nothing.
use Prim.Native.Nat.{ℕ, zero, suc, ◌≤◌, ◌<◌}
use mathlib.Core.Path.{◌≡◌, refl, sym, ap, ◌∙◌, subst}
use mathlib.Core.Logic.{⊎_elim}
use mathlib.Core.Bool.{Bool, true, false, ◌||◌, cond, false≢true}
use mathlib.Core.List.{List, [], ◌∷◌}
use native.Mathlib.Nat.{le_refl, le_trans, le_of_eq, le_of_lt, le_of_suc-le-suc, not-suc-le-zero, lt_irrefl, lt_of_le_of_lt, lt_of_lt_of_le}
use lib.IntN.{ℤ, pos, negsuc}
use lib.ListN.{length}
use Rattle.base.proofs.Counting.{case, left, right, either, eqb_yes}
use Rattle.rules.specs.Regions.{Symmetric}
use Rattle.rules.specs.Pass.{Rule, State, smalls, fates, pass, moves, fresh, Cleaned, clean}
use Rattle.rules.specs.Corners.{same}
use Rattle.rules.specs.Claims.{same_cells, among, watched}
use Rattle.rules.proofs.Passes.{pass-length, fewer_smalls, same-cells}
use Rattle.rules.proofs.Runs.{clean_go, clean_stop, moves_yes, moves_no}

same_yes : (a b : ℤ) → same a b ≡ true → a ≡ b
unfolding same
same_yes (pos i) (pos j) e = ap pos (eqb_yes {m = i} {n = j} e)
same_yes (negsuc i) (negsuc j) e = ap negsuc (eqb_yes {m = i} {n = j} e)
same_yes (pos i) (negsuc j) e = absurd (false≢true e)
same_yes (negsuc i) (pos j) e = absurd (false≢true e)

same-cells_yes : (a b : List ℤ) → same_cells a b ≡ true → a ≡ b
unfolding same_cells
same-cells_yes [] [] e = refl
same-cells_yes [] (y ∷ ys) e = absurd (false≢true e)
same-cells_yes (x ∷ xs) [] e = absurd (false≢true e)
same-cells_yes (x ∷ xs) (y ∷ ys) e =
    let h = same_yes x y (left (same x y) (same_cells xs ys) e) in
    let t = same-cells_yes xs ys (right (same x y) (same_cells xs ys) e) in
    cc

-- every image seen has at least m small regions
data Many (rule : Rule) (m : ℕ) : List (List ℤ) → Type 0 where
  none : Many rule m []
  more : {c : List ℤ} {cs : List (List ℤ)} → m ≤ smalls rule c → Many rule m cs → Many rule m (c ∷ cs)

fewer : {rule : Rule} {m k : ℕ} {cs : List (List ℤ)} → k ≤ m → Many rule m cs → Many rule k cs
fewer h none = none
fewer h (more g t) = more (le_trans h g) (fewer h t)

-- an image with fewer small regions than all those seen is none of them
unseen : {rule : Rule} {m : ℕ} {cs : List (List ℤ)} (c : List ℤ) → smalls rule c < m → Many rule m cs → among c cs ≡ false
unfolding among
unseen c h none = refl
unseen {rule} {m} c h (more {c = d} {cs = cs} g t) =
    case (same_cells c d || among c cs)
    (λ y. ⊎_elim
    (λ e. absurd (lt_irrefl _ (lt_of_lt_of_le h (subst (λ (x : List ℤ). m ≤ smalls rule x) (sym (same-cells_yes c d e)) g))))
    (λ e. absurd (false≢true (sym (unseen c h t) ∙ e)))
    (either (same_cells c d) (among c cs) y))
    (λ z. z)

-- where a test fails, the second of two is taken
second : {A : Type 0} {b : Bool} (x y : A) → b ≡ false → cond b x y ≡ y
second x y z = rw z

watched_go : (rule : Rule) (k : ℕ) (s : State) (seen : List (List ℤ)) → moves rule (fates rule s) ≡ true → among (pass rule s).cells seen ≡ false →
    watched rule (suc k) s seen ≡ record { state = (watched rule k (pass rule s) ((pass rule s).cells ∷ seen)).state; count = suc (watched rule k (pass rule s) ((pass rule s).cells ∷ seen)).count }
unfolding watched pass
watched_go rule k s seen y z = rw (y, watched) (second _ _ z)

watched_stop : (rule : Rule) (k : ℕ) (s : State) (seen : List (List ℤ)) → moves rule (fates rule s) ≡ false → watched rule (suc k) s seen ≡ record { state = pass rule s; count = 0 }
unfolding watched pass
watched_stop rule k s seen z = rw (z, watched)

module _ (rule : Rule) (symm : Symmetric rule.adj) where
  -- a pass that repaints leaves fewer small regions
  fewer_after : (s : State) → length s.cells ≡ rule.places → moves rule (fates rule s) ≡ true → smalls rule (pass rule s).cells < smalls rule s.cells
  fewer_after s len y = let w = moves_yes rule s y in fewer_smalls rule symm s len w.0 w.1

  -- ---- images differ

  -- a run leaves no more small regions than it met
  no_more-smalls : (k : ℕ) (s : State) → length s.cells ≡ rule.places → smalls rule (clean rule k s).state.cells ≤ smalls rule s.cells
  unfolding clean
  no_more-smalls zero s len = le_refl _
  no_more-smalls (suc k) s len =
      case (moves rule (fates rule s))
      (λ y. rw (clean_go rule k s y) (le_trans (no_more-smalls k (pass rule s) (pass-length rule symm s len)) (le_of_lt (fewer_after s len y))))
      (λ z. rw (clean_stop rule k s z) (le_of_eq (ap (smalls rule) (same-cells rule symm s len (moves_no rule symm s len z)))))

  -- the first of a run's repainting passes repaints, and the others follow
  first-repaints : (k j : ℕ) (s : State) → suc j ≤ (clean rule (suc k) s).count → (moves rule (fates rule s) ≡ true) × (j ≤ (clean rule k (pass rule s)).count)
  first-repaints k j s m =
      case (moves rule (fates rule s)) (λ y. (y, le_of_suc-le-suc (rw (clean_go rule k s y) at m))) (λ z. absurd (not-suc-le-zero (rw (clean_stop rule k s z) at m)))

  -- each of them leaves fewer small regions
  fewer_later : (k : ℕ) (s : State) → length s.cells ≡ rule.places → (i j : ℕ) → i < j → j ≤ (clean rule k s).count → smalls rule (clean rule j s).state.cells < smalls rule (clean rule i s).state.cells
  unfolding clean
  fewer_later k s len i zero l m = absurd (not-suc-le-zero l)
  fewer_later zero s len i (suc j) l m = absurd (not-suc-le-zero m)
  fewer_later (suc k) s len zero (suc j) l m =
      let y = (first-repaints k j s m).0 in
      rw (clean_go rule j s y) (lt_of_le_of_lt (no_more-smalls j (pass rule s) (pass-length rule symm s len)) (fewer_after s len y))
  fewer_later (suc k) s len (suc i) (suc j) l m =
      let y = first-repaints k j s m in
      rw (clean_go rule j s y.0, clean_go rule i s y.0) (fewer_later k (pass rule s) (pass-length rule symm s len) i j (le_of_suc-le-suc l) y.1)

  -- so no image comes back
  pub no_repeat : (k : ℕ) (s : State) → length s.cells ≡ rule.places → (i j : ℕ) → i < j → j ≤ (clean rule k s).count → (clean rule i s).state.cells ≡ (clean rule j s).state.cells → ⊥
  no_repeat k s len i j l m e = lt_irrefl _ (subst (λ (c : List ℤ). smalls rule (clean rule j s).state.cells < smalls rule c) e (fewer_later k s len i j l m))

  -- ---- cleaning that watches

  watched-same : (k : ℕ) (s : State) (seen : List (List ℤ)) → length s.cells ≡ rule.places → Many rule (smalls rule s.cells) seen → watched rule k s seen ≡ clean rule k s
  unfolding watched clean
  watched-same zero s seen len m = refl
  watched-same (suc k) s seen len m =
      case (moves rule (fates rule s))
      (λ y. let l = fewer_after s len y in
      let i = watched-same k (pass rule s) ((pass rule s).cells ∷ seen) (pass-length rule symm s len) (more (le_refl _) (fewer (le_of_lt l) m)) in
      watched_go rule k s seen y (unseen (pass rule s).cells l m) ∙ ap (λ (c : Cleaned). record { state = c.state; count = suc c.count }) i ∙ sym (clean_go rule k s y))
      (λ z. watched_stop rule k s seen z ∙ sym (clean_stop rule k s z))

  -- watching for an image that comes back changes no run
  pub unwatched : (k : ℕ) (cells : List ℤ) → length cells ≡ rule.places → watched rule k (fresh rule cells) (cells ∷ []) ≡ clean rule k (fresh rule cells)
  unfolding fresh
  unwatched k cells len = watched-same k (fresh rule cells) (cells ∷ []) len (more (le_refl _) none)
