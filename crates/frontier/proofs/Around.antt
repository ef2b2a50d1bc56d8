-- Absorbing place after place of a group, and group after group of the log. Assumes nothing.
use Prim.Native.Nat.{ℕ, suc, ◌+◌, ◌≤◌, ◌<◌}
use mathlib.Core.Path.{◌≡◌, refl, sym, ap, ◌∙◌}
use mathlib.Core.Logic.{inl, inr, ⊎_elim}
use mathlib.Core.List.{List}
use native.Mathlib.Omega.{arith}
use Rattle.grid.specs.declared.Grid.{Grid}
use Rattle.grid.specs.Planes.{plane, end_of}
use Rattle.verdicts.specs.declared.large.Span.{Span}
use Rattle.verdicts.specs.Steps.{area_of}
use Rattle.verdicts.specs.Groups.{Group}
use Rattle.verdicts.proofs.Keeping.{sheet-few}
use Rattle.verdicts.proofs.Spans.{Within, within_more, more_within, SpanTurn, span_turn, group-stretch}
use Rattle.frontier.specs.Growing.{Matches, MatchesAround, MatchesLogged, Growth, Gained}
use Rattle.frontier.proofs.Turns.{group-within, within-group, LogTurn, log_turn}
use Rattle.frontier.proofs.Gains.{gained_same, gained_trans, gained_alike, matches_now, matches_was}

-- ---- the places of a group

-- q is a neighbour, of its paint, of a place of the group before i
abbrev pub MatchesTo : Grid → List ℕ → ℕ → ℕ → ℕ → Type 0
MatchesTo grid a at i q = Within (end_of (area_of grid) a at) i (λ j. Matches grid a (plane (area_of grid) 2 a j) q)

module _ {grid : Grid} (at : ℕ) {from end i : ℕ} {a b : List ℕ} (u : Gained grid (MatchesTo grid a at i) a b from end) where
  -- what a turn reads is a place of the group
  pub around_turn : {span : Span} → Growth grid from a → Group (area_of grid) a at → (span.from ≡ end_of (area_of grid) a at) × (span.to ≡ end_of (area_of grid) a (suc at)) → end_of (area_of grid) a at ≤ i → i < span.to → SpanTurn (area_of grid) i span a b
  around_turn g group ends low turn =
      span_turn (sheet-few g.sheet) g.sheet.room (group-stretch group ends) u.len (λ q l. u.same 2 q (λ z. absurd (omega arith)) (λ z. absurd (omega arith)) l) (omega (arith, ends.0)) turn

  pub around_on : {c : List ℕ} {last p : ℕ} → end_of (area_of grid) a at ≤ i → p ≡ plane (area_of grid) 2 a i → p < area_of grid → Gained grid (Matches grid b p) b c end last → Gained grid (MatchesTo grid a at (i + 1)) a c from last
  around_on low is place v =
      let lp : plane (area_of grid) 2 a i < area_of grid = rw is at place in
      gained_same
      (λ q l. ⊎_elim (λ z. more_within low (inl z)) (λ z. more_within low (inr (matches_was u (plane (area_of grid) 2 a i) q lp l z))))
      (λ q l z. ⊎_elim inl (λ y. inr (matches_now u (plane (area_of grid) 2 a i) q lp l y)) (within_more z))
      (gained_trans u (rw is at v))

  pub around_all : Group (area_of grid) a at → i ≡ end_of (area_of grid) a (suc at) → Gained grid (MatchesAround grid a at) a b from end
  around_all group last =
      gained_same
      (λ q l z. within-group (λ p. Matches grid a p q) {from = end_of (area_of grid) a at} {to = end_of (area_of grid) a (suc at)} group (refl, refl) (omega arith) z)
      (λ q l z. group-within (λ p. Matches grid a p q) {from = end_of (area_of grid) a at} {to = end_of (area_of grid) a (suc at)} group (refl, refl) (omega arith) z)
      u

-- ---- the groups of the log

module _ {grid : Grid} {first to last i : ℕ} {a b : List ℕ} (u : Gained grid (MatchesLogged grid a first i) a b to last) where
  -- what a turn reads is a group
  pub logged_turn : Growth grid to a → i < to → Group (area_of grid) a (plane (area_of grid) 7 a i) → LogTurn (area_of grid) to i a b
  logged_turn g turn group = log_turn (sheet-few g.sheet) g.sheet.room (omega (arith, g.room)) turn u.len (λ l. u.kept _ turn) group

  pub logged_on : {c : List ℕ} {end at : ℕ} → first ≤ i → at ≡ plane (area_of grid) 7 a i → Gained grid (MatchesAround grid b at) b c last end → Gained grid (MatchesLogged grid a first (i + 1)) a c to end
  logged_on low is v =
      gained_same
      (λ q l. ⊎_elim (λ z. more_within low (inl z)) (λ z. more_within low (inr (z.0, z.1, sym ((gained_alike u).label z.0 z.1) ∙ z.2 ∙ ap suc is, matches_was u z.0 q z.1 l z.3))))
      (λ q l z. ⊎_elim inl (λ y. inr (y.0, y.1, (gained_alike u).label y.0 y.1 ∙ y.2 ∙ ap suc (sym is), matches_now u y.0 q y.1 l y.3)) (within_more z))
      (gained_trans u v)
