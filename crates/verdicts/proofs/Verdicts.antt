-- The verdict on a group, from the votes of its poll. Assumes nothing.
use Prim.Native.Nat.{ℕ, suc, ◌+◌, ◌-◌, ◌*◌, ◌≤◌, ◌<◌}
use mathlib.Core.Path.{◌≡◌, refl, sym, ap, ◌∙◌}
use mathlib.Core.Logic.{◌⊎◌, inl, inr, ⊎_elim}
use mathlib.Core.Bool.{Bool, true, false, ◌&&◌}
use mathlib.Core.List.{List}
use Rattle.std.specs.Prelude.{Option, Some}
use native.Mathlib.Decide.{ℕ_discrete}
use native.Mathlib.Omega.{arith}
use borrow.Author.Tests.{ne_eqb}
use lib.Dec.{eqb}
use lib.Ieee.{Float}
use lib.IntN.{ℤ}
use lib.ListN.{get_or, replicate}
use Rattle.base.specs.Places.{table, any}
use Rattle.base.proofs.Counting.{case, clash, both, left, right, not_false, same_test, eqb_yes, yes_eqb, table_at, table-length, any_yes, yes_any, count_same, greatest-is}
use Rattle.rules.specs.Grid.{eight}
use Rattle.rules.specs.Regions.{at, opaque, index, Symmetric}
use Rattle.rules.specs.Palette.{first_least}
use Rattle.rules.specs.Pass.{Rule, State, Verdict, stay, merge, freeze, marked, large, view, votes, top, frequent, judged, merges, freezes, fates, fate}
use Rattle.rules.proofs.Roots.{join_same}
use Rattle.rules.proofs.Passes.{large-opaque, small_or_large}
use Rattle.rules.proofs.More.{target_past}
use Rattle.rules.proofs.Frontier.{fronted_start}
use Rattle.rules.proofs.Groups.{Grouped, waits, group_verdict, group_rest, group-fates, group_acts, group-large}
use Rattle.grid.specs.declared.Grid.{Grid}
use Rattle.grid.specs.Planes.{plane, cells_of, end_of}
use Rattle.grid.proofs.Places.{neighbours_symmetric}
use Rattle.grid.proofs.Planes.{plane_read, cells-size, index_is}
use Rattle.verdicts.specs.declared.Criteria.{Criteria}
use Rattle.verdicts.specs.declared.large.Span.{Span}
use Rattle.verdicts.specs.Steps.{area_of, adjoins}
use Rattle.verdicts.specs.Targets.{entry_distance, candidate, as_number, decision, by_votes}
use Rattle.verdicts.specs.Polling.{ballot, Tallied, Polled, Beside}
use Rattle.verdicts.specs.Judging.{rule_of, state_of, fate_number, Indexed, large_of, Unmarked, Sound, Judged}
use Rattle.verdicts.proofs.Choosing.{peak_none, by_votes_none, by_votes-is, one_target, decision_one}
use Rattle.verdicts.proofs.Agrees.{OnePaint}
use Rattle.verdicts.specs.Groups.{Group, GroupedSheet}
use Rattle.verdicts.proofs.Votes.{kept_none, large_then, large_was, tally_new, polled_still}
use Rattle.verdicts.proofs.Nearby.{neighbours_in}

-- a waiting place, of a rule that may decide every index
waits_yes : (rule : Rule) (s : State) (x : ℕ) → large rule s.cells x ≡ false → rule.free (index (at s.cells x)) ≡ true → marked s.frozen x ≡ false → waits rule s x ≡ true
unfolding waits
waits_yes rule s x l f z = both (both (not_false l) f) (not_false z)

waits_not_large : (rule : Rule) (s : State) (x : ℕ) → large rule s.cells x ≡ true → waits rule s x ≡ false
unfolding waits
waits_not_large rule s x l = rw l

-- what is repainted or frozen has a number
pub number_acts : (w : Verdict) → (merges w ≡ true) ⊎ (freezes w ≡ true) → fate_number w ≡ 0 → ⊥
unfolding merges freezes fate_number
number_acts stay h e = ⊎_elim (λ y. clash y refl) (λ y. clash y refl) h
number_acts (merge c d) h e = omega arith
number_acts (freeze c d) h e = omega arith

-- sound planes are in groups, as the rules' proofs have them
pub sound_grouped : (rule : Rule) (n : ℕ) (a : List ℕ) → rule.places ≡ n → Sound rule n a → Grouped rule (state_of n a) (plane n 1 a)
unfolding state_of
sound_grouped rule n a e s = record {
  size = cells-size n a ∙ sym e;
  room = table-length n _ ∙ sym e;
  shown = λ x l. s.shown x (rw (← e) l);
  region = λ x y h l. s.region x y h (rw (← e) l);
  frozen = λ x y l m. s.frozen x y (rw (← e) l) (rw (← e) m);
}

module _ {grid : Grid} (by : Criteria) (palette : List Float) {a : List ℕ} (sheet : GroupedSheet grid a) (sound : Sound (rule_of grid by palette) (area_of grid) a) where
  abbrev n : ℕ
  n = area_of grid

  abbrev k : ℕ
  k = by.k

  abbrev reach : Float
  reach = by.max_delta

  abbrev rule : Rule
  rule = rule_of grid by palette

  abbrev s : State
  s = state_of n a

  abbrev cells : List ℤ
  cells = cells_of n a

  abbrev group : ℕ → ℕ
  group = plane n 1 a

  abbrev adj : ℕ → ℕ → Bool
  adj = adjoins grid

  sym_rule : Symmetric rule.adj
  unfolding rule_of
  sym_rule = neighbours_symmetric grid.near grid.w

  grouped : Grouped rule s group
  unfolding rule_of
  grouped = sound_grouped rule n a refl sound

  -- q neighbours a place of the group t
  abbrev BesideGroup : ℕ → ℕ → Type 0
  BesideGroup t = Beside grid a (end_of n a t) (end_of n a (suc t))

  module _ {t : ℕ} (g : Group n a t) where
    abbrev lead : ℕ
    lead = plane n 2 a (end_of n a t)

    lead_in : lead < n
    lead_in = (g.places (end_of n a t) (omega arith) g.some).0

    lead-label : group lead ≡ suc t
    lead-label = (g.places (end_of n a t) (omega arith) g.some).1

    module _ (x : ℕ) (lx : x < n) (gx : group x ≡ suc t) where
      some : 0 < group x
      some = omega (arith, gx)

      seen : opaque cells x ≡ true
      seen = (sound.shown x lx).1 some

      stays : waits rule s x ≡ false → 0 ≡ fate_number (fate (fates rule s) x)
      unfolding rule_of fate_number
      stays z = rw (group_rest rule sym_rule s group grouped x lx some z)

      lead-large : large rule cells lead ≡ large rule cells x
      unfolding rule_of state_of
      lead-large = group-large rule sym_rule s group grouped lead x lead_in lx (omega (arith, lead-label)) (lead-label ∙ sym gx)

      -- a large group stays
      pub stays_big : (plane n 5 a lead ≡ 0 → ⊥) → 0 ≡ fate_number (fate (fates rule s) x)
      unfolding large_of state_of
      stays_big z = stays (waits_not_large rule s x (sym lead-large ∙ sym (sound.flags lead lead_in) ∙ rw (ne_eqb (plane n 5 a lead) 0 z)))

      -- ---- the group is small and has no number

      module _ (free : plane n 6 a t ≡ 0) (little : plane n 5 a lead ≡ 0) (known : Indexed n k a) where
        not_large : large rule cells x ≡ false
        unfolding large_of
        not_large = sym lead-large ∙ sym (sound.flags lead lead_in) ∙ rw little

        waiting : waits rule s x ≡ true
        unfolding rule_of state_of
        waiting = waits_yes rule s x not_large refl (case (marked s.frozen x) (λ y. absurd (sound.thawed x t lx gx free y)) (λ z. z))

        abbrev own : ℕ
        own = index (at cells x)

        abbrev near : ℕ → ℕ → Bool
        near q p = eqb (group x) (group p) && adj p q

        abbrev votes_at : ℕ → Bool
        votes_at q = large rule cells q && any n (near q)

        abbrev voters : List Bool
        voters = table n votes_at

        -- who votes is large, and beside a place of the group
        voter_beside : (q : ℕ) → q < n → votes_at q ≡ true → BesideGroup t q × (plane n 5 a q ≡ 0 → ⊥)
        unfolding large_of
        voter_beside q l y =
            let p = any_yes n (near q) (right (large rule cells q) (any n (near q)) y) in
            let e : group x ≡ group p.0 = eqb_yes (left (eqb (group x) (group p.0)) (adj p.0 q) p.2) in
            let i = g.all p.0 p.1 (sym e ∙ gx) in (
              (i.0, i.1, i.2, ap (λ (z : ℕ). adj z q) i.3 ∙ right (eqb (group x) (group p.0)) (adj p.0 q) p.2),
              (λ z. clash (left (large rule cells q) (any n (near q)) y) (sym (sound.flags q l) ∙ rw z)),
            )

        beside_voter : (q : ℕ) → q < n → BesideGroup t q → (plane n 5 a q ≡ 0 → ⊥) → votes_at q ≡ true
        unfolding large_of
        beside_voter q l i z =
            let p = g.places i.0 i.1 i.2 in
            both (sym (sound.flags q l) ∙ rw (ne_eqb (plane n 5 a q) 0 z)) (yes_any n (near q) (plane n 2 a i.0) p.0 (both (yes_eqb (gx ∙ sym p.1)) i.3))

        voter-opaque : (q : ℕ) → q < n → votes_at q ≡ true → opaque cells q ≡ true
        unfolding rule_of
        voter-opaque q l y = large-opaque rule sym_rule cells (cells-size n a) q (left (large rule cells q) (any n (near q)) y)

        marked-is : (q : ℕ) → q < n → marked voters q ≡ votes_at q
        unfolding marked
        marked-is q l = table_at n votes_at false q l

        index_in : (q : ℕ) → q < n → opaque cells q ≡ true → index (at cells q) < k
        index_in q l o = let e = index_is n a q l o in omega (arith, known.below q l)

        top_in : top rule cells ≤ k
        unfolding top rule_of
        top_in =
            let o = index_in x lx seen in
            ⊎_elim (λ e. rw e (omega arith)) (λ y. rw y.3 (index_in y.0 y.1 y.2))
            (greatest-is n (opaque cells) (λ p. index (at cells p)))

        own_is : plane n 0 a lead - 1 ≡ own
        unfolding rule_of state_of
        own_is =
            let u = ⊎_elim (λ y. y) (λ y. clash y not_large) (small_or_large rule sym_rule cells (cells-size n a) x seen) in
            let j = (sound.region x lead u lead_in).1 (gx ∙ sym lead-label) in
            let e = index_is n a lead lead_in ((sound.shown lead lead_in).1 (omega (arith, lead-label))) in
            let i : index (at cells lead) ≡ own = ap index (sym (join_same rule.adj cells j)) in
            omega arith

        -- its fate is the verdict by these voters, with indices below k for targets
        fate-is : fate_number (judged rule own (first_least (frequent rule cells voters) (rule.dist own) k)) ≡ fate_number (fate (fates rule s) x)
        unfolding rule_of state_of group_verdict view
        fate-is =
            ap (λ (o : Option ℕ). fate_number (judged rule own o)) (target_past rule (view rule s) voters (λ q lq y. voter-opaque q lq (sym (marked-is q lq) ∙ y)) own k top_in)
            ∙ sym (ap fate_number (group-fates rule sym_rule s group grouped (large rule cells) (fronted_start rule sym_rule s (cells-size n a)) x lx some ∙ rw waiting))

        -- a voter decides it
        voter_decides : (q : ℕ) → q < n → votes_at q ≡ true → fate_number (fate (fates rule s) x) ≡ 0 → ⊥
        unfolding rule_of state_of
        voter_decides q l v z =
            let p = any_yes n (near q) (right (large rule cells q) (any n (near q)) v) in
            number_acts (fate (fates rule s) x)
            (group_acts rule sym_rule s group grouped (large rule cells) (fronted_start rule sym_rule s (cells-size n a)) x p.0 q lx some waiting p.1
            (eqb_yes (left (eqb (group x) (group p.0)) (adj p.0 q) p.2)) (right (eqb (group x) (group p.0)) (adj p.0 q) p.2) (left (large rule cells q) (any n (near q)) v)) z

        -- all voters have one paint: the verdict is by that index
        pub agreed_fate : (v : ℕ) → OnePaint grid a (end_of n a t) (end_of n a (suc t)) v → as_number (decision (Some (candidate (v - 1) (entry_distance palette (plane n 0 a lead - 1) (v - 1)))) reach) ≡ fate_number (fate (fates rule s) x)
        unfolding rule_of
        agreed_fate v u =
            let q = u.place in
            let l = u.bound in
            let y = beside_voter q l u.beside u.big in
            let index-v : (p : ℕ) → p < n → votes_at p ≡ true → index (at cells p) ≡ v - 1 =
            (λ p lp z. let b = voter_beside p lp z in let e = index_is n a p lp (voter-opaque p lp z) in let f = u.same p lp b.0 b.1 in omega arith) in
            let below : v - 1 < k = rw (index-v q l y) at (index_in q l (voter-opaque q l y)) in
            ap (λ (o : ℕ). as_number (decision (Some (candidate (v - 1) (entry_distance palette o (v - 1)))) reach)) own_is
            ∙ decision_one rule own (v - 1)
            ∙ sym (ap (λ (o : Option ℕ). fate_number (judged rule own o)) (one_target rule cells voters own (v - 1) q l (marked-is q l ∙ y) (λ p lp z. index-v p lp (sym (marked-is p lp) ∙ z)) k below))
            ∙ fate-is

        -- ---- the poll

        module _ (b counts : List ℕ) (fresh : (q : ℕ) → q < n → plane n 5 a q ≡ t + 2 → ⊥) (polled : Polled n (t + 2) (BesideGroup t) a b counts) where
          voter-is : (q : ℕ) → q < n → votes_at q ≡ eqb (plane n 5 b q) (t + 2)
          voter-is q l =
              same_test
              (λ y. let v = voter_beside q l y in yes_eqb (polled.voted q l v.0 v.1))
              (λ y. ⊎_elim (λ f. absurd (fresh q l (sym f ∙ eqb_yes y))) (λ f. beside_voter q l f.1 f.2) (polled.marks q l))

          -- the counts are the votes
          tallied : (c : ℕ) → c < 256 → get_or counts c 0 ≡ votes rule cells voters c
          unfolding votes ballot rule_of
          tallied c lc =
              polled.tally.votes c lc
              ∙ count_same n (ballot n b (t + 2) c) (λ q. marked voters q && eqb (index (at cells q)) c)
              (λ q l y. let y0 = left (eqb (plane n 5 b q) (t + 2)) (eqb (plane n 0 b q) (c + 1)) y in
              let y1 = right (eqb (plane n 5 b q) (t + 2)) (eqb (plane n 0 b q) (c + 1)) y in
              let f : plane n 0 b q ≡ c + 1 = eqb_yes y1 in
              let e0 = polled.kept.same 0 q (λ z. absurd (omega arith)) l in
              let u = voter-is q l ∙ y0 in
              let e = index_is n a q l (voter-opaque q l u) in
              both (marked-is q l ∙ u) (yes_eqb {m = index (at cells q)} (omega arith)))
              (λ q l y. let u = sym (marked-is q l) ∙ left (marked voters q) (eqb (index (at cells q)) c) y in
              let f : index (at cells q) ≡ c = eqb_yes (right (marked voters q) (eqb (index (at cells q)) c) y) in
              let e0 = polled.kept.same 0 q (λ z. absurd (omega arith)) l in
              let e = index_is n a q l (voter-opaque q l u) in
              both (sym (voter-is q l) ∙ u) (yes_eqb {m = plane n 0 b q} {n = c + 1} (omega arith)))

          -- the verdict is that of the votes counted
          pub polled_fate : as_number (by_votes (entry_distance palette (plane n 0 a lead - 1)) counts k reach) ≡ fate_number (fate (fates rule s) x)
          unfolding rule_of
          polled_fate =
              ap (λ (y : ℕ). as_number (by_votes (entry_distance palette y) counts k reach)) own_is
              ∙ by_votes-is rule cells voters own counts k (λ c lc. tallied c (omega (arith, known.few))) (λ q lq y. index_in q lq (voter-opaque q lq (sym (marked-is q lq) ∙ y)))
              ∙ fate-is

          -- a cell that voted decides it
          pub vote_decides : (q : ℕ) → q < n → plane n 5 b q ≡ t + 2 → fate_number (fate (fates rule s) x) ≡ 0 → ⊥
          vote_decides q l e = voter_decides q l (voter-is q l ∙ yes_eqb e)

    -- ---- as the code has it

    number-read : get_or a (6 * n + t) 0 ≡ plane n 6 a t
    number-read = plane_read n 6 t (6 * n + t) a refl

    -- it has a number
    pub judged-done : (get_or a (6 * n + t) 0 ≡ 0 → ⊥) → Judged rule n t a a 0
    judged-done z = record { kept = kept_none n a; large = λ q l. refl; marks = λ q l. inl refl; done = λ y. refl; little = λ y. absurd (y refl); right = λ y. absurd (z (number-read ∙ y)) }

    module _ (span : Span) (ends : (span.from ≡ end_of n a t) × (span.to ≡ end_of n a (suc t))) where
      -- its first place, as it is read
      abbrev seen_first : ℕ
      seen_first = get_or a (2 * n + span.from) 0

      first-read : seen_first ≡ lead
      first-read = plane_read n 2 span.from (2 * n + span.from) a refl ∙ ap (plane n 2 a) ends.0

      pub first_in : seen_first < n
      first_in = rw first-read lead_in

      large-read : get_or a (5 * n + seen_first) 0 ≡ plane n 5 a lead
      large-read = plane_read n 5 seen_first (5 * n + seen_first) a refl ∙ ap (plane n 5 a) first-read

      paint-read : get_or a seen_first 0 ≡ plane n 0 a lead
      paint-read = plane_read n 0 seen_first seen_first a (omega arith) ∙ ap (plane n 0 a) first-read

      pub paint_some : 1 ≤ get_or a seen_first 0
      paint_some = rw paint-read (sheet.shown lead lead_in (λ z. let l = lead-label in omega arith))

      pub paint_most : Indexed n k a → get_or a seen_first 0 ≤ k
      paint_most known = rw paint-read (known.below lead lead_in)

      -- it is large
      pub judged_big : (get_or a (5 * n + seen_first) 0 ≡ 0 → ⊥) → Judged rule n t a a 0
      judged_big z = record { kept = kept_none n a; large = λ q l. refl; marks = λ q l. inl refl; done = λ y. refl; little = λ y. absurd (y refl); right = λ y x l e. stays_big x l e (λ i. z (large-read ∙ i)) }

      -- it is small and has no number
      module _ (free : get_or a (6 * n + t) 0 ≡ 0) (little : get_or a (5 * n + seen_first) 0 ≡ 0) (known : Indexed n k a) where
        free_now : plane n 6 a t ≡ 0
        free_now = sym number-read ∙ free

        little_now : plane n 5 a lead ≡ 0
        little_now = sym large-read ∙ little

        -- one paint is all that large neighbours have
        pub judged_agreed : {v : ℕ} → OnePaint grid a span.from span.to v →
            {r : ℕ} → r ≡ as_number (decision (Some (candidate (v - 1) (entry_distance palette (get_or a seen_first 0 - 1) (v - 1)))) reach) → Judged rule n t a a r
        judged_agreed {v} u e =
            record {
              kept = kept_none n a;
              large = λ q l. refl;
              marks = λ q l. inl refl;
              done = λ x. absurd (x free_now);
              little = λ x. little_now;
              right = λ q x l i. (rw paint-read at e) ∙ agreed_fate x l i free_now little_now known v (rw (ends.0, ends.1) at u);
            }

        module _ (fresh : Unmarked n a t) where
          -- they are polled
          pub judged_polled : {b counts : List ℕ} → Polled n (t + 2) (Beside grid a span.from span.to) a b counts →
              {r : ℕ} → r ≡ as_number (by_votes (entry_distance palette (get_or a seen_first 0 - 1)) counts k reach) → Judged rule n t a b r
          unfolding large_of
          judged_polled {b} {counts} polled {r} e =
              let ne : t + 2 ≡ 0 → ⊥ = (λ x. omega arith) in
              let u : Polled n (t + 2) (BesideGroup t) a b counts = rw (ends.0, ends.1) at polled in
              let right : (x : ℕ) → x < n → group x ≡ suc t → r ≡ fate_number (fate (fates rule s) x) = (λ x l i. (rw paint-read at e) ∙ polled_fate x l i free_now little_now known b counts (fresh free_now) u) in
              record {
                kept = u.kept;
                large = λ q l. elim (ℕ_discrete (plane n 5 a q) 0) [
                  | yes i ↦ (elim (ℕ_discrete (plane n 5 b q) 0) [ yes j ↦ rw (i, j) | no j ↦ absurd (large_was ne u q l j i) ])
                  | no i ↦ rw (ne_eqb (plane n 5 a q) 0 i, ne_eqb (plane n 5 b q) 0 (large_then ne u q l i))
                ];
                marks = λ q l. ⊎_elim inl (λ m. inr (m.0, (λ o. vote_decides lead lead_in lead-label free_now little_now known b counts (fresh free_now) u q l m.0 (sym (right lead lead_in lead-label) ∙ o)))) (u.marks q l);
                done = λ x. absurd (x free_now);
                little = λ x. little_now;
                right = λ x. right;
              }

          -- nobody has voted yet
          pub none_voted : Tallied n a (t + 2) (replicate 256 0)
          none_voted = tally_new n (t + 2) a (fresh free_now)

          -- no neighbour is large: the poll would change nothing
          pub judged_silent : ((i : ℕ) → span.from ≤ i → i < span.to → (q : ℕ) → eight grid.w (plane n 2 a i) q ≡ true → plane n 5 a q ≡ 0) → Judged rule n t a a 0
          unfolding as_number
          judged_silent none =
              judged_polled
              (polled_still n (t + 2) (λ x. omega arith) a (replicate 256 0) none_voted
              (λ q l b large. absurd (large (none b.0 b.1 b.2 q (neighbours_in grid (plane n 2 a b.0) q l b.3)))))
              (ap as_number (by_votes_none _ (replicate 256 0) k 0 reach (peak_none k known.few) refl))
