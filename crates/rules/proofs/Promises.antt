-- What is promised of cleaning by any rule, and of accepted calls of `remove_orphans` and of `run`, holds. Assumes nothing.
use Prim.Native.Nat.{ℕ, suc, ◌*◌, ◌≤◌, ◌<◌}
use mathlib.Core.Path.{◌≡◌, refl, sym, ap, ◌∙◌, subst}
use mathlib.Core.Logic.{◌⊎◌, inl, inr, ⊎_elim}
use mathlib.Core.Bool.{Bool, true}
use mathlib.Core.List.{List, ◌∷◌}
use Rattle.std.specs.Prelude.{None}
use native.Mathlib.Omega.{arith}
use native.Mathlib.Nat.{le_trans}
use lib.IntN.{ℤ, negsuc}
use lib.ListN.{length, get_or, take}
use lib.Seq.{take_all, get_or-take, length-take-le}
use Rattle.base.specs.Refusals.{Row, refusal, unless}
use Rattle.base.proofs.Counting.{clash, no_leb}
use Rattle.base.proofs.Refusing.{rows_none, none_unless, none_answered}
use Rattle.rules.specs.declared.Limits.{Limits}
use Rattle.rules.specs.Sheet.{Sheet, area, sheet_of, sheet_in, over, needed}
use Rattle.rules.specs.Palette.{Palette}
use Rattle.rules.specs.Regions.{at, index, Symmetric}
use Rattle.rules.specs.Pass.{Rule, State, small, smalls, fresh, Cleaned}
use Rattle.rules.specs.Outline.{asked, pads}
use Rattle.rules.specs.Calls.{OrphansCall, RunCall}
use Rattle.rules.specs.Run.{rule_on, rule_for, clean_sheet, clean_sheet_if, limits_of, toned_palette, drawing_of, first_cleaning, outlined_run, cleans_again, second_cleaning, Processing, process}
use Rattle.rules.specs.Rows.{too_short}
use Rattle.rules.specs.Entries.{orphans_refusal, orphans_answer, orphans_cells, run_refusal, run_answer, run_cells, run_palette, facts_of}
use Rattle.rules.specs.Claims.{Apart, KeepsOpaque}
use Rattle.rules.specs.Promises.{WasFrozen, Made, initial, ruled, own_run, Cleans, Agree, with_passes, TwoCalls, CleansIf, before_run, after_run, RunPromise}
use Rattle.rules.proofs.Shown.{cleaned, Frozen, Left, apart, frozen, barred}
use Rattle.rules.proofs.Grids.{ruled_both_ways}
use Rattle.rules.proofs.Runs.{run_length, run_kept, run_once, run_source, run_bounded, runs_large, runs_settled, runs_left, fresh_frozen, fresh-whole}
use Rattle.rules.proofs.Images.{no_repeat}
use Rattle.rules.proofs.Freezing.{was_frozen}
use Rattle.rules.proofs.Sizes.{needed-least, front_over}
use Rattle.rules.proofs.Opacity.{cleaned-alike, met_shown, run_shown, run_opaque}

-- a call that is not refused by row 2 has its cells
roomy : (r : Row) (len need : ℕ) (rs : List Row) → refusal (r ∷ too_short len need ∷ rs) ≡ None → need ≤ len
unfolding too_short
roomy r len need rs e = let l = no_leb {m = suc len} {n = need} (rows_none _ rs (rows_none r _ e).1).0 in omega arith

-- ---- cleaning by any rule whose neighbourhood works both ways round

-- where an index may be decided, two reasons are left
left_free : (rule : Rule) (s : State) (x : ℕ) → rule.free (index (at s.cells x)) ≡ true → Left rule s x → Apart rule s x ⊎ Frozen rule s x
left_free rule s x f (apart a) = inl a
left_free rule s x f (frozen i) = inr i
left_free rule s x f (barred z) = clash f z

module _ (rule : Rule) (symm : Symmetric rule.adj) (start : List ℤ) (len : length start ≡ rule.places) where
  abbrev after : ℕ → List ℤ
  after k = cleaned rule start k

  pub ruled-length : (k : ℕ) → length (after k) ≡ rule.places
  unfolding cleaned fresh
  ruled-length k = run_length rule symm k (initial rule start) len

  -- a cleaning that leaves the rule's cells and reports the rule's count
  pub cleans : (k : ℕ) (left : List ℤ) → ((x : ℕ) → x < rule.places → at left x ≡ at (after k) x) → Cleans rule start (record { passes = k; left = left; count = (ruled rule start k).count })
  unfolding cleaned fresh
  cleans k left same =
      let s = initial rule start in
      record {
        once = run_once rule symm k s len;
        source = λ x h y. let w = (run_source rule symm k s len x y).1 in (w.0, w.1, same x h ∙ w.2);
        bounded = run_bounded rule symm k s len;
        differ = λ i j l m. no_repeat rule symm k s len i j l m;
        cells = same;
        counts = refl;
        kept = λ x h e. same x h ∙ run_kept rule symm k s len x e;
      }

  -- why a small region is left
  reasons : (p : ℕ) → smalls rule start ≤ p → (c : List ℤ) → after p ≡ c → (x : ℕ) → small rule c x ≡ true → rule.free (index (at c x)) ≡ true →
      Apart rule (fresh rule c) x ⊎ WasFrozen rule p (initial rule start) c x
  unfolding Apart fresh cleaned
  reasons p g c e =
      subst (λ (l : List ℤ). (x : ℕ) → small rule l x ≡ true → rule.free (index (at l x)) ≡ true → Apart rule (fresh rule l) x ⊎ WasFrozen rule p (initial rule start) l x) e
      (λ x y f. ⊎_elim inl (λ i. inr (was_frozen rule symm start len p x y i))
      (left_free rule (ruled rule start p).state x f (runs_left rule symm p (initial rule start) len (fresh-whole rule symm start len) g x y)))

  -- two cleanings that write the rule's cells to the front of a list
  module _ (written : List ℤ → List ℤ) (fronts : (k : ℕ) → take rule.places (written (after k)) ≡ after k) where
    left_at : (k x : ℕ) → x < rule.places → at (written (after k)) x ≡ at (after k) x
    unfolding at
    left_at k x l = sym (get_or-take rule.places (written (after k)) x (negsuc 0) l) ∙ ap (λ (c : List ℤ). get_or c x (negsuc 0)) (fronts k)

    abbrev made : ℕ → Made
    made k = record { passes = k; left = written (after k); count = (ruled rule start k).count }

    pub agree : (p q : ℕ) → p ≤ q → Agree rule start (made p) (made q)
    unfolding cleaned fresh
    agree p q h =
        let s = initial rule start in
        let large-same : (x : ℕ) → _ = runs_large rule symm p q s len h in
        let both : (x : ℕ) → x < rule.places → at (after p) x ≡ at (after q) x → at (written (after p)) x ≡ at (written (after q)) x = (λ x l e. left_at p x l ∙ e ∙ sym (left_at q x l)) in
        record {
          repainted_same = λ x l y. both x l (large-same x (run_source rule symm p s len x y).0);
          large-same = λ x l y. both x l (large-same x (rw (fronts p) at y));
          first = cleans p (written (after p)) (left_at p);
          second = cleans q (written (after q)) (left_at q);
          settled = λ g.
              let e = runs_settled rule symm p q s len (fresh_frozen rule symm start len) g h in
              record {
                cells = ap (λ (c : Cleaned). written c.state.cells) e;
                counts = ap (λ (c : Cleaned). c.count) e;
                frozen = ap (λ (c : Cleaned). c.state.frozen) e;
                rest = reasons p g (take rule.places (written (after p))) (sym (fronts p));
              };
        }

  -- any two of the rule's own runs
  pub runs_agree : (p q : ℕ) → p ≤ q → Agree rule start (own_run rule start p) (own_run rule start q)
  unfolding cleaned
  runs_agree = agree (λ c. c) (λ k. take_all rule.places (after k) (omega (arith, ruled-length k)))

-- ---- cleaning a sheet

-- every index may be decided
all_free : (palette : Palette) (limits : Limits) (s : Sheet) (i : ℕ) → (rule_for palette limits s).free i ≡ true
unfolding rule_for rule_on
all_free palette limits s i = refl

module _ (palette : Palette) (limits : Limits) (s : Sheet) (len : length s.cells ≡ area s) where
  abbrev rule : Rule
  rule = rule_for palette limits s

  whole : length s.cells ≡ rule.places
  unfolding rule_for rule_on
  whole = len

  sheet_runs : (p q : ℕ) → p ≤ q → Agree rule s.cells (own_run rule s.cells p) (own_run rule s.cells q)
  sheet_runs = runs_agree rule (ruled_both_ways palette limits s) s.cells whole

  -- a cleaning within `run`
  cleans_if : (on : Bool) (k : ℕ) (left : Sheet) → left ≡ (clean_sheet_if on k palette limits s).sheet → CleansIf on palette limits s k left (clean_sheet_if on k palette limits s).passes
  unfolding clean_sheet_if clean_sheet cleaned
  cleans_if on k left e =
      let size = cleaned-alike on k palette limits s len in
      record {
        made = λ y.
            let e' : left ≡ (clean_sheet k palette limits s).sheet = rw y at e in
            rw y (cleans rule (ruled_both_ways palette limits s) s.cells whole k left.cells (λ x l. ap (λ (t : Sheet). at t.cells x) e'));
        skipped = λ z. (e ∙ ap (λ b. (clean_sheet_if b k palette limits s).sheet) z, ap (λ b. (clean_sheet_if b k palette limits s).passes) z);
        height = ap (λ (t : Sheet). t.height) e ∙ size.height;
        width = ap (λ (t : Sheet). t.width) e ∙ size.width;
        free = all_free palette limits s;
        runs = sheet_runs;
      }

-- ---- `remove_orphans`

module _ (c : OrphansCall) (accepted : orphans_refusal c ≡ None) where
  abbrev called : Rule
  called = rule_for c.palette c.limits (sheet_in c.lent)

  -- the sheet of an accepted call is whole
  orphans_whole : length (sheet_in c.lent).cells ≡ called.places
  unfolding orphans_refusal sheet_of area needed rule_for rule_on
  orphans_whole = length-take-le _ c.lent.cells (roomy _ (length c.lent.cells) _ _ accepted)

  -- any p and q, p at most q, also more passes than a call may ask for
  pub any-passes : (p q : ℕ) → p ≤ q → Agree called (sheet_in c.lent).cells (own_run called (sheet_in c.lent).cells p) (own_run called (sheet_in c.lent).cells q)
  any-passes = runs_agree called (ruled_both_ways c.palette c.limits (sheet_in c.lent)) (sheet_in c.lent).cells orphans_whole

  -- two accepted calls
  pub two_calls : (q work : ℕ) → orphans_refusal (with_passes q work c) ≡ None → c.passes ≤ q → TwoCalls c q work
  unfolding orphans_answer orphans_cells unless clean_sheet cleaned with_passes
  two_calls q work accepted' l =
      let start = (sheet_in c.lent).cells in
      let both_ways = ruled_both_ways c.palette c.limits (sheet_in c.lent) in
      record {
        count = (ruled called start c.passes).count;
        count' = (ruled called start q).count;
        answers = sym (none_answered _ accepted refl);
        answers' = sym (none_answered _ accepted' refl);
        agree = rw (accepted, accepted')
            (agree called both_ways start orphans_whole (λ r. over r c.lent.cells)
            (λ k. front_over _ c.lent.cells called.places (ruled-length called both_ways start orphans_whole k)) c.passes q l);
        free = all_free c.palette c.limits (sheet_in c.lent);
      }

-- ---- `run`

module _ (c : RunCall) (accepted : run_refusal c ≡ None) where
  abbrev came : Sheet
  came = sheet_in c.lent

  abbrev result : Processing
  result = process c

  -- the sheet as it came is whole, and so are the one that the second cleaning meets and the one left
  came-whole : length came.cells ≡ area came
  unfolding run_refusal sheet_of area
  came-whole =
      let l = c.lent in
      length-take-le (l.height * l.width) l.cells (le_trans (needed-least l.height l.width _) (roomy _ (length l.cells) (needed l.height l.width (pads (drawing_of c) came)) _ accepted))

  met_whole : length (outlined_run c).sheet.cells ≡ area (outlined_run c).sheet
  met_whole = (met_shown c came-whole).full

  left-sheet : sheet_of (run_cells c) result.sheet.height result.sheet.width ≡ result.sheet
  unfolding run_cells unless sheet_of area
  left-sheet =
      rw accepted
      (ap (λ (l : List ℤ). record { cells = l; height = result.sheet.height; width = result.sheet.width })
      (front_over result.sheet.cells c.lent.cells (area result.sheet) (run_shown c came-whole).full))

  -- an accepted call
  pub run_promise : RunPromise c
  unfolding run_answer run_palette facts_of process first_cleaning second_cleaning before_run after_run
  run_promise =
      let limits = limits_of c.config in
      record {
        facts = facts_of result.sheet result.palette result.index result.clipped;
        passes = result.passes;
        again = result.again;
        answers = sym (none_answered _ accepted refl);
        first = cleans_if (toned_palette c) limits came came-whole c.config.remove_orphans 5 (first_cleaning c).sheet refl;
        second = cleans_if (outlined_run c).palette limits (outlined_run c).sheet met_whole (cleans_again c.config) 1 _ left-sheet;
        sheet = left-sheet;
        lab = sym (none_unless _ _ accepted refl);
        told = refl;
        opacity = subst (KeepsOpaque (asked c.config.outline) (before_run c)) (sym left-sheet) (run_opaque c came-whole);
      }
