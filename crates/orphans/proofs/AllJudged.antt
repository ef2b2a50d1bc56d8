-- What was judged in a pass tells every fate. Assumes nothing.
use Prim.Native.Nat.{ℕ, ◌-◌, ◌<◌}
use mathlib.Core.Path.{◌≡◌, sym, ◌∙◌}
use mathlib.Core.Logic.{⊎_elim}
use mathlib.Core.Bool.{Bool, true, false}
use mathlib.Core.List.{List}
use native.Mathlib.Omega.{arith}
use lib.Ieee.{Float}
use Rattle.rules.specs.Regions.{Symmetric}
use Rattle.rules.specs.Pass.{Rule, large, fates, fate}
use Rattle.rules.proofs.Roots.{opaque-below}
use Rattle.rules.proofs.Passes.{large-opaque}
use Rattle.rules.proofs.Frontier.{Fronted, fronted_start}
use Rattle.rules.proofs.Groups.{Ready, waits, group_acts, group-large}
use Rattle.grid.specs.declared.Grid.{Grid}
use Rattle.grid.specs.Planes.{plane, cells_of}
use Rattle.grid.proofs.Planes.{cells-size}
use Rattle.verdicts.specs.declared.Criteria.{Criteria}
use Rattle.verdicts.specs.Steps.{area_of}
use Rattle.verdicts.specs.Judging.{rule_of, state_of, large_of}
use Rattle.orphans.proofs.LabelledSheets.{label-below}
use Rattle.frontier.specs.Judging.{Numbered, Stage, Met, Small, AroundLogged}
use Rattle.frontier.proofs.Decisions.{waits_little, judging_end}
use Rattle.verdicts.proofs.Verdicts.{number_acts}
use Rattle.frontier.proofs.Starts.{in_rule, of_rule, stage_ready}
use Rattle.frontier.proofs.Progress.{met_fewer}
use Rattle.orphans.specs.Starting.{AtStart}
use Rattle.orphans.specs.Passing.{AtFrontier}
use Rattle.orphans.proofs.Parts.{AllJudged}
use Rattle.orphans.proofs.AtStart.{start_stage, start-told}

-- the groups that a judging met are those that wait beside the frontier
module _ {rule : Rule} {grid : Grid} {k end : ℕ} {a : List ℕ} (st : Stage rule grid k end a)
    (told : Numbered rule (state_of (area_of grid) a) (plane (area_of grid) 1 a) (plane (area_of grid) 6 a)) {front : ℕ → Bool} (fronted : Fronted rule (state_of (area_of grid) a) front) where
  abbrev n : ℕ
  n = area_of grid

  abbrev symm : Symmetric rule.adj
  symm = st.ruled.symm

  ready : Ready rule (state_of n a) (plane n 1 a) (large_of n a) front
  ready = let r = stage_ready st in record { grouped = r.grouped; flags = r.flags; fronted = fronted }

  pub all_judged : {met : ℕ → Type 0} {b : List ℕ} {mid : ℕ} → Met rule grid k met a b end mid →
      ((x y q : ℕ) → x < n → 0 < plane n 1 a x → large rule (cells_of n a) x ≡ false → y < n → plane n 1 a x ≡ plane n 1 a y → rule.adj y q ≡ true → front q ≡ true → met (plane n 1 a x - 1)) →
      AllJudged rule grid k end mid a b
  unfolding state_of
  all_judged {b = b} u covers = record {
    judged = met_fewer (λ l z. absurd z) u;
    fates = λ x l z. judging_end rule symm (state_of n a) (plane n 1 a) (large_of n a) front ready (plane n 6 a) told (plane n 6 b) _ u.judging all x (in_rule st x l) z;
  }
    where
      all : (x y q : ℕ) → x < rule.places → 0 < plane n 1 a x → waits rule (state_of n a) x ≡ true → y < rule.places → plane n 1 a x ≡ plane n 1 a y → rule.adj y q ≡ true → front q ≡ true →
          plane n 6 b (plane n 1 a x - 1) ≡ 0 → ⊥
      all x y q lx z v ly e t f o =
          let free : plane n 6 a (plane n 1 a x - 1) ≡ 0 = ⊎_elim (λ i. sym i ∙ o) (λ i. i.0) (u.judging.each x lx z) in
          number_acts (fate (fates rule (state_of n a)) x)
          (group_acts rule symm (state_of n a) (plane n 1 a) ready.grouped front fronted x y q lx z v ly e t f)
          (sym (u.numbered x (plane n 1 a x - 1) (of_rule st x lx) (omega arith) (covers x y q (of_rule st x lx) z (waits_little rule (state_of n a) x v) (of_rule st y ly) e t f) free) ∙ o)

-- the first pass, which judges every region: what follows from the contract of `judge_all`
pub first_all_judged : {grid : Grid} {by : Criteria} (palette : List Float) {a b : List ℕ} {count mid : ℕ} → AtStart grid by a count →
    Met (rule_of grid by palette) grid by.k (λ l. l < count) a b 0 mid → AllJudged (rule_of grid by palette) grid by.k 0 mid a b
unfolding state_of
first_all_judged {grid} {by} palette {a} u v =
    let rule = rule_of grid by palette in
    let st = start_stage palette u in
    all_judged st (start-told palette u) (fronted_start rule st.ruled.symm (state_of (area_of grid) a) (cells-size (area_of grid) a ∙ sym st.ruled.size)) v
    (λ x y q lx z s ly e t f. omega (arith, label-below u.sheet x lx, u.full))

-- a later one, which judges beside the frontier: what follows from the contract of `judge_frontier`
pub frontier_all_judged : {rule : Rule} {grid : Grid} {k begin end mid : ℕ} {a b : List ℕ} → AtFrontier rule grid k begin end a →
    Met rule grid k (Small (area_of grid) a (AroundLogged grid a begin end)) a b end mid → AllJudged rule grid k end mid a b
unfolding state_of Symmetric
frontier_all_judged {rule} {grid} {a = a} u v =
    let n = area_of grid in
    let st = u.planes.stage in
    let symm = st.ruled.symm in
    let g = (stage_ready st).grouped in
    all_judged st u.planes.told u.fronted v
    (λ x y q lx z s ly e t f.
    let big = u.fronted.big q f in
    let lq : q < n = of_rule st q (opaque-below rule.places rule.adj (cells_of n a) g.size q (large-opaque rule symm (cells_of n a) g.size q big)) in
    let i = u.listed q lq f in
    record {
      place = y;
      named = (i.0, i.1, i.2, (q, lq, i.3, sym (st.ruled.ways q y) ∙ symm y q t));
      bound = ly;
      little = st.sound.flags y ly ∙ sym (group-large rule symm (state_of n a) (plane n 1 a) g x y (in_rule st x lx) (in_rule st y ly) z e) ∙ s;
      label = sym e ∙ omega arith;
    })
