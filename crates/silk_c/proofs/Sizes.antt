-- The facts of an accepted outline, or run, fit 32-bit numbers: sides up to 514, at most 256 colours, and an index among them. Assumes nothing.
use Prim.Native.Nat.{ℕ, ◌≤◌, ◌<◌}
use mathlib.Core.Path.{◌≡◌, refl, sym, subst}
use mathlib.Core.Bool.{Bool, true}
use Rattle.std.specs.Prelude.{Option, None, Some, Result, IfSome, IfOk}
use native.Mathlib.Omega.{arith}
use Rattle.base.specs.declared.Refusal.{Refusal}
use Rattle.base.specs.Refusals.{unless, answered}
use Rattle.base.proofs.Counting.{case}
use Rattle.color.specs.declared.Lab.{Lab}
use Rattle.refusals.proofs.Rows.{sheet_room, palette_room}
use Rattle.outline_entry.proofs.Choosing.{index_below}
use Rattle.rules.specs.declared.Drawing.{Drawing}
use Rattle.rules.specs.declared.Facts.{Facts}
use Rattle.rules.specs.declared.Processed.{Processed}
use Rattle.rules.specs.Calls.{OutlineCall, RunCall}
use Rattle.rules.specs.Entries.{facts_of, outline_refusal, outline_answer, run_refusal, run_answer}
use Rattle.rules.specs.Outline.{canvas, pads, has_ring, line_colour, Choice, reuse, append, replace, choice, chosen_index, chosen_palette, drawn, inked, outline}
use Rattle.rules.specs.Palette.{Palette}
use Rattle.rules.specs.Sheet.{Sheet, sheet_of, sheet_in}
use Rattle.rules.proofs.Sizes.{canvas_sides}
use Rattle.postprocess.proofs.Chain.{left}
use Rattle.c_answers.specs.Outcomes.{index_fact}
use Rattle.c_answers.specs.Room.{FactsFit}

-- ---- the palette after a choice

count-after : (palette : Palette) (c : Lab) (ch : Choice) → palette.count ≤ 256 → chosen_index palette ch < 256 → (chosen_palette palette c ch).count ≤ 256
unfolding chosen_index chosen_palette
count-after palette c (reuse i) h k = h
count-after palette c append h k = omega arith
count-after palette c (replace i) h k = h

-- ---- an outline

outline-small : (may : ℕ → Bool) (how : Drawing) (palette : Palette) (s : Sheet) → s.height ≤ 512 → s.width ≤ 512 → palette.count ≤ 256
    → let o = outline may how palette s in FactsFit (facts_of o.sheet o.palette o.index o.clipped)
unfolding outline drawn inked facts_of
outline-small may how palette s h w k =
    let on = canvas (pads how s) s in
    let c = line_colour palette how.outline in
    let i = index_below may how.fixed_palette palette c k in
    let sides = canvas_sides (pads how s) s h w in
    case (has_ring on)
    (λ y. rw y (record { sizes = record { high = sides.0; wide = sides.1; few = count-after palette c (choice may how.fixed_palette palette c) k i }; index = omega (arith, i) }))
    (λ z. rw z (record { sizes = record { high = sides.0; wide = sides.1; few = k }; index = omega arith }))

-- ---- the entries

-- the index of an entry as a fact
index_fits : (o : Option ℕ) {k : ℕ} → k ≤ 256 → IfSome o (λ i. i < k) → index_fact o ≤ 256
index_fits None few h = omega arith
index_fits (Some i) few h = omega arith

-- what an answer that is no refusal comes to
accepted : {A : Type 0} (o : Option Refusal) (x : A) (P : A → Type 0) → (o ≡ None → P x) → IfOk (answered o x) P
unfolding answered unless
accepted None x P h = h refl
accepted (Some e) x P h = tt

pub drawn-small : (c : OutlineCall) {o : Result Facts Refusal} → o ≡ outline_answer c → IfOk o FactsFit
unfolding outline_answer outline_refusal sheet_of
drawn-small c d =
    subst (λ (o : Result Facts Refusal). IfOk o FactsFit) (sym d)
    (accepted (outline_refusal c) _ FactsFit
    (λ z.
    let r = sheet_room _ z in
    let u = palette_room _ r.1 in
    outline-small (λ i. true) c.how c.palette (sheet_in c.lent) r.0.high r.0.wide u.0.few))

pub processed-small : (c : RunCall) {o : Result Processed Refusal} → o ≡ run_answer c → IfOk o (λ p. FactsFit p.facts)
unfolding run_answer facts_of
processed-small c d =
    subst (λ (o : Result Processed Refusal). IfOk o (λ p. FactsFit p.facts)) (sym d)
    (accepted (run_refusal c) _ (λ p. FactsFit p.facts)
    (λ z.
    let l = left c z in
    record { sizes = record { high = l.high; wide = l.wide; few = l.few }; index = index_fits _ l.few l.index }))
