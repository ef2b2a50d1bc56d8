-- The fold keeps the least of the entries so far; where it stands at the end. Assumes nothing.
use Rattle.std.proofs.Common.{◌≡◌, ◌∙◌, ℕ, Some, Option, refl, ap, rules, arith}
use Rattle.std.proofs.lemmas.Iterator.{YieldsList-from_range}
use Rattle.std.proofs.lemmas.Iterator.Consumers.{fold_from_yields_List}
use Rattle.color.specs.declared.least.Least.{Least}
use Rattle.color.specs.Least.{lowered}
use Rattle.rules.specs.Outline.{nearest_entry}
use Rattle.outline_entry.specs.Line.{placed}
use Rattle.outline_entry.proofs.Scans.{met, far, scanned, placed-held}
use Rattle.outline_entry.proofs.nearest_entry.Goals as goal

pub returns : goal.returns
unfolding nearest_entry
returns c =
    let v = far c.args.entries.lab.now c.args.entries.k c.args.c in
    let next : Option Least → ℕ → Option Least = (λ best i. Some (lowered best (met v i))) in
    let e : c.fold.result ≡ _ = fold_from_yields_List _ next _ _ c.fold.ensures.ran (YieldsList-from_range 0 c.args.entries.k c.args.entries.k refl (omega arith)) (λ a x b q k. search rules) in
    c.place.ensures ∙ ap placed (e ∙ scanned v c.args.entries.k) ∙ placed-held _ _
