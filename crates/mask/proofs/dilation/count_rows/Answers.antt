-- `count_rows`: a row of counts behind those that stand. Assumes nothing.
use Rattle.std.proofs.Common.{◌≡◌, ℕ, ap, ◌+◌, ◌-◌, ◌*◌, ◌≤◌, ◌<◌, ◌∙◌, length, take, drop, rules, arith}
use lib.ListN.{length-append, length-drop, length-take}
use lib.Seq.{get_or-take, length-take-le}
use Rattle.base.proofs.Counting.{table-length}
use Rattle.grid.proofs.Tiles.{next_row}
use Rattle.mask.proofs.Lines.{row_below, part_at, part_size, counted_none, counted_front, counted-small, above_at, counted-more}
use Rattle.mask.proofs.dilation.count_rows.Goals as goal

pub loop-y-init : goal.loop-y-init
loop-y-init c = counted_none _ _ _ _ _ (c.fill.ensures.after (search rules) ∙ search rules)

pub add_row-requires-clause-small : goal.add_row-requires-clause-small
add_row-requires-clause-small c =
    let a = c.args in
    let y = c.loop-y.y in
    let d = c.split_at_mut-done in
    λ j l.
    let m : j < a.w = omega (arith, length-take {A = ℕ} a.w d.result.1.now) in
    let within = row_below y a.h a.w c.loop-y-test.true in
    omega (arith, above_at c.loop-y.rows d.result.0.now a.w y (length d.result.0.now - y * a.w) j d.ensures.front (omega (arith, d.ensures.front_len)) m, counted-small c.loop-y.invariant j m)

pub loop-y-preserved : goal.loop-y-preserved
loop-y-preserved c =
    let a = c.args in
    let y = c.loop-y.y in
    let r = c.min-r.result in
    let d = c.split_at_mut-done in
    let line = c.tally_wide.new.line in
    let within = row_below y a.h a.w c.loop-y-test.true in
    let row : length (take (y * a.w + a.w - y * a.w) (drop (y * a.w) a.mask.now)) ≡ a.w = part_size a.mask.now (y * a.w) (y * a.w + a.w - y * a.w) (omega arith) ∙ omega arith in
    let pad = rw row at c.tally_wide.ensures in
    let long : length line ≡ r + (a.w + (r + 1)) = ap length pad ∙ table-length _ _ in
    let behind : a.w ≤ length d.result.1.now =
    let rows = c.split_at_mut-rows.result.0.now in
    omega (arith, next_row a.h a.w, d.ensures.back_len, length-append {A = ℕ} c.fill.new.self (drop a.w rows), length-drop {A = ℕ} a.w rows, length-take {A = ℕ} a.w rows) in
    counted-more a.mask.now c.loop-y.rows d.result.0.now c.add_row.new.next (drop a.w d.result.1.now) line _ _ a.w a.k r y _ _ _ c.min-r.ensures c.loop-y.invariant (omega (arith, d.ensures.back_len))
    d.ensures.front c.add_row.ensures (length-take-le a.w d.result.1.now behind) (omega (arith, d.ensures.front_len)) pad (omega arith)
    (λ j m. get_or-take a.w line j 0 m) (λ j m. part_at line (2 * r + 1) _ j (omega (arith, long)))

pub returns : goal.returns
returns c =
    let all : c.loop-y.y ≡ c.args.h = omega arith in
    counted_front _ c.loop-y.rows _ _ _ _ (rw all at c.loop-y.invariant) (omega (arith, next_row c.args.h c.args.w))
