-- `label_regions`: checked, loaded, labelled. Assumes nothing.
use Rattle.std.proofs.Common.{◌≡◌, ◌*◌, take, Err, refl, sym, ◌∙◌, subst, rules, arith}
use Rattle.base.proofs.Refusing.{some_unless, none_unless, some_answered, none_answered, answered_some, answered_none}
use Rattle.rules.specs.Masks.{regions_refusal, regions_answer, regions_labels}
use Rattle.refusals.proofs.Rows.{grid_room}
use Rattle.grid.proofs.Places.{neighbours-eight}
use Rattle.grid.proofs.Planes.{Painted}
use Rattle.grid.proofs.Tiles.{whole_tile, load_whole, paints_plane}
use Rattle.labels.proofs.Answers.{painted-regions, painted_labels}
use Rattle.labels.proofs.label_regions.Goals as goal

pub returns-in_err-grid_refusal : goal.returns-in_err-grid_refusal
unfolding regions_answer regions_labels regions_refusal
returns-in_err-grid_refusal c =
    let r : c.from_residual.result ≡ Err c.in_err-grid_refusal.field-0.0 = search rules in
    let z = answered_some _ c.in_err-grid_refusal.ensures refl in record { value = r ∙ some_answered _ z; labels_after = some_unless _ _ z }

pub load-requires : goal.load-requires
load-requires c =
    let f = (grid_room (answered_none (tt {0}) c.in_ok-grid_refusal.ensures refl)).0 in
    rw c.whole.ensures (whole_tile _ _ _ _ (omega (arith, f.high)) (omega (arith, f.wide)) f.long f.free)

pub invariant_of-grid : goal.invariant_of-grid
invariant_of-grid c =
    let f = (grid_room (answered_none (tt {0}) c.in_ok-grid_refusal.ensures refl)).0 in record { range = (omega (arith, f.high), omega (arith, f.wide)) }

pub label_into-requires : goal.label_into-requires
label_into-requires c =
    let f = grid_room (answered_none (tt {0}) c.in_ok-grid_refusal.ensures refl) in
    record {
      sized = (record { rows = omega (arith, f.0.high); cols = omega (arith, f.0.wide); planes = omega (arith, f.0.free, c.load.auto.work) }, f.1);
      by_index = paints_plane (rw c.whole.ensures at c.load.ensures.paints);
    }

pub returns : goal.returns
unfolding regions_answer regions_labels regions_refusal
returns c =
    let a = c.args in
    let z = answered_none (tt {0}) c.in_ok-grid_refusal.ensures refl in
    let n = a.h * a.w in
    let s : Painted (take n a.cells.now) n c.load.new.work = subst (Painted (take n a.cells.now) n) (sym (rw c.whole.ensures at c.load.ensures.work_after)) (load_whole a.cells.now a.work.now a.h a.w (grid_room z).0.long) in
    record {
      value = none_answered _ z (c.label_into.ensures.value ∙ painted-regions s (neighbours-eight a.w));
      labels_after = none_unless _ _ z (c.label_into.ensures.labels_after ∙ painted_labels s (neighbours-eight a.w) _);
    }
