-- `label_planes`: every place in raster order. Assumes nothing.
use Rattle.std.proofs.Common.{◌≡◌, ◌*◌, List, subst, arith}
use Rattle.grid.specs.Steps.{neighbours}
use Rattle.grid.specs.Planes.{cells_of, Labelled}
use Rattle.grid.proofs.Places.{area}
use Rattle.labels.specs.Filling.{Sized, seen, PlanesKept}
use Rattle.labels.proofs.Filling.{kept_refl, kept_trans}
use Rattle.labels.proofs.Flooding.{start-filled, start_passed, all_labelled}
use Rattle.labels.proofs.Seen.{seen_size, seen_all, cleared_coded, cleared_blank, cleared_kept}
use Rattle.labels.proofs.label.label_planes.Goals as goal

pub clear-requires : goal.clear-requires
clear-requires c = record { n_in_bounds = (c.requires.sized.planes, area _ _ c.requires.sized.rows c.requires.sized.cols); by_index = c.requires.by_index }

pub loop-s-init : goal.loop-s-init
loop-s-init c =
    let g = c.args.g in
    let p = c.requires.sized in
    let k = c.clear.ensures in
    let l = seen_size (g.h * g.w) c.clear.new.work in
    let z : Sized g.h g.w (seen (g.h * g.w) c.clear.new.work) = record { rows = p.rows; cols = p.cols; planes = omega (arith, p.planes, k.size, l) } in
    (start-filled z (cleared_blank k), start_passed z (cleared_blank k), kept_refl _, cleared_coded k c.requires.by_index)

pub begin-t-requires : goal.begin-t-requires
begin-t-requires c = let v = c.loop-s.invariant in record { filled = (v.0, v.3); labelled_to = v.1; s_bound = c.loop-s-test.true }

pub loop-s-preserved : goal.loop-s-preserved
loop-s-preserved c =
    let e = c.begin-t.ensures in
    (e.filled_2.0, e.labelled_to_2, kept_trans c.loop-s.invariant.2 e.since.kept, e.filled_2.1)

pub returns : goal.returns
returns c =
    let g = c.args.g in
    let m = g.h * g.w in
    let l = c.loop-s in
    let v = l.invariant in
    let done : l.s ≡ m = omega arith in
    let kept : PlanesKept m c.args.work.now (seen m l.work) = kept_trans (cleared_kept c.clear.ensures) v.2 in
    let r = subst (λ (x : List _). Labelled (neighbours g.near g.w) (cells_of m c.args.work.now) m x l.t.regions l.t.taken × PlanesKept m c.args.work.now x)
    (seen_all v.3 (λ p lp. v.1.labelled p (omega arith))) (all_labelled v.0 v.1 done kept, kept) in
    record { labelled = r.0; planes_kept = r.1 }
