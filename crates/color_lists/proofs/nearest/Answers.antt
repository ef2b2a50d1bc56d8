-- `nearest`: the next entry against the best so far. Assumes nothing.
use Rattle.std.proofs.Common.{◌≡◌, ◌-◌, ◌*◌, ◌/◌, ◌^◌, ◌<◌, ◌∙◌, ap, sym, length, pos, arith, refl}
use Rattle.std.proofs.lemmas.Int.{ints}
use lib.Ieee.{of_bits}
use lib.ListN.{length-drop}
use mir.Syntax.{w32}
use mir.ValLaws.{to_z_pos}
use Rattle.color.specs.Lab.{entry, dist2}
use Rattle.color.specs.declared.least.Least.{Least}
use Rattle.color_lists.specs.Entries.{colours, best_of}
use Rattle.color_lists.proofs.Fillings.{best_more, best_le, next_colour}
use Rattle.color_lists.proofs.nearest.Goals as goal

pub loop-k-init : goal.loop-k-init
unfolding best_of of_bits
loop-k-init c =
    let e = c.into_iter-k-iterator.ensures.into_iter_gives in
    let s = c.enumerate-k-items.ensures.source in
    let n = c.enumerate-k-items.ensures.count in
    let a = c.chunks_exact.ensures.size in
    let b = c.chunks_exact.ensures.rest in
    rw (e, n, s) (record { size = a; rest = b; inside = omega arith; best = refl })

pub entry-requires : goal.entry-requires
entry-requires c = let h = rw c.in-Some.is at c.next.ensures.steps in omega (arith, h.0.1.1, c.loop-k.invariant.size)

pub loop-k-preserved : goal.loop-k-preserved
loop-k-preserved c =
    let i = c.loop-k.invariant in
    let h = rw c.in-Some.is at c.next.ensures.steps in
    let n = next_colour c.args.palette.now c.in-Some.c.now _ c.loop-k.k-iterator.count (sym i.rest ∙ h.0.1.0) (h.0.1.1 ∙ i.size) in
    let e : c.dist2-value.result ≡ dist2 c.args.p (entry c.args.palette.now c.loop-k.k-iterator.count) = c.dist2-value.ensures ∙ ap (dist2 c.args.p) (c.entry.ensures ∙ n.colour) in
    rw h.2 (record {
      size = h.0.0 ∙ i.size;
      rest = n.past;
      inside = n.inside;
      best = c.lower-best.ensures ∙ rw (i.best, h.1, e) (best_more c.args.palette.now c.args.p c.loop-k.k-iterator.count);
    })

pub overflow_cast-result : goal.overflow_cast-result
unfolding colours
overflow_cast-result c =
    let h = best_le c.args.palette.now c.args.p c.loop-k.k-iterator.count in
    let e = ap (λ (b : Least). b.at) c.loop-k.invariant.best in
    grind (arith, ints, h, e, c.loop-k.invariant.inside)

pub returns : goal.returns
unfolding colours
returns c =
    let i = c.loop-k.invariant in
    let t = rw c.in-None.is at c.next.ensures.steps in
    let n = c.loop-k.k-iterator.count in
    let h = best_le c.args.palette.now c.args.p n in
    let left : length c.args.palette.now - 3 * n < 3 = omega (arith, t.0.1.0, i.size, ap length i.rest, length-drop (3 * n) c.args.palette.now) in
    let k : n ≡ length c.args.palette.now / 3 = omega (arith, left, i.inside) in
    let e : c.loop-k.best.at ≡ (best_of c.args.palette.now c.args.p n).at = ap (λ (b : Least). b.at) i.best in
    let s : c.loop-k.best.at < 2 ^ 31 = omega arith in
    to_z_pos w32 _ s ∙ ap pos (e ∙ ap (λ n. (best_of c.args.palette.now c.args.p n).at) k)
