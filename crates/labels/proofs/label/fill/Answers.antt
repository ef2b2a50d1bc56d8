-- `fill`: nothing joins a region that is alone. Assumes nothing.
use Rattle.std.proofs.Common.{◌*◌, ◌∙◌, arith}
use Rattle.labels.proofs.Flooding.{alone_in, alone_paint, alone_whole}
use Rattle.labels.proofs.Seen.{seen_size, code_kept}
use Rattle.labels.proofs.label.fill.Goals as goal

pub alone-requires : goal.alone-requires
alone-requires c =
    let b = c.requires.0 in
    let z = b.flood.filled.sized in
    (record { rows = z.rows; cols = z.cols; planes = omega (arith, z.planes, seen_size (c.args.g.h * c.args.g.w) c.args.work.now) }, alone_in b)

pub returns-then-alone-clause-filled : goal.returns-then-alone-clause-filled
returns-then-alone-clause-filled c =
    let b = c.requires in
    let a = c.alone.ensures c.if-alone.true in
    (alone_whole b.0 (λ q lq l e same. code_kept b.1 c.args.code.beyond q lq (a.none q l e) (same ∙ alone_paint b.0 b.2)), b.1)
