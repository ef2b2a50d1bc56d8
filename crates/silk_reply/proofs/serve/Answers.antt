-- What `respond` answers ends within the buffer, and is what is written.
use Rattle.std.proofs.Common.{◌≡◌, ℕ, List, length, take, drop, OnOk, sym, ap, subst, ◌∙◌, arith, length-take-le}
use Rattle.std.proofs.Math.Seq.{take-append_seam}
use Rattle.std.specs.Io.KnownBytes.{Appends}
use Rattle.rules.specs.Sheet.{over}
use Rattle.silk_reply.specs.Reply.{silk_text}
use Rattle.silk_reply.proofs.Putting.{within}
use Rattle.silk_reply.proofs.serve.Goals as goal

-- a text that was written over the front of a buffer stands there
front : (text old : List ℕ) {new : List ℕ} → new ≡ over text old → take (length text) new ≡ text
unfolding over
front text old e = rw e (take-append_seam text (drop (length text) old))

pub returns-clause-bytes_written : goal.returns-clause-bytes_written
returns-clause-bytes_written g c =
    let put = c.respond-count.ensures in
    let answer = silk_text (take c.read_full-n.result.count c.read_full-n.new.buffer) in
    let same : take c.respond-count.result c.respond-count.new.out ≡ answer = ap (λ k. take k c.respond-count.new.out) put.value ∙ front _ _ put.out_after in
    subst (λ l. OnOk c.write_all-written.result (Appends (g.W.Write.contents c.args.to.now) (g.W.Write.contents c.write_all-written.new.self) l)) same c.write_all-written.ensures.bytes

pub slice_bounds-write_all-end : goal.slice_bounds-write_all-end
slice_bounds-write_all-end g c =
    let put = c.respond-count.ensures in
    sym (length-take-le _ _ (omega (arith, put.value, within _ _ put.out_after)))
