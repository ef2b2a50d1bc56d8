-- A read stands after what was read before; one that failed took nothing.
use Rattle.std.proofs.Common.{◌≡◌, ℕ, ◌+◌, ◌≤◌, List, ◌++◌, length, take, drop, None, Some, sym, ap, ◌∙◌, arith, append_assoc, length-take-le}
use Rattle.std.proofs.lemmas.List.{take-append-drop}
use Rattle.std.proofs.Math.Seq.{take-append-add}
use Rattle.std.specs.Io.KnownBytes.{Consumes, Keeps}
use Rattle.std.specs.declared.option.Option.{Option}
use Rattle.reading.proofs.read_full.Goals.{in-Ok, in-Err+else-ne}
use Rattle.reading.proofs.read_full.Goals as goal

consumes_both : (a b c : Option (List ℕ)) (xs ys : List ℕ) → Consumes a b xs → Consumes b c ys → Consumes a c (xs ++ ys)
consumes_both None b c xs ys p q = tt
consumes_both (Some x) None c xs ys p q = absurd p
consumes_both (Some x) (Some y) None xs ys p q = absurd q
consumes_both (Some x) (Some y) (Some z) xs ys p q = p ∙ ap (λ l. xs ++ l) q ∙ sym (append_assoc xs ys z)

consumes_kept : (a b c : Option (List ℕ)) (xs : List ℕ) → Consumes a b xs → Keeps b c → Consumes a c xs
consumes_kept None b c xs p q = tt
consumes_kept (Some x) None c xs p q = absurd p
consumes_kept (Some x) (Some y) None xs p q = absurd q
consumes_kept (Some x) (Some y) (Some z) xs p q = p ∙ ap (λ l. xs ++ l) (sym q)

seam : (xs ys : List ℕ) (f n : ℕ) → f ≤ length ys → take f ys ≡ take f xs → take (f + n) ys ≡ take f xs ++ take n (drop f ys)
seam xs ys f n within front =
    let rest = drop f ys in
    let kept = take f ys in
    let long : length kept ≡ f = length-take-le f ys within in
    let whole : take (f + n) ys ≡ take (f + n) (kept ++ rest) = ap (take (f + n)) (sym (take-append-drop f ys)) in
    let far : take (f + n) (kept ++ rest) ≡ take (length kept + n) (kept ++ rest) = ap (λ k. take (k + n) (kept ++ rest)) (sym long) in
    whole ∙ far ∙ take-append-add kept rest n ∙ ap (λ l. l ++ take n rest) front

pub loop-preserved : goal.loop-preserved
loop-preserved g c =
    let before = c.loop.invariant in
    let front = c.read_at.ensures.front in
    let bytes = c.read_at.new.buffer in
    let remaining = g.R.Read.remaining in
    elim c.match-read_at.branch [
      | in-Ok w ↦
          let read = w.in-Ok.ensures in
          let more = ap (λ k. take k bytes) w.count-is ∙ seam c.loop.buffer bytes c.loop.count w.in-Ok.n (omega (arith, read.fits)) front in
          record {
            in_bounds = omega (arith, w.count-is, read.fits);
            bytes = rw more (consumes_both _ _ _ _ _ before.bytes read.ok);
          }
      | in-Err+else-ne w ↦
          record {
            in_bounds = omega (arith, w.count-is, before.in_bounds, c.read_at.auto.buffer);
            bytes = rw (w.count-is, front) (consumes_kept _ _ _ _ before.bytes w.in-Err.ensures.err);
          }
    ]
