-- What printing comes to where there is room, and where a text ends in the buffer. Assumes nothing.
use Prim.Native.Nat.{ℕ, ◌≤◌}
use mathlib.Core.Path.{◌≡◌, ap, ◌∙◌}
use mathlib.Core.Bool.{Bool, true}
use mathlib.Core.List.{List}
use native.Mathlib.Omega.{arith}
use lib.ListN.{length, length-append, length-drop}
use borrow.Author.Tests.{le-leb}
use Rattle.rules.specs.Sheet.{over}
use Rattle.silk_print.specs.Print.{refusal_text, refusal_fits, printed_answer, printed_buffer}
use Rattle.std.specs.Prelude.{Result, Ok}
use Rattle.std.specs.Result.{result_unwrap_or}
use Rattle.base.specs.declared.Refusal.{Refusal}
use Rattle.silk_reply.specs.Reply.{Front}

-- a text that fits is put at the front
pub put : (fits : Bool) (text : List ℕ) {old new : List ℕ} {p : Result ℕ Refusal} {r : ℕ} → fits ≡ true → p ≡ printed_answer fits text → new ≡ printed_buffer fits text old → r ≡ result_unwrap_or p 0 →
    Front text old new r
unfolding printed_answer printed_buffer
put fits text {p = p} f a b c =
    let q : p ≡ Ok (length text) = rw f at a in
    record { list = rw f at b; size = c ∙ ap (λ (x : Result ℕ Refusal). result_unwrap_or x 0) q }

pub refusal_put : (n : ℕ) {old new : List ℕ} {p : Result ℕ Refusal} {r : ℕ} → 12 ≤ length old → p ≡ printed_answer (refusal_fits old) (refusal_text n) →
    new ≡ printed_buffer (refusal_fits old) (refusal_text n) old → r ≡ result_unwrap_or p 0 → Front (refusal_text n) old new r
unfolding refusal_fits
refusal_put n {old} h = put (refusal_fits old) (refusal_text n) (le-leb 12 (length old) h)

-- it ends within the buffer
pub within : (text old : List ℕ) {new : List ℕ} → new ≡ over text old → length text ≤ length new
unfolding over
within text old e = rw e (simp (length-append, length-drop) (omega arith))
