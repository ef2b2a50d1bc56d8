-- What printing comes to: a test of the lists, then the text at the buffer's front. Assumes nothing.
use Prim.Native.Nat.{ℕ, ◌*◌}
use mathlib.Core.Path.{◌≡◌, ap, ◌∙◌}
use mathlib.Core.Bool.{Bool, true, false, ◌&&◌}
use mathlib.Core.List.{List}
use native.Mathlib.Nat.{zero-add}
use native.Mathlib.Omega.{arith}
use lib.Dec.{leb}
use lib.IntN.{ℤ}
use lib.Ieee.{Float}
use lib.ListN.{length}
use borrow.Author.Tests.{leb-true}
use Rattle.std.specs.Prelude.{Ok, Err}
use Rattle.base.specs.declared.Refusal.TheVariants.{ListTooShort}
use Rattle.base.proofs.Counting.{left, right}
use Rattle.rules.specs.declared.Facts.{Facts}
use Rattle.silk_text.proofs.Laying.{laid_over}
use Rattle.silk_print.specs.Print.{room_for, lengths_fit, result_fits, printed_answer, printed_buffer, Put, Printable}
use Rattle.silk_print.specs.declared.Printer.{Printer}

pub printed_no : {fits : Bool} → fits ≡ false → (text : List ℕ) → Err ListTooShort ≡ printed_answer fits text
unfolding printed_answer
printed_no z text = rw z

pub buffer_kept : {fits : Bool} → fits ≡ false → (text out : List ℕ) → out ≡ printed_buffer fits text out
unfolding printed_buffer
buffer_kept z text out = rw z

-- once a text is put from the front of a buffer on: what is answered, and the buffer
module _ {fits : Bool} (y : fits ≡ true) {n : ℕ} {text old : List ℕ} {a b : Printer} (f : a.at ≡ 0) (e : a.out.now ≡ old) (p : Put n text a b) where
  pub printed_yes : Ok b.at ≡ printed_answer fits text
  unfolding printed_answer
  printed_yes = rw y (ap Ok (p.next ∙ rw f (zero-add (length text))))

  pub buffer-printed : {new : List ℕ} → new ≡ b.out.now → new ≡ printed_buffer fits text old
  unfolding printed_buffer
  buffer-printed q = rw y (q ∙ rw (f, e) at p.list ∙ laid_over text old)

pub fits_printable : (facts : Facts) (palette : List Float) (cells : List ℤ) (out : List ℕ) → result_fits facts palette cells out ≡ true → {p : Printer} → p.at ≡ 0 → p.out.now ≡ out → Printable facts palette cells p
unfolding result_fits lengths_fit
fits_printable facts palette cells out y {p} f e =
    let sides = leb facts.height 514 && leb facts.width 514 in
    let sizes = sides && leb facts.colours 256 in
    let entries = sizes && leb (3 * facts.colours) (length palette) in
    let sheet = entries && leb (facts.height * facts.width) (length cells) in
    let a : sheet ≡ true = left sheet (leb (room_for facts) (length out)) y in
    let b : entries ≡ true = left entries (leb (facts.height * facts.width) (length cells)) a in
    let c : sizes ≡ true = left sizes (leb (3 * facts.colours) (length palette)) b in
    let d : sides ≡ true = left sides (leb facts.colours 256) c in
    record {
      sizes =
          record {
            high = leb-true facts.height 514 (left (leb facts.height 514) (leb facts.width 514) d);
            wide = leb-true facts.width 514 (right (leb facts.height 514) (leb facts.width 514) d);
            few = leb-true facts.colours 256 (right sides (leb facts.colours 256) c);
          };
      entries = leb-true (3 * facts.colours) (length palette) (right sizes (leb (3 * facts.colours) (length palette)) b);
      sheet = leb-true (facts.height * facts.width) (length cells) (right entries (leb (facts.height * facts.width) (length cells)) a);
      room = omega (arith, f, ap length e, leb-true (room_for facts) (length out) (right sheet (leb (room_for facts) (length out)) y));
    }
