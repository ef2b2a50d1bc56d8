-- `print_refusal`: the buffer is tested, then the line is put. Assumes nothing.
use Rattle.std.proofs.Common.{length, ap, arith, rules}
use borrow.Author.Tests.{le-leb, lt-leb}
use Rattle.silk_reader.specs.Reader.{codes, newline}
use Rattle.silk_print.specs.Print.{refusal_fits, refusal_text, number_text}
use Rattle.silk_print.proofs.Digits.{numeral_short}
use Rattle.silk_print.proofs.Printing.{put_three}
use Rattle.silk_print.proofs.Outcome.{printed_no, buffer_kept, printed_yes, buffer-printed}
use Rattle.silk_print.proofs.print_refusal.Goals as goal

pub returns-then-out-lt12-clause-value : goal.returns-then-out-lt12-clause-value
unfolding refusal_fits
returns-then-out-lt12-clause-value c = printed_no (lt-leb 12 _ c.if-out-lt12.true) _

pub returns-then-out-lt12-clause-out_after : goal.returns-then-out-lt12-clause-out_after
unfolding refusal_fits
returns-then-out-lt12-clause-out_after c = buffer_kept (lt-leb 12 _ c.if-out-lt12.true) _ _

pub put_number-requires : goal.put_number-requires
put_number-requires c = omega (arith, numeral_short 2 c.from.result (omega arith), ap length c.new-to.ensures.buffer)

pub put_byte-requires : goal.put_byte-requires
put_byte-requires c = omega (arith, numeral_short 2 c.from.result (omega arith), ap length c.new-to.ensures.buffer)

pub returns-clause-value : goal.returns-clause-value
unfolding refusal_fits refusal_text number_text codes newline
returns-clause-value c =
    let whole = put_three c.put_bytes.ensures c.put_number.ensures c.put_byte.ensures (omega (arith, numeral_short 2 c.from.result (omega arith), ap length c.new-to.ensures.buffer)) in
    printed_yes (le-leb 12 _ c.if-out-lt12.false) c.new-to.ensures.front c.new-to.ensures.buffer (rw c.from.ensures at whole)

pub returns-clause-out_after : goal.returns-clause-out_after
unfolding refusal_fits refusal_text number_text codes newline
returns-clause-out_after c =
    let whole = put_three c.put_bytes.ensures c.put_number.ensures c.put_byte.ensures (omega (arith, numeral_short 2 c.from.result (omega arith), ap length c.new-to.ensures.buffer)) in
    buffer-printed (le-leb 12 _ c.if-out-lt12.false) c.new-to.ensures.front c.new-to.ensures.buffer (rw c.from.ensures at whole) (search rules)
