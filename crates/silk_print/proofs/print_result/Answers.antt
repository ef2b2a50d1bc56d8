-- `print_result`: the lists are tested, then the text is put. Assumes nothing.
use Rattle.std.proofs.Common.{sym, ◌∙◌, rules}
use Rattle.silk_print.specs.Print.{result_fits}
use Rattle.silk_print.proofs.Outcome.{printed_no, buffer_kept, printed_yes, buffer-printed, fits_printable}
use Rattle.silk_print.proofs.print_result.Goals as goal

pub returns-then-not-lengths_fit-clause-value : goal.returns-then-not-lengths_fit-clause-value
unfolding result_fits
returns-then-not-lengths_fit-clause-value c = printed_no (sym c.lengths_fit.ensures ∙ c.if-not-lengths_fit.true) _

pub returns-then-not-lengths_fit-clause-out_after : goal.returns-then-not-lengths_fit-clause-out_after
unfolding result_fits
returns-then-not-lengths_fit-clause-out_after c = buffer_kept (sym c.lengths_fit.ensures ∙ c.if-not-lengths_fit.true) _ _

pub put_result-requires : goal.put_result-requires
unfolding result_fits
put_result-requires c = fits_printable _ _ _ _ (sym c.lengths_fit.ensures ∙ c.if-not-lengths_fit.false) c.new-to.ensures.front c.new-to.ensures.buffer

pub returns-clause-value : goal.returns-clause-value
unfolding result_fits
returns-clause-value c =
    printed_yes (sym c.lengths_fit.ensures ∙ c.if-not-lengths_fit.false) c.new-to.ensures.front c.new-to.ensures.buffer c.put_result.ensures

pub returns-clause-out_after : goal.returns-clause-out_after
unfolding result_fits
returns-clause-out_after c =
    buffer-printed (sym c.lengths_fit.ensures ∙ c.if-not-lengths_fit.false) c.new-to.ensures.front c.new-to.ensures.buffer c.put_result.ensures
    (search rules)
