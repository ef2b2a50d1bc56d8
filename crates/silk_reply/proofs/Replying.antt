-- What is printed for a text, by what reading and `run` came to. Assumes nothing.
use Prim.Native.Nat.{ℕ}
use mathlib.Core.Path.{◌≡◌, refl, sym, ap, ◌∙◌}
use mathlib.Core.Bool.{true}
use mathlib.Core.List.{List}
use native.Mathlib.Omega.{arith}
use lib.IntN.{ℤ}
use lib.Ieee.{Float}
use lib.ListN.{length}
use Rattle.rules.specs.Palette.{palette_of}
use Rattle.rules.specs.Sheet.{lent_sheet}
use Rattle.std.specs.Prelude.{Result, Ok, Err}
use Rattle.std.specs.Result.{result_unwrap_or}
use Rattle.base.specs.Numbers.{number}
use Rattle.base.specs.declared.Refusal.{Refusal}
use Rattle.rules.specs.declared.Processed.{Processed}
use Rattle.postprocess.proofs.Chain.{Met}
use Rattle.silk_text.specs.Answers.{read_into, read_answer, read_palette, read_cells, lent}
use Rattle.silk_text.specs.Format.{File, parse}
use Rattle.silk_print.specs.Print.{result_text, refusal_text, result_fits, printed_answer, printed_buffer}
use Rattle.silk_reader.specs.Reader.{Got, got, refused}
use Rattle.silk_reader.specs.declared.head.Head.{Head}
use Rattle.silk_reply.specs.Reply.{no_colours, no_cells, work_size, call_of, Ran, Front, answer_text, sheet_text, got_text, silk_text}
use Rattle.silk_reply.proofs.Fitting.{printed}
use Rattle.silk_reply.proofs.Putting.{put}

-- ---- by what reading came to

-- the lent lists are long enough to be read into
into : (text : List ℕ) → read_into text no_colours no_cells ≡ lent no_colours no_cells (parse text)
unfolding read_into no_colours no_cells
into text = refl

sheet_text_lem : (g : Got File) {h : Head} {palette : List Float} {cells : List ℤ} → Ok h ≡ read_answer g → palette ≡ read_palette g no_colours → cells ≡ read_cells g no_cells →
    got_text g ≡ sheet_text h palette cells
unfolding got_text read_answer read_palette read_cells
sheet_text_lem (got f rest) {h} a b c = let e : f.head ≡ h = cc in rw (e, b, c)
sheet_text_lem (refused n) a b c = let z : ◌≡◌ {A = ℕ} 0 1 = cc in absurd (omega arith)

refusal_text_lem : (g : Got File) {e : Refusal} → Err e ≡ read_answer g → got_text g ≡ refusal_text (number e)
unfolding got_text read_answer
refusal_text_lem (got f rest) a = let z : ◌≡◌ {A = ℕ} 0 1 = cc in absurd (omega arith)
refusal_text_lem (refused m) {e} a = let q : m ≡ e = cc in ap (λ (x : Refusal). refusal_text (number x)) q

module _ (text : List ℕ) {answer : Result Head Refusal} (a : answer ≡ read_answer (read_into text no_colours no_cells)) where
  pub read_sheet : {h : Head} {palette : List Float} {cells : List ℤ} → answer ≡ Ok h → palette ≡ read_palette (read_into text no_colours no_cells) no_colours →
      cells ≡ read_cells (read_into text no_colours no_cells) no_cells → silk_text text ≡ sheet_text h palette cells
  unfolding silk_text
  read_sheet e b c = ap got_text (sym (into text)) ∙ sheet_text_lem (read_into text no_colours no_cells) (sym e ∙ a) b c

  pub read_refused : {n : Refusal} → answer ≡ Err n → silk_text text ≡ refusal_text (number n)
  unfolding silk_text
  read_refused e = ap got_text (sym (into text)) ∙ refusal_text_lem (read_into text no_colours no_cells) (sym e ∙ a)

-- ---- by what `run` came to

-- what the code's call promises, with the margin and the work area as it has them
pub called : (h : Head) (palette : List Float) (cells : List ℤ) {margin : ℤ} {work : ℕ} {answer : Result Processed Refusal} {palette' : List Float} {cells' : List ℤ} →
    margin ≡ h.margin → work ≡ work_size → length cells ≡ 1764 →
    Met (record { lent = lent_sheet cells h.height h.width work; palette = palette_of palette h.colours; config = h.config; saturated = h.saturated; fixed = h.fixed; margin = margin }) answer cells' palette' →
    Ran (call_of h palette cells) answer palette' cells'
unfolding call_of
called h palette cells m k l t = record { answers = rw (m, k) at t.0; colours = rw (m, k) at t.2; sheet = rw (m, k) at t.1; lent = l }

module _ (h : Head) (palette : List Float) (cells : List ℤ) {answer : Result Processed Refusal} {palette' : List Float} {cells' : List ℤ} (c : Ran (call_of h palette cells) answer palette' cells') where
  pub sheet_refused : {n : Refusal} → answer ≡ Err n → sheet_text h palette cells ≡ refusal_text (number n)
  unfolding sheet_text answer_text
  sheet_refused e = rw (← c.answers, e)

  module _ {done : Processed} (e : answer ≡ Ok done) where
    sheet-result : sheet_text h palette cells ≡ result_text done.facts palette' cells'
    unfolding sheet_text answer_text
    sheet-result = rw (← c.answers, e, c.colours, c.sheet)

    -- the result fits, and is put at the front
    pub sheet_put : {old new : List ℕ} {x : Result ℕ Refusal} {r : ℕ} → length old ≡ 32768 →
        x ≡ printed_answer (result_fits done.facts palette' cells' old) (result_text done.facts palette' cells') →
        new ≡ printed_buffer (result_fits done.facts palette' cells' old) (result_text done.facts palette' cells') old → r ≡ result_unwrap_or x 0 → Front (sheet_text h palette cells) old new r
    unfolding result_fits
    sheet_put {old} m u v w =
        let fits : result_fits done.facts palette' cells' old ≡ true = rw (c.colours, c.sheet, m) (printed (call_of h palette cells) c.lent (sym c.answers ∙ e)) in
        rw sheet-result (put _ (result_text done.facts palette' cells') fits u v w)
