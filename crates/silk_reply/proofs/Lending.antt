-- What the program may leave unread, and that its lent lists suffice. Assumes nothing.
use Prim.Native.Nat.{ℕ, ◌+◌, ◌*◌, ◌≤◌}
use mathlib.Core.Path.{◌≡◌, refl, ap, ◌∙◌, subst}
use mathlib.Core.Bool.{Bool, true, false}
use mathlib.Core.List.{List, [], ◌∷◌, ◌++◌}
use native.Mathlib.Nat.{mul-le-mul}
use native.Mathlib.Omega.{arith}
use lib.IntN.{pos}
use lib.ListN.{length, take, drop, length-take, length-drop, length-replicate}
use lib.Seq.{take-take}
use borrow.Author.Tests.{le-ltb, eq-eqb}
use Rattle.base.specs.Doubles.{decimal}
use Rattle.rules.specs.Rows.{too_large, too_short, cramped, bad_palette}
use Rattle.rules.specs.Sheet.{needed, over}
use Rattle.silk_text.specs.Answers.{lent}
use Rattle.silk_text.specs.Format.{File, file, ended, max_bytes, parse}
use Rattle.silk_reader.specs.Reader.{Got, got, refused, Reader, chain}
use Rattle.silk_text.proofs.Laying.{over-length}
use Rattle.silk_text.proofs.Whole.{lent_got}
use Rattle.silk_text.proofs.Keeping.{Small, parse-small}
use Rattle.silk_reply.specs.Claims.{Suffices}
use Rattle.silk_reply.specs.Reply.{no_colours, no_cells, got_text, silk_text}
use Rattle.silk_reply.proofs.Fitting.{over-least}

-- ---- 65,537 bytes are enough

ended_same : (f : File) (rest a b : List ℕ) → (length a ≡ 0 → length b ≡ 0) → (length b ≡ 0 → length a ≡ 0) → ended f (rest ++ a) ≡ ended f (rest ++ b)
unfolding ended
ended_same f [] [] [] p q = refl
ended_same f [] [] (y ∷ b) p q = absurd (omega (arith, p refl))
ended_same f [] (x ∷ a) [] p q = absurd (omega (arith, q refl))
ended_same f [] (x ∷ a) (y ∷ b) p q = refl
ended_same f (z ∷ rest) a b p q = refl

chain_same : {A B : Type 0} (g : Got A) (f h : A → Reader B) → ((x : A) (rest : List ℕ) → f x rest ≡ h x rest) → chain g f ≡ chain g h
chain_same (got x rest) f h e = e x rest
chain_same (refused n) f h e = refl

parse-cut : (text : List ℕ) → parse (take 65537 text) ≡ parse text
unfolding parse max_bytes
parse-cut text =
    rw (take-take 65536 65537 text (omega arith))
    (chain_same (file (take 65536 text)) _ _ (λ f rest. ended_same f rest (drop 65536 (take 65537 text)) (drop 65536 text)
    (λ e. omega (arith, e, length-drop 65536 (take 65537 text), length-take 65537 text, length-drop 65536 text))
    (λ e. omega (arith, e, length-drop 65536 (take 65537 text), length-take 65537 text, length-drop 65536 text))))

-- what follows them changes nothing
pub text_cut : (text : List ℕ) → silk_text (take 65537 text) ≡ silk_text text
unfolding silk_text
text_cut text = ap (λ (g : Got File). got_text (lent no_colours no_cells g)) (parse-cut text)

-- ---- the lent lists suffice

needed-most : (h w : ℕ) (pads : Bool) → h ≤ 40 → w ≤ 40 → needed h w pads ≤ 1764
unfolding needed
needed-most h w true a b = mul-le-mul {n₁ = h + 2} {m₁ = w + 2} {n₂ = 42} {m₂ = 42} (omega arith) (omega arith)
needed-most h w false a b = mul-le-mul {n₁ = h} {m₁ = w} {n₂ = 42} {m₂ = 42} (omega arith) (omega arith)

over_suffices : (f : File) → Small f → Suffices (record { head = f.head; palette = over f.palette no_colours; cells = over f.cells no_cells })
unfolding too_large too_short cramped bad_palette no_colours no_cells
over_suffices f s =
    let h = f.head in
    let b = s.bounded in
    let most : (pads : Bool) → needed h.height h.width pads ≤ 1764 = λ pads. needed-most h.height h.width pads b.rows b.columns in
    let room : 1764 ≤ length (over f.cells no_cells) = omega (arith, over-least f.cells no_cells, length-replicate 1764 (pos 0)) in
    let fits : length f.palette ≤ length no_colours = omega (arith, s.entries, b.entries, length-replicate 768 (decimal 0 0)) in
    let full : length (over f.palette no_colours) ≡ 768 = over-length f.palette no_colours fits ∙ length-replicate 768 (decimal 0 0) in
    record {
      sides = rw (le-ltb 512 h.height (omega (arith, b.rows)), le-ltb 512 h.width (omega (arith, b.columns)));
      cells = λ pads. le-ltb (length (over f.cells no_cells)) (needed h.height h.width pads) (omega (arith, most pads));
      work = λ pads. le-ltb 14112 (8 * needed h.height h.width pads) (omega (arith, most pads));
      palette = rw (le-ltb 256 h.colours b.entries, eq-eqb (length (over f.palette no_colours)) 768 full);
    }

-- no text that is read is refused by rows 1 to 4 of `run`
pub suffices : (text : List ℕ) {f : File} {rest : List ℕ} → lent no_colours no_cells (parse text) ≡ got f rest → Suffices f
suffices text e =
    let l = lent_got no_colours no_cells (parse text) e in
    subst Suffices l.same (over_suffices l.file (parse-small text l.read))
