-- The whole text: what a checked head says of its sizes, how long a row is, and where the text ends. Assumes nothing.
use Prim.Native.Nat.{ℕ, ◌+◌, ◌-◌, ◌*◌, min, ◌≤◌, ◌<◌}
use mathlib.Core.Path.{◌≡◌, refl, sym, ap, ◌∙◌}
use mathlib.Core.Bool.{true, false}
use mathlib.Core.List.{List, [], ◌∷◌, ◌++◌}
use native.Mathlib.Nat.{le_trans, mul-le-mul, mul-le-mul_right, suc-mul}
use native.Mathlib.Numerals.{add-one}
use native.Mathlib.Omega.{arith}
use lib.Dec.{leb, ltb}
use lib.IntN.{ℤ}
use lib.Ieee.{Float}
use lib.ListN.{length, take, drop, length-take, length-drop, drop_of_length-le}
use Rattle.std.proofs.Common.{take_all}
use borrow.Author.Tests.{ltb-false, leb-true, leb-false}
use Rattle.base.specs.declared.Refusal.{Refusal}
use Rattle.base.specs.declared.Refusal.TheVariants.{SideTooLong, WrongLength, Malformed}
use Rattle.base.specs.Refusals.{refusal, unless}
use Rattle.base.proofs.Counting.{case}
use Rattle.rules.specs.Sheet.{over}
use Rattle.silk_reader.specs.Reader.{Got, got, refused, chain, ◌>>=◌, ◌>>◌, give, bytes, newline, codes, series, cell_at}
use Rattle.silk_reader.specs.Lines.{sizes, passes, outline_line, last_settings, head_of, checked_head, head_end, head}
use Rattle.silk_text.specs.Format.{colour_lines, row_line, row_lines, File, lists, file, ended, max_bytes, parse}
use Rattle.silk_text.specs.Answers.{onto, lent}
use Rattle.silk_reader.specs.declared.head.Head.{Head}
use Rattle.silk_reader.proofs.Chaining.{chain_first}
use Rattle.silk_text.proofs.Repeating.{series-length}

-- sizes that are not refused
pub record Bounded (h : Head) : Type 0 where
  pub rows : h.height ≤ 40
  pub columns : h.width ≤ 40
  pub entries : h.colours ≤ 256

checked_is : (h : Head) (text : List ℕ) {g : Head} {rest : List ℕ} → checked_head h text ≡ got g rest → Bounded g
unfolding checked_head refusal unless
checked_is h text {g} {rest} e =
    case (ltb 40 h.height) (λ y. no (refused_by y)) (λ a.
    case (ltb 40 h.width) (λ y. no (refused_by_width a y)) (λ b.
    case (ltb 256 h.colours) (λ y. no (refused_by_colours a b y)) (λ d.
    let q : checked_head h text ≡ got h text = rw (a, b, d) in
    let s : h ≡ g = cc in
    rw (← s) (record { rows = ltb-false 40 h.height a; columns = ltb-false 40 h.width b; entries = ltb-false 256 h.colours d }))))
  where
    no : {n : Refusal} → checked_head h text ≡ refused n → Bounded g
    no r = cc

    refused_by : ltb 40 h.height ≡ true → checked_head h text ≡ refused SideTooLong
    refused_by y = rw y

    refused_by_width : ltb 40 h.height ≡ false → ltb 40 h.width ≡ true → checked_head h text ≡ refused SideTooLong
    refused_by_width a y = rw (a, y)

    refused_by_colours : ltb 40 h.height ≡ false → ltb 40 h.width ≡ false → ltb 256 h.colours ≡ true → checked_head h text ≡ refused WrongLength
    refused_by_colours a b y = rw (a, b, y)

pub head-is : (text : List ℕ) {h : Head} {rest : List ℕ} → head text ≡ got h rest → Bounded h
unfolding head
head-is text e =
    let a = chain_first (sizes text) (λ s. passes >>= λ p. outline_line >>= λ kind. head_end s p kind) e in
    let b = chain_first (passes a.rest) (λ p. outline_line >>= λ kind. head_end a.value p kind) a.then in
    let c = chain_first (outline_line b.rest) (λ kind. head_end a.value b.value kind) b.then in
    let d = chain_first (last_settings c.rest) (λ last. checked_head (head_of a.value b.value c.value last)) c.then in
    checked_is (head_of a.value b.value c.value d.value) d.rest d.then

-- the sheet of such a head fits where 1600 cells do
pub area : {h : Head} → Bounded h → h.height * h.width ≤ 1600
area b = mul-le-mul {n₁ = _} {m₁ = _} {n₂ = 40} {m₂ = 40} b.rows b.columns

pub row-length : (w : ℕ) (text : List ℕ) {r : List _} {rest : List ℕ} → row_line w text ≡ got r rest → length r ≡ w
unfolding row_line
row-length w text {r} {rest} e =
    let a = chain_first (bytes (codes "row=") text) (λ _. series 0 w cell_at >>= λ x. bytes newline >> give x) e in
    let b = chain_first (series 0 w cell_at a.rest) (λ x. bytes newline >> give x) a.then in
    let c = chain_first (bytes newline b.rest) (λ _. give b.value) b.then in
    let t : got b.value c.rest ≡ got r rest = c.then in
    let q : b.value ≡ r = cc in
    sym (ap length q) ∙ series-length cell_at w 0 a.rest b.read

pub ended_none : (f : File) (rest beyond : List ℕ) → length rest ≡ 0 → length beyond ≡ 0 → ended f (rest ++ beyond) ≡ got f []
unfolding ended
ended_none f [] [] e d = refl
ended_none f [] (x ∷ beyond) e d = absurd (omega arith)
ended_none f (x ∷ rest) beyond e d = absurd (omega arith)

pub ended-more : (f : File) (rest beyond : List ℕ) → 0 < length rest + length beyond → ended f (rest ++ beyond) ≡ refused Malformed
unfolding ended
ended-more f [] [] h = absurd (omega arith)
ended-more f [] (x ∷ beyond) h = refl
ended-more f (x ∷ rest) beyond h = refl

-- ---- rows of w cells

module _ (h w n y : ℕ) (fits : h * w ≤ n) (inside : y < h) where
  pub row_end : (y + 1) * w ≤ n
  row_end = le_trans (mul-le-mul_right {m = y + 1} {n = h} w (omega arith)) fits

  pub row_fits : y * w + w ≤ n
  row_fits =
      let e : (y + 1) * w ≡ y * w + w = rw (add-one y) (suc-mul y w) in
      omega (arith, row_end)

pub part_length : (h w y : ℕ) (cells : List ℤ) → h * w ≤ length cells → y < h → length (take ((y + 1) * w - y * w) (drop (y * w) cells)) ≡ w
part_length h w y cells fits inside =
    let e : (y + 1) * w ≡ y * w + w = rw (add-one y) (suc-mul y w) in
    simp (length-take, length-drop) (omega (arith, row_fits h w (length cells) y fits inside))

-- ---- the lines after the head's, and the lent lists

module _ (h : Head) (text : List ℕ) where
  module _ {p : List Float} {r : List ℕ} (e : colour_lines h.colours text ≡ got p r) where
    pub lists_yes : {c : List ℤ} {end : List ℕ} → row_lines h.height h.width r ≡ got c end → lists h text ≡ got (record { head = h; palette = p; cells = c }) end
    unfolding lists
    lists_yes f = rw (e, f)

-- what a file written over lent lists says of the file
pub record Lent (palette : List Float) (cells : List ℤ) (g : Got File) (e : File) (rest : List ℕ) : Type 0 where
  pub file : File
  pub read : g ≡ got file rest
  pub same : record { head = file.head; palette = over file.palette palette; cells = over file.cells cells } ≡ e

pub lent_got : (palette : List Float) (cells : List ℤ) (g : Got File) {e : File} {rest : List ℕ} → lent palette cells g ≡ got e rest → Lent palette cells g e rest
unfolding lent
lent_got palette cells (got f end) {e} {rest} q =
    let s : end ≡ rest = cc in record { file = f; read = ap (got f) s; same = cc }
lent_got palette cells (refused n) q = cc

-- what a reading writes over lent lists, one step after the other

pub lists_steps : (palette : List Float) (cells : List ℤ) (h : Head) (text : List ℕ) →
    lent palette cells (lists h text) ≡
    chain (onto palette (colour_lines h.colours) text) (λ p rest. chain (onto cells (row_lines h.height h.width) rest) (λ c end. got (record { head = h; palette = p; cells = c }) end))
unfolding lent lists onto
lists_steps palette cells h text = colours (colour_lines h.colours text)
  where
    rows : (p : List Float) (g : Got (List ℤ)) →
        lent palette cells (chain g (λ c. give (record { head = h; palette = p; cells = c }))) ≡
        chain (chain g (λ c. give (over c cells))) (λ c end. got (record { head = h; palette = over p palette; cells = c }) end)
    rows p (got c end) = refl
    rows p (refused e) = refl

    colours : (g : Got (List Float)) →
        lent palette cells (chain g (λ p. row_lines h.height h.width >>= λ c. give (record { head = h; palette = p; cells = c }))) ≡
        chain (chain g (λ p. give (over p palette))) (λ p rest. chain (chain (row_lines h.height h.width rest) (λ c. give (over c cells))) (λ c end. got (record { head = h; palette = p; cells = c }) end))
    colours (got p rest) = rows p (row_lines h.height h.width rest)
    colours (refused e) = refl

pub file_steps : (palette : List Float) (cells : List ℤ) (text : List ℕ) → lent palette cells (file text) ≡ chain (head text) (λ h rest. lent palette cells (lists h rest))
unfolding lent file
file_steps palette cells text = steps (head text)
  where
    steps : (g : Got Head) → lent palette cells (chain g lists) ≡ chain g (λ h rest. lent palette cells (lists h rest))
    steps (got h rest) = refl
    steps (refused e) = refl

-- ---- the text's end

ended_lent : (palette : List Float) (cells : List ℤ) (f : File) (l : List ℕ) →
    lent palette cells (ended f l) ≡ ended (record { head = f.head; palette = over f.palette palette; cells = over f.cells cells }) l
unfolding lent ended
ended_lent palette cells f [] = refl
ended_lent palette cells f (x ∷ l) = refl

pub text_steps : (palette : List Float) (cells : List ℤ) (text : List ℕ) →
    lent palette cells (parse text) ≡ chain (lent palette cells (file (take max_bytes text))) (λ f rest. ended f (rest ++ drop max_bytes text))
unfolding lent parse
text_steps palette cells text = steps (file (take max_bytes text))
  where
    steps : (g : Got File) → lent palette cells (chain g (λ f rest. ended f (rest ++ drop max_bytes text))) ≡ chain (lent palette cells g) (λ f rest. ended f (rest ++ drop max_bytes text))
    steps (got f rest) = ended_lent palette cells f (rest ++ drop max_bytes text)
    steps (refused e) = refl

-- the text in two parts, of which the first is read
pub parts_steps : (palette : List Float) (cells : List ℤ) (text : List ℕ) {n : ℕ} {part beyond : List ℕ} → n ≡ min (length text) 65536 → part ≡ take n text → beyond ≡ drop n text →
    lent palette cells (parse text) ≡ chain (lent palette cells (file part)) (λ f rest. ended f (rest ++ beyond))
unfolding max_bytes
parts_steps palette cells text {n} {part} {beyond} e a b =
    case (leb (length text) 65536)
    (λ y. let h = leb-true (length text) 65536 y in
    let p : part ≡ take 65536 text = a ∙ take_all n text (omega (arith, e)) ∙ sym (take_all 65536 text h) in
    let q : beyond ≡ drop 65536 text = b ∙ drop_of_length-le text {i = n} (omega (arith, e)) ∙ sym (drop_of_length-le text {i = 65536} h) in
    rw (p, q) (text_steps palette cells text))
    (λ z. let h = leb-false (length text) 65536 z in
    let m : n ≡ 65536 = omega (arith, e) in
    let p : part ≡ take 65536 text = a ∙ ap (λ (k : ℕ). take k text) m in
    let q : beyond ≡ drop 65536 text = b ∙ ap (λ (k : ℕ). drop k text) m in
    rw (p, q) (text_steps palette cells text))
