-- What was read, copied to the lent lists: how many doubles and cells there are, and what a refusal leaves. Assumes nothing.
use Prim.Native.Nat.{ℕ, ◌*◌, ◌≤◌}
use mathlib.Core.Path.{◌≡◌, refl, sym, ap, ◌∙◌, subst}
use mathlib.Core.List.{List, [], ◌∷◌, ◌++◌, flat_map}
use native.Mathlib.Omega.{arith}
use lib.IntN.{ℤ}
use lib.Ieee.{Float}
use lib.ListN.{length, take, drop}
use lib.Seq.{take_at}
use borrow.Author.Tests.{le-leb}
use Rattle.base.specs.declared.Refusal.{Refusal}
use Rattle.rules.specs.Sheet.{over}
use Rattle.silk_reader.specs.Lines.{colour_line, head}
use Rattle.silk_reader.specs.Reader.{Got, got, refused, ◌>>=◌, give, series}
use Rattle.silk_reader.specs.declared.head.Head.{Head}
use Rattle.silk_reader.proofs.Chaining.{chain_first}
use Rattle.silk_text.specs.Format.{doubles, colour_lines, row_line, row_lines, File, lists, file, ended, max_bytes, parse}
use Rattle.silk_text.specs.Answers.{lent, read_into}
use Rattle.silk_text.proofs.Repeating.{series-size}
use Rattle.silk_text.proofs.Whole.{Bounded, head-is, area, row-length, lent_got}

-- ---- how much is read

colours-length : (k : ℕ) (text : List ℕ) {p : List Float} {rest : List ℕ} → colour_lines k text ≡ got p rest → length p ≡ k * 3
unfolding colour_lines doubles
colours-length k text {p} {rest} e =
    let a = chain_first (series 0 k (λ i. colour_line) text) (λ cs. give (flat_map doubles cs)) e in
    let t : got (flat_map doubles a.value) a.rest ≡ got p rest = a.then in
    let q : flat_map doubles a.value ≡ p = cc in
    sym (ap length q) ∙ series-size (λ i. colour_line) doubles 3 (λ i s x end r. refl) k 0 text a.read

rows_length : (h w : ℕ) (text : List ℕ) {c : List ℤ} {rest : List ℕ} → row_lines h w text ≡ got c rest → length c ≡ h * w
unfolding row_lines
rows_length h w text {c} {rest} e =
    let a = chain_first (series 0 h (λ y. row_line w) text) (λ rs. give (flat_map (λ r. r) rs)) e in
    let t : got (flat_map (λ r. r) a.value) a.rest ≡ got c rest = a.then in
    let q : flat_map (λ r. r) a.value ≡ c = cc in
    sym (ap length q) ∙ series-size (λ y. row_line w) (λ r. r) w (λ y s x end r. row-length w s r) h 0 text a.read

-- what was read has few colours and cells, and as many as its head says
pub record Small (f : File) : Type 0 where
  pub bounded : Bounded f.head
  pub entries : length f.palette ≡ 3 * f.head.colours
  pub places : length f.cells ≡ f.head.height * f.head.width

lists-small : (h : Head) (text : List ℕ) {f : File} {rest : List ℕ} → Bounded h → lists h text ≡ got f rest → Small f
unfolding lists
lists-small h text {f} {rest} b e =
    let a = chain_first (colour_lines h.colours text) (λ p. row_lines h.height h.width >>= λ c. give (record { head = h; palette = p; cells = c })) e in
    let d = chain_first (row_lines h.height h.width a.rest) (λ c. give (record { head = h; palette = a.value; cells = c })) a.then in
    let t : got (record { head = h; palette = a.value; cells = d.value }) d.rest ≡ got f rest = d.then in
    let q : record { head = h; palette = a.value; cells = d.value } ≡ f = cc in
    subst Small q (record { bounded = b; entries = omega (arith, colours-length h.colours text a.read); places = rows_length h.height h.width a.rest d.read })

ended_is : (f : File) (text : List ℕ) {g : File} {rest : List ℕ} → ended f text ≡ got g rest → f ≡ g
unfolding ended
ended_is f [] e = cc
ended_is f (c ∷ cs) e = cc

pub parse-small : (text : List ℕ) {f : File} {rest : List ℕ} → parse text ≡ got f rest → Small f
unfolding parse file
parse-small text e =
    let a = chain_first (file (take max_bytes text)) (λ f rest. ended f (rest ++ drop max_bytes text)) e in
    let b = chain_first (head (take max_bytes text)) lists a.read in
    subst Small (ended_is a.value (a.rest ++ drop max_bytes text) a.then) (lists-small b.value b.rest (head-is (take max_bytes text) b.read) b.then)

-- ---- what reading leaves

front : {A : Type 0} (n : ℕ) (new old : List A) → length new ≡ n → take n (over new old) ≡ new
unfolding over
front n new old e = take_at new (drop (length new) old) n e

-- what lists of the code's own were read into, where they are copied from
pub record Handed (text : List ℕ) (palette : List Float) (cells : List ℤ) (h : Head) (colours : List Float) (sheet : List ℤ) : Type 0 where
  pub few : 3 * h.colours ≤ 768
  pub held : h.height * h.width ≤ 1600
  pub read : read_into text palette cells ≡
      got (record { head = h; palette = over (take (3 * h.colours) colours) palette; cells = over (take (h.height * h.width) sheet) cells }) []

module _ (text : List ℕ) (palette : List Float) (cells : List ℤ) (a : 768 ≤ length palette) (b : 1600 ≤ length cells) where
  pub read_no : {e : Refusal} (ownPalette : List Float) (ownCells : List ℤ) → refused e ≡ lent ownPalette ownCells (parse text) → read_into text palette cells ≡ refused e
  unfolding read_into lent
  read_no {e} ownPalette ownCells q = rw (le-leb 768 (length palette) a, le-leb 1600 (length cells) b) (none (parse text) q)
    where
      none : (g : Got File) → refused e ≡ lent ownPalette ownCells g → lent palette cells g ≡ refused e
      none (got f rest) z = cc
      none (refused n) z = sym z

  handed_file : (ownPalette : List Float) (ownCells : List ℤ) {f : File} → parse text ≡ got f [] → Handed text palette cells f.head (over f.palette ownPalette) (over f.cells ownCells)
  unfolding read_into lent
  handed_file ownPalette ownCells {f} e =
      let s = parse-small text e in
      record {
        few = omega (arith, s.bounded.entries);
        held = area s.bounded;
        read = rw (le-leb 768 (length palette) a, le-leb 1600 (length cells) b, e, front (3 * f.head.colours) f.palette ownPalette s.entries, front (f.head.height * f.head.width) f.cells ownCells s.places) refl;
      }

  pub handed : {h : Head} {colours : List Float} {sheet : List ℤ} (ownPalette : List Float) (ownCells : List ℤ) →
      got (record { head = h; palette = colours; cells = sheet }) [] ≡ lent ownPalette ownCells (parse text) → Handed text palette cells h colours sheet
  handed {h} {colours} {sheet} ownPalette ownCells q =
      let l = lent_got ownPalette ownCells (parse text) (sym q) in
      let x : l.file.head ≡ h = ap (λ (x : File). x.head) l.same in
      let y : over l.file.palette ownPalette ≡ colours = ap (λ (x : File). x.palette) l.same in
      let z : over l.file.cells ownCells ≡ sheet = ap (λ (x : File). x.cells) l.same in
      let r = handed_file ownPalette ownCells l.read in
      rw (x, y, z) at r
