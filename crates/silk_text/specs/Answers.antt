-- Lists that are filled by reading, and what the answers leave in them. Definitions only. Assumes nothing.
use Rattle.std.specs.Prelude.{ℕ, ◌+◌, ◌&&◌, cond, leb, List, ◌++◌, ℤ, length, take, drop, Float, Result, Ok, Err}
use Rattle.rules.specs.Sheet.{over}
use Rattle.silk_reader.specs.Reader.{Got, got, refused, Reader, chain, ◌>>=◌, give}
use Rattle.silk_text.specs.Format.{File, parse}
use Rattle.silk_reader.specs.Answers.{answer}
use Rattle.base.specs.declared.Refusal.{Refusal}
use Rattle.base.specs.declared.Refusal.TheVariants.{ListTooShort}
use Rattle.silk_reader.specs.declared.head.Head.{Head}

-- a list with another laid over it, from a place on
unfoldable pub laid : {A : Type 0} → ℕ → List A → List A → List A
laid at new old = take at old ++ new ++ drop (at + length new) old

-- what a reader reads, written over a list
unfoldable pub onto : {A : Type 0} → List A → Reader (List A) → Reader (List A)
onto old p = p >>= λ new. give (over new old)

-- the list that a reading leaves; after a refusal it is free
abbrev pub got_list : {A : Type 0} → Result Unit Refusal → List A → List ℕ → Got (List A)
got_list r l rest = chain (answer r rest) (λ _. give l)

-- what was read, with its palette and cells written over lent ones
unfoldable pub lent : List Float → List ℤ → Got File → Got File
lent palette cells g =
    chain g (λ f. give (record { head = f.head; palette = over f.palette palette; cells = over f.cells cells }))

-- a head that was read, and the palette and cells that it leaves; after a refusal they are free
abbrev pub got_file : Result Head Refusal → List Float → List ℤ → List ℕ → Got File
got_file r palette cells rest =
    chain (answer r rest) (λ h. give (record { head = h; palette = palette; cells = cells }))

-- reading into lent lists; those that do not hold 256 colours and 40 by 40 cells are refused as too short
unfoldable pub read_into : List ℕ → List Float → List ℤ → Got File
read_into text palette cells = cond (leb 768 (length palette) && leb 1600 (length cells)) (lent palette cells (parse text)) (refused ListTooShort)

-- the answer to what was read
unfoldable pub read_answer : Got File → Result Head Refusal
read_answer (got f rest) = Ok f.head
read_answer (refused e) = Err e

-- what the lent palette holds then; a refusal leaves it as it was
unfoldable pub read_palette : Got File → List Float → List Float
read_palette (got f rest) palette = f.palette
read_palette (refused e) palette = palette

-- what the lent cells hold then; a refusal leaves them as they were
unfoldable pub read_cells : Got File → List ℤ → List ℤ
read_cells (got f rest) cells = f.cells
read_cells (refused e) cells = cells
