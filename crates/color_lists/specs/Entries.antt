-- The entries over lists of colours, three numbers for each colour: the rows by which each refuses, and what it writes. Definitions only. Assumes nothing.
use Rattle.std.specs.Prelude.{ℕ, zero, suc, ◌+◌, ◌*◌, ◌/◌, ◌%◌, ◌<◌, ◌≡◌, Bool, false, not, ◌&&◌, ◌||◌, Some, List, [], ◌∷◌, ltb, eqb, ℤ, pos, length, get_or, Float}
use Rattle.std.specs.Fn.{Shared}
use Rattle.std.specs.Float.{nan, inf}
use Rattle.base.specs.Places.{any}
use Rattle.base.specs.Outputs.{filled}
use Rattle.base.specs.declared.Refusal.TheVariants.{ListTooShort, WrongLength, ColourOutOfRange, NoEntries}
use Rattle.base.specs.Refusals.{Row, row, refusal, unless}
use Rattle.color.specs.declared.Lab.{Lab}
use Rattle.color.specs.declared.Rgb8.{Rgb8}
use Rattle.color.specs.declared.least.Least.{Least}
use Rattle.color.specs.Least.{lowered}
use Rattle.color.specs.Lab.{entry, within, dist2, distance, rgb8_to_lab, lab_to_rgb8}

-- how many whole colours a list holds
unfoldable pub colours : {A : Type 0} → List A → ℕ
colours list = length list / 3

-- no multiple of 3 numbers
unfoldable pub ragged : {A : Type 0} → List A → Bool
ragged list = not (eqb (length list % 3) 0)

-- more than 256 colours
unfoldable pub crowded : List Float → Bool
crowded palette = ltb 256 (colours palette)

-- a value is NaN or beyond ±1024
unfoldable pub strays : List Float → Bool
strays list = any (length list) (λ i. not (within (get_or list i nan)))

-- what an output becomes: as it was if a row applies, else the new list
unfoldable pub written : {A : Type 0} → List Row → List A → List A → List A
written rows out new = unless (refusal rows) (λ r. out) new

-- each call of f at a place below n gives the value of v there
abbrev pub Gives : {F T : Type 0} → Shared F (ℕ × Unit {0}) T → ℕ → (ℕ → T) → F → Type 0
Gives {F} {T} g n v f = (i : ℕ) (r : T) → i < n → g.post f (i, tt) r → r ≡ v i

-- ---- conversions

-- the colour i of a list with three bytes for each colour
unfoldable pub byte_entry : List ℕ → ℕ → Rgb8
byte_entry list i = record { r = get_or list (3 * i) 0; g = get_or list (3 * i + 1) 0; b = get_or list (3 * i + 2) 0 }

-- the part k of a colour in CIELAB, in the order of a list
unfoldable pub lab_part : Lab → ℕ → Float
lab_part c k = get_or (c.l ∷ c.a ∷ c.b ∷ []) k nan

-- the same of a colour in sRGB
unfoldable pub rgb8_part : Rgb8 → ℕ → ℕ
rgb8_part c k = get_or (c.r ∷ c.g ∷ c.b ∷ []) k 0

-- the number i of the list in CIELAB
unfoldable pub lab_at : List ℕ → ℕ → Float
lab_at rgb8 i = lab_part (rgb8_to_lab (byte_entry rgb8 (i / 3))) (i % 3)

-- the number i of the list in sRGB
unfoldable pub rgb8_at : List Float → ℕ → ℕ
rgb8_at lab i = rgb8_part (lab_to_rgb8 (entry lab (i / 3))) (i % 3)

-- when `rgb8_to_lab` refuses, `room` being the length of its output
unfoldable pub rgb8_to_lab_rows : List ℕ → ℕ → List Row
rgb8_to_lab_rows rgb8 room = row ListTooShort (ltb room (3 * colours rgb8)) ∷ row WrongLength (ragged rgb8) ∷ []

-- its output afterwards
unfoldable pub rgb8_to_lab_out : List ℕ → List Float → List Float
rgb8_to_lab_out rgb8 out =
    written (rgb8_to_lab_rows rgb8 (length out)) out (filled (3 * colours rgb8) (lab_at rgb8) out)

-- when `lab_to_rgb8` refuses
unfoldable pub lab_to_rgb8_rows : List Float → ℕ → List Row
lab_to_rgb8_rows lab room = row ListTooShort (ltb room (3 * colours lab)) ∷ row WrongLength (ragged lab) ∷ row ColourOutOfRange (strays lab) ∷ []

-- its output afterwards
unfoldable pub lab_to_rgb8_out : List Float → List ℕ → List ℕ
lab_to_rgb8_out lab out =
    written (lab_to_rgb8_rows lab (length out)) out (filled (3 * colours lab) (rgb8_at lab) out)

-- ---- distances

-- the distance of the two colours i
unfoldable pub delta_at : List Float → List Float → ℕ → Float
delta_at a b i = distance (entry a i) (entry b i)

-- when `delta_e` refuses
unfoldable pub delta_e_rows : List Float → List Float → ℕ → List Row
delta_e_rows a b room =
    row ListTooShort (ltb room (colours a))
    ∷ row WrongLength (ragged a || ragged b || not (eqb (length a) (length b)))
    ∷ row ColourOutOfRange (strays a || strays b)
    ∷ []

-- its output afterwards
unfoldable pub delta_e_out : List Float → List Float → List Float → List Float
delta_e_out a b out =
    written (delta_e_rows a b (length out)) out (filled (colours a) (delta_at a b) out)

-- the number i of the matrix, which has row after row
unfoldable pub matrix_at : List Float → ℕ → Float
matrix_at palette i = distance (entry palette (i / colours palette)) (entry palette (i % colours palette))

-- when `palette_distance_matrix` refuses
unfoldable pub matrix_rows : List Float → ℕ → List Row
matrix_rows palette room =
    row ListTooShort (ltb room (colours palette * colours palette)) ∷ row WrongLength (ragged palette || crowded palette) ∷ row ColourOutOfRange (strays palette) ∷ []

-- its output afterwards
unfoldable pub matrix_out : List Float → List Float → List Float
matrix_out palette out =
    written (matrix_rows palette (length out)) out (filled (colours palette * colours palette) (matrix_at palette) out)

-- ---- the nearest entry

-- the best for p of a palette's first k entries, from the entry 0 at infinity on: where it stands, and the square of its distance, which is the first of the least
unfoldable pub best_of : List Float → Lab → ℕ → Least
best_of palette p zero = record { at = 0; value = inf false }
best_of palette p (suc k) = lowered (Some (best_of palette p k)) (record { at = k; value = dist2 p (entry palette k) })

-- the index of the entry nearest to the pixel i
unfoldable pub nearest_at : List Float → List Float → ℕ → ℤ
nearest_at pixels palette i = pos (best_of palette (entry pixels i) (colours palette)).at

-- when `nearest_index` refuses
unfoldable pub nearest_rows : List Float → List Float → ℕ → List Row
nearest_rows pixels palette room =
    row ListTooShort (ltb room (colours pixels))
    ∷ row WrongLength (ragged pixels || ragged palette || crowded palette)
    ∷ row ColourOutOfRange (strays pixels || strays palette)
    ∷ row NoEntries (ltb 0 (colours pixels) && eqb (length palette) 0)
    ∷ []

-- its output afterwards
unfoldable pub nearest_out : List Float → List Float → List ℤ → List ℤ
nearest_out pixels palette out =
    written (nearest_rows pixels palette (length out)) out (filled (colours pixels) (nearest_at pixels palette) out)
