-- Readers of text, a list of bytes: each gives a value and the text that is left, or a refusal. Definitions only. Assumes nothing.
use Rattle.std.specs.Prelude.{ℕ, zero, suc, ◌+◌, ◌-◌, ◌*◌, Bool, not, ◌&&◌, ◌||◌, cond, List, [], ◌∷◌, leb, eqb, ℤ, pos, neg_ℤ, length, get_or, drop}
use Rattle.base.specs.declared.Refusal.{Refusal}
use Rattle.base.specs.declared.Refusal.TheVariants.{Malformed}
use Prim.Native.Char.{code}
use Prim.Native.String.{String, [] as ε, ◌∷◌ as ◌◂◌}

-- what reading comes to
pub data Got (A : Type 0) : Type 0 where
  got : A → List ℕ → Got A
  refused : Refusal → Got A

-- what a text is read as
abbrev pub Reader : Type 0 → Type 0
Reader A = List ℕ → Got A

-- ---- one after the other

-- on with what was got; a refusal stays
abbrev pub chain : {A B : Type 0} → Got A → (A → Reader B) → Got B
chain (got x rest) f = f x rest
chain (refused n) f = refused n

infixl 40 ◌>>=◌ ◌>>◌ ◌or◌
-- one reader after another, which takes the value of the first
abbrev pub ◌>>=◌ : {A B : Type 0} → Reader A → (A → Reader B) → Reader B
◌>>=◌ p f text = chain (p text) f

-- the same where the second takes nothing
abbrev pub ◌>>◌ : {A B : Type 0} → Reader A → Reader B → Reader B
◌>>◌ p q text = chain (p text) (λ x. q)

-- the value, with nothing read
abbrev pub give : {A : Type 0} → A → Reader A
give x text = got x text

-- the first, unless it is a refusal
abbrev pub or_else : {A : Type 0} → Got A → Got A → Got A
or_else (got x rest) g = got x rest
or_else (refused n) g = g

-- the first reader's, unless it refuses
abbrev pub ◌or◌ : {A : Type 0} → Reader A → Reader A → Reader A
◌or◌ p q text = or_else (p text) (q text)

-- n values, read by p i, p (i + 1), ..
unfoldable pub series : {A : Type 0} → ℕ → ℕ → (ℕ → Reader A) → Reader (List A)
series i zero p text = got [] text
series i (suc n) p text = chain (p i text) (λ x rest. chain (series (suc i) n p rest) (λ xs end. got (x ∷ xs) end))

-- ---- bytes

-- the bytes of a quoted text
unfoldable pub codes : String → List ℕ
codes ε = []
codes (c ◂ s) = code c ∷ codes s

-- just these bytes
unfoldable pub bytes : List ℕ → Reader Unit
bytes [] text = got tt text
bytes (b ∷ bs) [] = refused Malformed
bytes (b ∷ bs) (c ∷ cs) = cond (eqb b c) (bytes bs cs) (refused Malformed)

-- the byte 10
unfoldable pub newline : List ℕ
newline = 10 ∷ []

-- the leading bytes that pass the test
unfoldable pub take_while : (ℕ → Bool) → List ℕ → List ℕ
take_while t [] = []
take_while t (c ∷ cs) = cond (t c) (c ∷ take_while t cs) []

-- reads the leading bytes that pass the test
unfoldable pub span : (ℕ → Bool) → Reader (List ℕ)
span t text = got (take_while t text) (drop (length (take_while t text)) text)

-- any byte but 10
unfoldable pub in_line : ℕ → Bool
in_line c = not (eqb c 10)

-- ---- numbers

-- 0 to 9
unfoldable pub is_digit : ℕ → Bool
is_digit c = leb 48 c && leb c 57

-- the number that v and then these digits write
unfoldable pub value : ℕ → List ℕ → ℕ
value v [] = v
value v (c ∷ cs) = value (v * 10 + (c - 48)) cs

-- one digit at least and nine at most, with no leading zero
unfoldable pub proper : List ℕ → Bool
proper ds = leb 1 (length ds) && leb (length ds) 9 && (leb (length ds) 1 || not (eqb (get_or ds 0 0) 48))

-- the number that digits write, if they may
unfoldable pub proper_number : List ℕ → Reader ℕ
proper_number ds text = cond (proper ds) (got (value 0 ds) text) (refused Malformed)

-- a decimal number
unfoldable pub decimal_number : Reader ℕ
decimal_number = span is_digit >>= proper_number

-- a cell of 0 or more
unfoldable pub natural : Reader ℤ
natural = decimal_number >>= λ n. give (pos n)

-- the number below 0 of that size; there is no -0
unfoldable pub minus : ℕ → Reader ℤ
minus n text = cond (eqb n 0) (refused Malformed) (got (neg_ℤ (pos n)) text)

-- what follows a minus
unfoldable pub negative : Reader ℤ
negative = decimal_number >>= minus

-- whether a minus comes next
unfoldable pub at_minus : List ℕ → Bool
at_minus text = eqb (get_or text 0 0) 45

-- a decimal number that may carry a minus
unfoldable pub cell : Reader ℤ
cell text = cond (at_minus text) (negative (drop 1 text)) (natural text)

-- the cell of column x, after a comma unless it is the first
unfoldable pub cell_at : ℕ → Reader ℤ
cell_at x text = cond (eqb x 0) (cell text) ((bytes (codes ",") >> cell) text)

-- ---- lines

-- a line: a key, a value, and the byte 10
abbrev pub key_line : {A : Type 0} → List ℕ → Reader A → Reader A
key_line key p = do
  bytes key
  x ← p
  bytes newline
  give x

-- a line of a key and a number
unfoldable pub number_line : List ℕ → Reader ℕ
number_line key = key_line key decimal_number

-- 0 or 1
abbrev pub switch_of : ℕ → Reader Bool
switch_of n text = cond (leb n 1) (got (eqb n 1) text) (refused Malformed)

-- a line of a key and a switch
unfoldable pub switch_line : List ℕ → Reader Bool
switch_line key = number_line key >>= switch_of
