-- Regions of a sheet: largest sets of opaque cells of one index, joined by steps to neighbours.
-- A sheet is a list of n cells, at the places 0 .. n - 1; `adj p q` says that q neighbours p.
-- Definitions only. Assumes nothing.
use Rattle.std.specs.Prelude.{ℕ, suc, Bool, true, false, ◌&&◌, cond, List, ◌≡◌, eqb, ℤ, pos, negsuc, get_or}
use Rattle.std.specs.Int.Signed.{non_neg}
use Rattle.base.specs.Places.{table, count, least, times}

-- the cell at a place; off the sheet it is transparent
unfoldable pub at : List ℤ → ℕ → ℤ
at cells p = get_or cells p (negsuc 0)

unfoldable pub opaque : List ℤ → ℕ → Bool
opaque cells p = non_neg (at cells p)

-- the palette entry that an opaque cell names
unfoldable pub index : ℤ → ℕ
index (pos i) = i
index (negsuc i) = 0

-- both cells are opaque and name one entry
unfoldable pub alike : ℤ → ℤ → Bool
alike (pos i) (pos j) = eqb i j
alike (pos i) (negsuc j) = false
alike (negsuc i) z = false

-- the neighbourhood works both ways round
unfoldable pub Symmetric : (ℕ → ℕ → Bool) → Type 0
Symmetric adj = (p q : ℕ) → adj p q ≡ true → adj q p ≡ true

-- one step inside a region: from p to its neighbour q of the same index
unfoldable pub link : (ℕ → ℕ → Bool) → List ℤ → ℕ → ℕ → Bool
link adj cells p q = adj p q && alike (at cells p) (at cells q)

-- p and q lie in one region: a path of such steps leads from p to q
pub data Joined (adj : ℕ → ℕ → Bool) (cells : List ℤ) : ℕ → ℕ → Type 0 where
  here : {p : ℕ} → opaque cells p ≡ true → Joined adj cells p p
  step : {p q r : ℕ} → link adj cells p q ≡ true → Joined adj cells q r → Joined adj cells p r

-- what a list of numbers holds at a place: past its end, the place itself
unfoldable pub held : List ℕ → ℕ → ℕ
held r p = get_or r p p

-- each place takes the least number that it or a linked neighbour holds
unfoldable pub spread : ℕ → (ℕ → ℕ → Bool) → List ℤ → List ℕ → List ℕ
spread n adj cells r = table n (λ p. least n (link adj cells p) (held r) (held r p))

-- The root of a place is the first cell of its region: each place starts with its own number, and n times the least spreads.
unfoldable pub roots : ℕ → (ℕ → ℕ → Bool) → List ℤ → List ℕ
roots n adj cells = times n (spread n adj cells) (table n (λ p. p))

unfoldable pub root : ℕ → (ℕ → ℕ → Bool) → List ℤ → ℕ → ℕ
root n adj cells p = held (roots n adj cells) p

-- q is a cell of the region with the root m, by a list r of roots
unfoldable pub inside : List ℤ → List ℕ → ℕ → ℕ → Bool
inside cells r m q = opaque cells q && eqb (held r q) m

-- p is the first cell of a region
unfoldable pub first : List ℤ → List ℕ → ℕ → Bool
first cells r p = inside cells r p p

-- 0 for a transparent cell; a region's label is its number, from 1, in the order of first cells
unfoldable pub label : List ℤ → List ℕ → ℕ → ℕ
label cells r p = cond (opaque cells p) (count (suc (held r p)) (first cells r)) 0
