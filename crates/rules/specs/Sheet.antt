-- A sheet: its cells, and how many of them an entry needs. Definitions only. Assumes nothing.
use Rattle.std.specs.Prelude.{ℕ, ◌+◌, ◌*◌, Bool, cond, List, ◌++◌, ℤ, length, take, drop}

-- h rows of w cells, row after row
pub record Sheet : Type 0 where
  pub cells : List ℤ
  pub height : ℕ
  pub width : ℕ

-- how many cells a sheet has
unfoldable pub area : Sheet → ℕ
area s = s.height * s.width

-- the sheet of height h and width w at the front of a lent list
unfoldable pub sheet_of : List ℤ → ℕ → ℕ → Sheet
sheet_of lent h w = record { cells = take (h * w) lent; height = h; width = w }

-- a sheet as it is lent: the list that holds it in front, its sides, and the length of the work area
pub record LentSheet : Type 0 where
  pub cells : List ℤ
  pub height : ℕ
  pub width : ℕ
  pub work : ℕ

abbrev pub lent_sheet : List ℤ → ℕ → ℕ → ℕ → LentSheet
lent_sheet cells h w work = record { cells = cells; height = h; width = w; work = work }

-- its sheet
abbrev pub sheet_in : LentSheet → Sheet
sheet_in l = sheet_of l.cells l.height l.width

-- what a lent list holds after a list was written over it, from the first on
unfoldable pub over : {A : Type 0} → List A → List A → List A
over new lent = new ++ drop (length new) lent

-- the needed cells: h × w, or (h + 2) × (w + 2) if padding applies
unfoldable pub needed : ℕ → ℕ → Bool → ℕ
needed h w pads = cond pads ((h + 2) * (w + 2)) (h * w)
