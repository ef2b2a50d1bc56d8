-- A palette, saturation, and the choice of one entry among several. Definitions only. Assumes nothing.
use Rattle.std.specs.Prelude.{ℕ, zero, suc, ◌+◌, ◌*◌, ◌%◌, Bool, not, ◌&&◌, cond, List, eqb, get_or, set, Float, Option, None, Some}
use Rattle.std.specs.Float.{nan}
use Rattle.std.specs.Float.Ieee.{lt, le}
use Rattle.base.specs.Places.{any}
use Rattle.base.specs.Outputs.{filled}
use Rattle.color.specs.declared.Lab.{Lab}
use Rattle.base.specs.Doubles.{◌⊗◌, decimal}
use Rattle.color.specs.Lab.{entry, within}

-- lent doubles, three for each entry, of which the first count entries are in use
pub record Palette : Type 0 where
  pub lab : List Float
  pub count : ℕ

abbrev pub palette_of : List Float → ℕ → Palette
palette_of lab k = record { lab = lab; count = k }

-- the entry i
unfoldable pub colour : Palette → ℕ → Lab
colour palette i = entry palette.lab i

-- the palette with a colour written to the entry i
unfoldable pub recoloured : List Float → ℕ → Lab → List Float
recoloured lab i c = set (set (set lab (3 * i) c.l) (3 * i + 1) c.a) (3 * i + 2) c.b

-- one of the doubles in use is NaN or beyond ±1024
unfoldable pub out_of_range : Palette → Bool
out_of_range palette = any (3 * palette.count) (λ i. not (within (get_or palette.lab i nan)))

-- a setting from lo to hi, and no NaN
unfoldable pub between : ℕ → ℕ → Float → Bool
between lo hi x = le (decimal lo 0) x && le x (decimal hi 0)

-- a and b of every entry multiplied by beta
unfoldable pub saturate : Float → Palette → Palette
saturate beta palette =
    record {
      lab = filled (3 * palette.count) (λ i. let x = get_or palette.lab i nan in cond (eqb (i % 3) 0) x (x ⊗ beta)) palette.lab;
      count = palette.count;
    }

-- of the entries below k that may be chosen, the first with the least value
unfoldable pub first_least : (ℕ → Bool) → (ℕ → Float) → ℕ → Option ℕ
first_least may v zero = None
first_least may v (suc i) =
    cond (may i)
    (elim (first_least may v i) [ None ↦ Some i | Some b ↦ Some (cond (lt (v i) (v b)) i b) ])
    (first_least may v i)

-- the first entry below k that passes a test
unfoldable pub first_where : (ℕ → Bool) → ℕ → Option ℕ
first_where t zero = None
first_where t (suc i) = elim (first_where t i) [ None ↦ cond (t i) (Some i) None | Some b ↦ Some b ]
