-- Lent lists that an entry fills from the front. Definitions only. Assumes nothing.
use Rattle.std.specs.Prelude.{ℕ, List, ◌++◌, drop}
use Rattle.base.specs.Places.{table}

-- the first n of the list become f 0, f 1, .., f (n - 1); what lies past them stays
unfoldable pub filled : {A : Type 0} → ℕ → (ℕ → A) → List A → List A
filled n f l = table n f ++ drop n l
