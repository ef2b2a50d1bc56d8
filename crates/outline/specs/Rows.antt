-- A stretch of a list, and the places before and after one in its line. Definitions only. Assumes nothing.
use Rattle.std.specs.Prelude.{ℕ, ◌+◌, ◌-◌, cond, List, ◌++◌, eqb, ltb, take, drop}
use Rattle.base.specs.Outputs.{filled}

-- the n places from a on become f a, f (a + 1), .., f (a + n - 1); all others stay
unfoldable pub stretch : {A : Type 0} → ℕ → ℕ → (ℕ → A) → List A → List A
stretch a n f l = take a l ++ filled n (λ i. f (a + i)) (drop a l)

-- the place a step before p, the i-th of its line; p itself for the first
unfoldable pub back : ℕ → ℕ → ℕ → ℕ
back p step i = cond (eqb i 0) p (p - step)

-- the place a step after p, the i-th of n in its line; p itself for the last
unfoldable pub ahead : ℕ → ℕ → ℕ → ℕ → ℕ
ahead p step i n = cond (ltb (i + 1) n) (p + step) p
