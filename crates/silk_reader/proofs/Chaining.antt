-- What a chain of readings has read. Assumes nothing.
use Prim.Native.Nat.{ℕ}
use mathlib.Core.Path.{◌≡◌, refl}
use mathlib.Core.List.{List}
use native.Mathlib.Omega.{arith}
use Rattle.silk_reader.specs.Reader.{Got, got, refused, Reader, chain, bytes, newline, key_line}

-- what a chain that got something read first
pub record First {A B : Type 0} (g : Got A) (f : A → Reader B) (x : B) (end : List ℕ) : Type 0 where
  pub value : A
  pub rest : List ℕ
  pub read : g ≡ got value rest
  pub then : f value rest ≡ got x end

pub chain_first : {A B : Type 0} (g : Got A) (f : A → Reader B) {x : B} {end : List ℕ} → chain g f ≡ got x end → First g f x end
unfolding chain
chain_first (got y rest) f e = record { value = y; rest = rest; read = refl; then = e }
chain_first (refused n) f e = let z : ◌≡◌ {A = ℕ} 0 1 = cc in absurd (omega arith)

pub line_yes : {A : Type 0} (key : List ℕ) (p : Reader A) (text : List ℕ) {r : List ℕ} → bytes key text ≡ got tt r → {x : A} {s : List ℕ} → p r ≡ got x s →
    {end : List ℕ} → bytes newline s ≡ got tt end → key_line key p text ≡ got x end
line_yes key p text e f g = rw (e, f, g)
