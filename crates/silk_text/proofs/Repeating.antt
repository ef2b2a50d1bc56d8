-- A loop that reads a series of values, and writes what each comes to over a list. Assumes nothing.
use Prim.Native.Nat.{ℕ, zero, suc, ◌+◌, ◌-◌, ◌*◌, ◌≤◌, ◌<◌}
use mathlib.Core.Path.{◌≡◌, refl, sym, ap, ◌∙◌}
use mathlib.Core.List.{List, [], ◌∷◌, ◌++◌, append_assoc, append-nil, flat_map}
use native.Mathlib.Nat.{zero-mul, suc-mul, sub-zero}
use native.Mathlib.Numerals.{add-one}
use native.Mathlib.Omega.{arith}
use lib.ListN.{length, length-append}
use Rattle.base.specs.declared.Refusal.{Refusal}
use Rattle.silk_reader.specs.Reader.{Got, got, refused, Reader, chain, series}
use Rattle.rules.specs.Sheet.{over}
use Rattle.silk_text.specs.Answers.{laid}
use Rattle.silk_reader.proofs.Chaining.{chain_first}
use Rattle.silk_text.proofs.Laying.{laid-length, over_none, over_more, over_whole}

module _ {A B : Type 0} where
  pub flat_map_append : (f : A → List B) (s t : List A) → flat_map f (s ++ t) ≡ flat_map f s ++ flat_map f t
  unfolding flat_map
  flat_map_append f [] t = refl
  flat_map_append f (x ∷ s) t = ap (λ (l : List B). f x ++ l) (flat_map_append f s t) ∙ sym (append_assoc (f x) (flat_map f s) (flat_map f t))

  -- with i of the n values read, each of them m elements, the list is `now` and the text `rest` is left
  pub record Going (p : ℕ → Reader A) (put : A → List B) (m n : ℕ) (text : List ℕ) (old : List B) (i : ℕ) (rest : List ℕ) (now : List B) : Type 0 where
    pub read : List A
    pub size : length (flat_map put read) ≡ i * m
    pub parse : series 0 n p text ≡ chain (series i (n - i) p rest) (λ xs end. got (read ++ xs) end)
    pub list : now ≡ over (flat_map put read) old
    pub kept : length now ≡ length old

-- a series, taken apart
pub series_none : {A : Type 0} (i : ℕ) (p : ℕ → Reader A) (text : List ℕ) → series i 0 p text ≡ got [] text
unfolding series
series_none i p text = refl

pub series_some : {A : Type 0} (i n : ℕ) (p : ℕ → Reader A) (text : List ℕ) → series i (suc n) p text ≡ chain (p i text) (λ x rest. chain (series (suc i) n p rest) (λ xs end. got (x ∷ xs) end))
unfolding series
series_some i n p text = refl

chain_got : {A : Type 0} (g : Got (List A)) → g ≡ chain g (λ xs end. got ([] ++ xs) end)
chain_got (got x rest) = refl
chain_got (refused n) = refl

chain_cons : {A : Type 0} (s : List A) (x : A) (g : Got (List A)) → chain (chain g (λ xs end. got (x ∷ xs) end)) (λ xs end. got (s ++ xs) end) ≡ chain g (λ xs end. got ((s ++ x ∷ []) ++ xs) end)
chain_cons {A = A} s x (got xs rest) = ap (λ (l : List A). got l rest) (sym (append_assoc s (x ∷ []) xs))
chain_cons s x (refused n) = refl

module _ {A B : Type 0} {p : ℕ → Reader A} {put : A → List B} (m n : ℕ) {text : List ℕ} {old : List B} where
  pub going_none : Going p put m n text old 0 text old
  unfolding flat_map
  going_none =
      record {
        read = [];
        size = sym (zero-mul m);
        parse = rw (sub-zero n) (chain_got (series 0 n p text));
        list = over_none old;
        kept = refl;
      }

  module _ {i : ℕ} {rest : List ℕ} {now : List B} (g : Going p put m n text old i rest now) where
    pub going_more : i < n → {x : A} {end : List ℕ} → p i rest ≡ got x end → length (put x) ≡ m → (i + 1) * m ≤ length old → {place : ℕ} {new : List B} → new ≡ laid place (put x) now → place ≡ i * m → Going p put m n text old (i + 1) end new
    unfolding flat_map
    going_more h {x} {end} e l k {place} {new} st pl =
        let d : (i + 1) * m ≡ i * m + m = rw (add-one i) (suc-mul i m) in
        let s = g.read in
        let new_is : new ≡ laid (i * m) (put x) now = st ∙ ap (λ (k : ℕ). laid k (put x) now) pl in
        let q : flat_map put (s ++ x ∷ []) ≡ flat_map put s ++ put x = flat_map_append put s (x ∷ []) ∙ ap (λ (r : List B). flat_map put s ++ r) (append-nil (put x)) in
        let c : n - i ≡ suc (n - suc i) = omega arith in
        record {
          read = s ++ x ∷ [];
          size = ap length q ∙ length-append (flat_map put s) (put x) ∙ omega (arith, g.size);
          parse = g.parse ∙ rw (c, series_some i (n - suc i) p rest, e, add-one i) (chain_cons s x (series (suc i) (n - suc i) p end));
          list = new_is ∙ ap (λ (b : List B). laid (i * m) (put x) b) g.list ∙ rw (← g.size) (over_more (flat_map put s) (put x) old (omega (arith, g.size))) ∙ ap (λ (r : List B). over r old) (sym q);
          kept = ap length new_is ∙ laid-length (i * m) (put x) now (omega (arith, g.kept)) ∙ g.kept;
        }

    pub going_refused : i < n → {k : Refusal} → p i rest ≡ refused k → series 0 n p text ≡ refused k
    going_refused h e =
        let c : n - i ≡ suc (n - suc i) = omega arith in
        g.parse ∙ rw (c, series_some i (n - suc i) p rest, e)

    pub going_all : n ≤ i → series 0 n p text ≡ got g.read rest
    going_all h =
        let c : n - i ≡ 0 = omega arith in
        g.parse ∙ rw (c, series_none i p rest, append-nil g.read)

pub singles : {A : Type 0} (l : List A) → flat_map (λ x. x ∷ []) l ≡ l
unfolding flat_map
singles [] = refl
singles {A = A} (x ∷ l) = ap (λ (t : List A). x ∷ t) (singles l)

-- a list that is filled by a series of its own length
pub going_whole : {A : Type 0} {p : ℕ → Reader A} {text : List ℕ} {old : List A} {i : ℕ} {rest : List ℕ} {now : List A} → Going p (λ x. x ∷ []) 1 (length old) text old i rest now →
    i ≡ length old → got now rest ≡ series 0 (length old) p text
going_whole {A = A} {old = old} {rest = rest} g e =
    let s = singles g.read in
    let n : length g.read ≡ length old = sym (ap length s) ∙ omega (arith, g.size) in
    let l = g.list ∙ ap (λ (x : List A). over x old) s ∙ over_whole g.read old n in
    sym (going_all 1 _ g (omega arith) ∙ ap (λ (x : List A). got x rest) (sym l))

-- n values of a series come to n times m elements, if each comes to m
pub series-size : {A B : Type 0} (p : ℕ → Reader A) (put : A → List B) (m : ℕ) → ((i : ℕ) (text : List ℕ) (x : A) (end : List ℕ) → p i text ≡ got x end → length (put x) ≡ m) →
    (n i : ℕ) (text : List ℕ) {xs : List A} {end : List ℕ} → series i n p text ≡ got xs end → length (flat_map put xs) ≡ n * m
unfolding series flat_map
series-size p put m each zero i text {xs} {end} e = let q : xs ≡ [] = cc in rw q (sym (zero-mul m))
series-size p put m each (suc n) i text {xs} {end} e =
    let a = chain_first (p i text) (λ x rest. chain (series (suc i) n p rest) (λ ys last. got (x ∷ ys) last)) e in
    let b = chain_first (series (suc i) n p a.rest) (λ ys last. got (a.value ∷ ys) last) a.then in
    let t : got (a.value ∷ b.value) b.rest ≡ got xs end = b.then in
    let q : xs ≡ a.value ∷ b.value = cc in
    rw q (length-append (put a.value) (flat_map put b.value) ∙ omega (arith, suc-mul n m, each i text a.value a.rest a.read, series-size p put m each n (suc i) a.rest b.read))

pub series-length : {A : Type 0} (p : ℕ → Reader A) (n i : ℕ) (text : List ℕ) {xs : List A} {end : List ℕ} → series i n p text ≡ got xs end → length xs ≡ n
unfolding flat_map
series-length p n i text {xs} e = ap length (sym (singles xs)) ∙ omega (arith, series-size p (λ x. x ∷ []) 1 (λ _ _ _ _ _. refl) n i text e)
