-- Texts that are put into a buffer one after the other, by loops too. Assumes nothing.
use Rattle.std.proofs.Common.{◌≡◌, ℕ, suc, ◌+◌, ◌-◌, ◌*◌, ◌≤◌, ◌<◌, List, [], ◌++◌, length, refl, sym, ap, ◌∙◌, append_assoc, append-nil, length-append, add-zero, add-one, zero-le, arith}
use mathlib.Core.List.{flat_map}
use native.Mathlib.Nat.{sub-zero, suc-mul, le_refl}
use Rattle.base.specs.Places.{table_from, table}
use Rattle.base.proofs.Counting.{table_same}
use Rattle.silk_print.specs.Print.{each, Put, HasRoom}
use Rattle.silk_print.specs.declared.Printer.{Printer}
use Rattle.silk_text.specs.Answers.{laid}
use Rattle.silk_text.proofs.Laying.{laid_none, laid-length, laid_more}
use Rattle.silk_text.proofs.Whole.{row_fits}

-- ---- one after the other

pub put_none : (p : Printer) → Put 0 [] p p
put_none p = record { short = omega arith; list = laid_none p.at p.out.now; next = sym (add-zero p.at); kept = refl; same = refl }

-- what is left of a printer that put a text
pub put_laid : {text : List ℕ} {a b : Printer} → HasRoom (length text) a → b.out.now ≡ laid a.at text a.out.now → b.at ≡ a.at + length text → b.out.ghost_name ≡ a.out.ghost_name → Put (length text) text a b
put_laid {text} {a} h e f g = record { short = le_refl (length text); list = e; next = f; kept = ap length e ∙ laid-length a.at text a.out.now h; same = g }

-- a text that is the same, with a bound that is no less
pub put_as : {m n : ℕ} {s t : List ℕ} {a b : Printer} → Put m s a b → s ≡ t → m ≤ n → Put n t a b
put_as {a = a} p q h =
    record {
      short = omega (arith, p.short, ap length q);
      list = p.list ∙ ap (λ (l : List ℕ). laid a.at l a.out.now) q;
      next = p.next ∙ ap (λ (l : List ℕ). a.at + length l) q;
      kept = p.kept;
      same = p.same;
    }

pub put_both : {m n : ℕ} {s t : List ℕ} {a b c : Printer} → Put m s a b → Put n t b c → HasRoom m a → Put (m + n) (s ++ t) a c
put_both {s = s} {t = t} {a = a} {b = b} p q h =
    record {
      short = omega (arith, length-append s t, p.short, q.short);
      list =
          q.list
          ∙ ap (λ (k : ℕ). laid k t b.out.now) p.next
          ∙ ap (λ (l : List ℕ). laid (a.at + length s) t l) p.list
          ∙ laid_more a.at s t a.out.now (omega (arith, p.short));
      next = omega (arith, q.next, p.next, length-append s t);
      kept = q.kept ∙ p.kept;
      same = q.same ∙ p.same;
    }

-- three texts
pub put_three : {m n k : ℕ} {s t u : List ℕ} {a b c d : Printer} → Put m s a b → Put n t b c → Put k u c d → HasRoom (m + n + k) a → Put (m + n + k) (s ++ t ++ u) a d
put_three p q r h = put_both (put_both p q (omega arith)) r (omega arith)

-- ---- loops

pub each_same : (n : ℕ) (f g : ℕ → List ℕ) → ((i : ℕ) → i < n → f i ≡ g i) → each n f ≡ each n g
unfolding each
each_same n f g h = ap (flat_map (λ l. l)) (table_same n f g [] h)

-- f i, f (i + 1), .., n of them
unfoldable pub each_from : ℕ → ℕ → (ℕ → List ℕ) → List ℕ
each_from i n f = flat_map (λ l. l) (table_from i n f)

-- with i of n texts put from `a` on, each of at most m bytes, the printer is `b`
pub record Printing (f : ℕ → List ℕ) (m n : ℕ) (a : Printer) (i : ℕ) (b : Printer) : Type 0 where
  pub inside : i ≤ n
  pub done : List ℕ
  pub put : Put (i * m) done a b
  pub whole : each n f ≡ done ++ each_from i (n - i) f

pub printing_none : (f : ℕ → List ℕ) (m n : ℕ) (a : Printer) → Printing f m n a 0 a
unfolding each table each_from
printing_none f m n a = record { inside = zero-le; done = []; put = put_as (put_none a) refl zero-le; whole = rw (sub-zero n) refl }

from_some : (f : ℕ → List ℕ) (i n : ℕ) → each_from i (suc n) f ≡ f i ++ each_from (suc i) n f
unfolding each_from flat_map table_from
from_some f i n = refl

from_none : (f : ℕ → List ℕ) (i : ℕ) → each_from i 0 f ≡ []
unfolding each_from flat_map table_from
from_none f i = refl

module _ {f : ℕ → List ℕ} {m n : ℕ} {a : Printer} {i : ℕ} {b : Printer} (g : Printing f m n a i b) where
  pub printing_room : i < n → HasRoom (n * m) a → HasRoom m b
  printing_room h r =
      omega (arith, g.put.next, g.put.short, g.put.kept, row_fits n m (n * m) i (le_refl (n * m)) h)

  pub printing_more : i < n → HasRoom (n * m) a → {c : Printer} → Put m (f i) b c → Printing f m n a (i + 1) c
  printing_more h r p =
      let c : n - i ≡ suc (n - suc i) = omega arith in
      let next : (i + 1) * m ≡ i * m + m = rw (add-one i) (suc-mul i m) in
      record {
        inside = omega arith;
        done = g.done ++ f i;
        put = rw next (put_both g.put p (omega (arith, row_fits n m (n * m) i (le_refl (n * m)) h)));
        whole =
            rw (add-one i)
            (g.whole ∙ rw (c, from_some f i (n - suc i)) (sym (append_assoc g.done (f i) (each_from (suc i) (n - suc i) f))));
      }

  pub printing_all : n ≤ i → Put (n * m) (each n f) a b
  printing_all h =
      let c : n - i ≡ 0 = omega arith in
      let e : n ≡ i = omega (arith, g.inside) in
      put_as g.put (sym (g.whole ∙ rw (c, from_none f i) (append-nil g.done))) (rw e (le_refl (i * m)))
