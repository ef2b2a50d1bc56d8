-- The rules of the two tables as tests of bit patterns, which are computed over a whole table, and what a passed test says. Assumes nothing.
use mathlib.Core.Path.{◌≡◌, ap, ◌∙◌}
use mathlib.Core.Bool.{Bool, ◌&&◌, cond}
use mathlib.Core.List.{List, ◌∷◌}
use Prim.Native.Nat.{ℕ, ◌+◌, ◌<◌}
use native.Mathlib.Decide.{dec_le}
use native.Mathlib.Nat.{lt_of_not-le}
use borrow.Author.Tests.{le-leb, lt-leb}
use lib.Dec.{T, leb, ltb, eqb, ltb→lt, eqb→eq}
use lib.ListN.{get_or}
use lib.Ieee.{Float, binary64, of_bits, to_bits}
use lib.Ieee.Bits.{of_bits-to_bits}
use lib.Ieee.Fits.{div-fits, and_l, and_r}
use Rattle.roots.specs.Units.{limit}
use Rattle.roots.proofs.Computed.{nearest-is, least-is}
use Rattle.roots.proofs.Nearby.{is_nearest, is-nearest, is_least, is-least}
use Rattle.channel.specs.Channel.{decode_num, threshold_num, curve_den, line_num, line_den, straight, Decoded, Threshold, decode_of, threshold_of}

-- ---- decoding
unfoldable pub decodes : ℕ → ℕ → Bool
decodes k p = ltb p limit && cond (leb k 10) (eqb p (to_bits binary64 (straight k))) (is_nearest 5 (decode_num k) curve_den p)

pub decodes_fit : (k p : ℕ) → T (decodes k p) → p < limit
unfolding decodes
decodes_fit k p t = ltb→lt p limit (and_l (ltb p limit) _ t)

pub decodes-rule : (k p : ℕ) → T (decodes k p) → Decoded k (of_bits binary64 p)
unfolding decodes straight
decodes-rule k p t =
    let u = and_r (ltb p limit) (cond (leb k 10) (eqb p (to_bits binary64 (straight k))) (is_nearest 5 (decode_num k) curve_den p)) t in
    record {
      linear = λ h. ap (of_bits binary64) (eqb→eq p (to_bits binary64 (straight k)) (rw (le-leb k 10 h) at u)) ∙ of_bits-to_bits binary64 (straight k) (div-fits binary64 _ _);
      curved = λ h. is-nearest 5 (decode_num k) curve_den p (rw (lt-leb k 10 h) at u);
    }

pub decoded-is : (k : ℕ) (y : Float) → Decoded k y → y ≡ decode_of k
unfolding decode_of
decoded-is k y d =
    elim (dec_le k 10) [
      | yes h ↦ rw (le-leb k 10 h) (d.linear h)
      | no h ↦ rw (lt-leb k 10 (lt_of_not-le h)) (nearest-is 5 (decode_num k) curve_den y (d.curved (lt_of_not-le h)))
    ]

-- ---- thresholds: the entry i is that of the byte i + 1
unfoldable pub bounds : ℕ → ℕ → Bool
bounds i p =
    ltb p limit && cond (leb (i + 1) 10) (is_least 1 (line_num (i + 1)) line_den p) (is_least 5 (threshold_num (i + 1)) curve_den p)

pub bounds_fit : (i p : ℕ) → T (bounds i p) → p < limit
unfolding bounds
bounds_fit i p t = ltb→lt p limit (and_l (ltb p limit) _ t)

pub bounds-rule : (i p : ℕ) → T (bounds i p) → Threshold (i + 1) (of_bits binary64 p)
unfolding bounds
bounds-rule i p t =
    let u = and_r (ltb p limit) (cond (leb (i + 1) 10) (is_least 1 (line_num (i + 1)) line_den p) (is_least 5 (threshold_num (i + 1)) curve_den p)) t in
    record {
      linear = λ h. is-least 1 (line_num (i + 1)) line_den p (rw (le-leb (i + 1) 10 h) at u);
      curved = λ h. is-least 5 (threshold_num (i + 1)) curve_den p (rw (lt-leb (i + 1) 10 h) at u);
    }

pub threshold_is : (j : ℕ) (y : Float) → Threshold j y → y ≡ threshold_of j
unfolding threshold_of
threshold_is j y d =
    elim (dec_le j 10) [
      | yes h ↦ rw (le-leb j 10 h) (least-is 1 (line_num j) line_den y (d.linear h))
      | no h ↦ rw (lt-leb j 10 (lt_of_not-le h)) (least-is 5 (threshold_num j) curve_den y (d.curved (lt_of_not-le h)))
    ]

-- ---- a pattern that is not below the entry k - 1, if there is one, and is below the entry k, if there is one
unfoldable pub between : List ℕ → ℕ → ℕ → Bool
between table k p = leb (get_or (0 ∷ table) k limit) p && ltb p (get_or table k limit)
