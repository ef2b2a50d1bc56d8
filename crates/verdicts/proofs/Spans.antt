-- A loop over the places of a span of the order, or over any stretch of numbers: what a turn reads, and what a turn adds. Assumes nothing.
use Prim.Native.Nat.{ℕ, suc, ◌+◌, ◌-◌, ◌*◌, ◌≤◌, ◌<◌}
use mathlib.Core.Path.{◌≡◌, ◌∙◌, subst}
use mathlib.Core.Logic.{◌⊎◌, inl, inr, ⊎_elim}
use mathlib.Core.List.{List}
use native.Mathlib.Decide.{ℕ_discrete}
use native.Mathlib.Omega.{arith}
use lib.ListN.{length, get_or}
use Rattle.grid.specs.Planes.{plane, end_of}
use Rattle.grid.proofs.Planes.{plane_read}
use Rattle.verdicts.specs.declared.large.Span.{Span}
use Rattle.verdicts.specs.Groups.{Group, Stretch}
use Rattle.std.specs.List.{slice_range}
use Rattle.std.proofs.lemmas.List.Edits.{length-between, get_or-between}

-- ---- what a turn adds

-- P holds of a number from `from` on and before `to`
abbrev pub Within : ℕ → ℕ → (ℕ → Type 0) → Type 0
Within from to P = (j : ℕ) × (from ≤ j) × (j < to) × P j

-- with one number more it is one before or that
pub within_more : {from i : ℕ} {P : ℕ → Type 0} → Within from (i + 1) P → Within from i P ⊎ P i
within_more {i = i} {P = P} z = elim (ℕ_discrete z.0 i) [ yes e ↦ inr (subst P e z.3) | no d ↦ inl (z.0, z.1, omega (arith, z.2), z.3) ]

pub more_within : {from i : ℕ} {P : ℕ → Type 0} → from ≤ i → Within from i P ⊎ P i → Within from (i + 1) P
more_within {i = i} l = ⊎_elim (λ z. (z.0, z.1, omega (arith, z.2), z.3)) (λ z. (i, l, omega arith, z))

-- so it is up to a later end
pub within-to : {from i to : ℕ} {P : ℕ → Type 0} → i ≤ to → Within from i P → Within from to P
within-to l z = (z.0, z.1, omega (arith, z.2), z.3)

-- ---- what a turn reads

-- the places of a group are such a span
pub group-stretch : {n at : ℕ} {a : List ℕ} {span : Span} → Group n a at → (span.from ≡ end_of n a at) × (span.to ≡ end_of n a (suc at)) → Stretch n a span
group-stretch g ends = record {
  rises = omega (arith, ends.0, ends.1, g.some);
  end = omega (arith, ends.1, g.end);
  places = λ i l h. (g.places i (omega (arith, ends.0)) (omega (arith, ends.1))).0;
}

-- the turn i of a loop that began at a and is at b: what the order holds there is a place
pub record SpanTurn (n i : ℕ) (span : Span) (a b : List ℕ) : Type 0 where
  pub few : n ≤ 264196
  pub room : 8 * n ≤ length b
  pub low : span.from ≤ i
  pub turn : i < span.to
  pub on : i < n
  pub is : get_or b (2 * n + i) 0 ≡ plane n 2 a i
  pub place : get_or b (2 * n + i) 0 < n

-- so it is while the order is kept
pub span_turn : {n i : ℕ} {span : Span} {a b : List ℕ} → n ≤ 264196 → 8 * n ≤ length a → Stretch n a span → length b ≡ length a → ((q : ℕ) → q < n → plane n 2 b q ≡ plane n 2 a q) → span.from ≤ i → i < span.to → SpanTurn n i span a b
span_turn {n} {i} {b = b} few room s len kept lo hi =
    let on : i < n = omega (arith, s.end) in
    let e = plane_read n 2 i (2 * n + i) b (omega arith) ∙ kept i on in
    record { few = few; room = rw len room; low = lo; turn = hi; on = on; is = e; place = rw e (s.places i lo hi) }

-- the places of a span, cut out of the work area
module _ {n : ℕ} {a : List ℕ} {span : Span} (room : 8 * n ≤ length a) (s : Stretch n a span) where
  abbrev cut : List ℕ
  cut = slice_range a (2 * n + span.from) (2 * n + span.to)

  pub places-count : length cut ≡ span.to - span.from
  places-count = let l = length-between a (2 * n + span.from) (2 * n + span.to) (omega (arith, s.end)) in omega (arith, s.rises)

  pub places-each : (i : ℕ) → i < length cut → get_or cut i 0 ≡ plane n 2 a (span.from + i)
  places-each i l =
      let c = places-count in
      get_or-between a (2 * n + span.from) (2 * n + span.to) i 0 (omega (arith, s.rises)) ∙ plane_read n 2 (span.from + i) (2 * n + span.from + i) a (omega arith)

  pub places-within : (i : ℕ) → i < length cut → get_or cut i 0 < n
  places-within i l = let c = places-count in rw (places-each i l) (s.places (span.from + i) (omega arith) (omega (arith, s.rises)))
