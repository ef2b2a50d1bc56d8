-- `begin`: nothing begins at s, or its region is filled and its end stored. Assumes nothing.
use Rattle.std.proofs.Common.{◌≡◌, ℕ, ◌+◌, ◌-◌, ◌*◌, ◌<◌, ◌≤◌, List, length, get_or, set, length-set, sym, subst, arith}
use Rattle.grid.specs.declared.Neighbourhood.{Neighbourhood}
use Rattle.grid.specs.Planes.{plane}
use Rattle.grid.proofs.Places.{area}
use Rattle.grid.proofs.Planes.{plane_read}
use Rattle.labels.specs.declared.Tally.{Tally}
use Rattle.labels.specs.Filling.{seen, joined, Coded, Filled, Shut, Begun, Tinted, LabelledTo, Since}
use Rattle.labels.proofs.Flooding.{begin_fits, begin_alone, begin_tint, closed_size, closed_filled, closed_passed, closed_since}
use Rattle.labels.proofs.Seen.{seen_size, seen-joined, seen_end, coded_joined, coded_end, Fresh, code-fresh, pass-low}
use Rattle.labels.proofs.label.begin.Goals as goal

-- the place s, all opaque places before which have their labels
module _ {h w : ℕ} {near : Neighbourhood} {work : List ℕ} {t : Tally} {s : ℕ} (f : Filled h w near (seen (h * w) work) t.regions t Shut × Coded (h * w) work)
    (passed : LabelledTo h w near (seen (h * w) work) t s) (ls : s < h * w) where
  room : 8 * (h * w) ≤ length work
  room = omega (arith, f.0.sized.planes, seen_size (h * w) work)

  -- the word of s, as it is read
  word_at : get_or work (h * w + s) 0 ≡ plane (h * w) 1 work s
  word_at = plane_read (h * w) 1 s (h * w + s) work (omega arith)

  nothing : get_or work (h * w + s) 0 ≤ 264196 → LabelledTo h w near (seen (h * w) work) t (s + 1)
  nothing l = pass-low f.1 f.0 passed ls (omega (arith, word_at))

  -- a region begins at s
  module _ (code : 264196 < get_or work (h * w + s) 0) where
    fresh : Fresh (h * w) work (get_or work (h * w + s) 0) s
    fresh = code-fresh f.1 code s ls (sym word_at)

    paint : plane (h * w) 0 (seen (h * w) work) s ≡ 0 → ⊥
    paint z = omega (arith, fresh.paint)

    left : t.taken < h * w
    left = begin_fits f.0 passed ls paint fresh.free

    mark-most : t.regions + 1 ≤ 264196
    mark-most = omega (arith, f.0.under, left, area h w f.0.sized.rows f.0.sized.cols)

    -- the work area once s has its label, as it is and as it is seen
    abbrev raw : List ℕ
    raw = joined (h * w) s (t.regions + 1) t.taken work

    abbrev marked : List ℕ
    marked = joined (h * w) s (t.regions + 1) t.taken (seen (h * w) work)

    marked-seen : seen (h * w) raw ≡ marked
    marked-seen = seen-joined (h * w) s (t.regions + 1) t.taken work ls left mark-most room

    starts : Begun h w near (seen (h * w) raw) s t.taken (record { regions = t.regions + 1; taken = t.taken + 1 }) × Coded (h * w) raw
        × Tinted (h * w) (seen (h * w) raw) t.taken (t.taken + 1) (get_or work (h * w + s) 0 - 264196)
    starts = (
      subst (λ (l : List ℕ). Begun h w near l s t.taken (record { regions = t.regions + 1; taken = t.taken + 1 })) (sym marked-seen) (begin_alone f.0 passed ls paint fresh.free),
      coded_joined f.1 s (t.regions + 1) t.taken ls left (omega arith) mark-most room,
      subst (λ (l : List ℕ). Tinted (h * w) l t.taken (t.taken + 1) (get_or work (h * w + s) 0 - 264196)) (sym marked-seen)
          (subst (λ (x : ℕ). Tinted (h * w) marked t.taken (t.taken + 1) x) fresh.paint (begin_tint f.0 passed ls paint fresh.free)),
    )

    -- once it is whole
    module _ {new : List ℕ} {r : Tally} (g : Filled h w near (seen (h * w) new) (r.regions - 1) r Shut × Coded (h * w) new) (num : r.regions ≡ t.regions + 1)
        (since : Since (h * w) (seen (h * w) raw) (seen (h * w) new)) where
      since-marked : Since (h * w) marked (seen (h * w) new)
      since-marked = subst (λ (l : List ℕ). Since (h * w) l (seen (h * w) new)) marked-seen since

      end_in : 3 * (h * w) + t.regions < length new
      end_in = omega (arith, closed_size f.0 passed ls paint fresh.free g.0 num since-marked, seen_size (h * w) new)

      -- and its end is stored
      abbrev ended : List ℕ
      ended = set new (3 * (h * w) + t.regions) r.taken

      ends : (Filled h w near (seen (h * w) ended) r.regions r Shut × Coded (h * w) ended) × LabelledTo h w near (seen (h * w) ended) r (s + 1) × Since (h * w) (seen (h * w) work) (seen (h * w) ended)
      ends =
          let k = subst (λ (l : List ℕ). Filled h w near l r.regions r Shut × LabelledTo h w near l r (s + 1) × Since (h * w) (seen (h * w) work) l) (sym (seen_end (h * w) t.regions r.taken new end_in)) (
            closed_filled f.0 passed ls paint fresh.free g.0 num since-marked,
            closed_passed f.0 passed ls paint fresh.free g.0 num since-marked,
            closed_since f.0 passed ls paint fresh.free g.0 num since-marked,
          ) in
          ((k.0, coded_end g.1 t.regions r.taken (omega (arith, f.0.under, left))), k.1, k.2)

pub bounds-work-n : goal.bounds-work-n
bounds-work-n c = omega (arith, c.requires.s_bound, room c.requires.filled c.requires.labelled_to c.requires.s_bound)

pub returns-then-word-le-MOST-clause-labelled_to_2 : goal.returns-then-word-le-MOST-clause-labelled_to_2
returns-then-word-le-MOST-clause-labelled_to_2 c =
    nothing c.requires.filled c.requires.labelled_to c.requires.s_bound c.if-word-le-MOST.true

pub bounds-work-n-3 : goal.bounds-work-n-3
bounds-work-n-3 c =
    let q = c.requires in
    simp length-set
    (omega (arith, left q.filled q.labelled_to q.s_bound c.if-word-le-MOST.false, room q.filled q.labelled_to q.s_bound))

pub fill-full-requires : goal.fill-full-requires
fill-full-requires c =
    starts c.requires.filled c.requires.labelled_to c.requires.s_bound c.if-word-le-MOST.false

pub bounds-work-n-4 : goal.bounds-work-n-4
bounds-work-n-4 c =
    let q = c.requires in
    let e = c.fill-full.ensures in
    end_in q.filled q.labelled_to q.s_bound c.if-word-le-MOST.false e.filled e.regions_value e.since

pub returns : goal.returns
returns c =
    let q = c.requires in
    let e = c.fill-full.ensures in
    let k = ends q.filled q.labelled_to q.s_bound c.if-word-le-MOST.false e.filled e.regions_value e.since in record { filled_2 = k.0; labelled_to_2 = k.1; since = k.2 }
