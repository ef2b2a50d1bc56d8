-- `visit_all`: the steps of the place that waits. Assumes nothing.
use Rattle.std.proofs.Common.{◌≡◌, ℕ, ◌+◌, ◌*◌, ◌≤◌, ◌<◌, List, length, get_or, refl, sym, ap, ◌∙◌, subst, rules, arith, inl, le_refl}
use Prim.Native.Nat.{zero-le}
use lib.IntN.{ℤ}
use mir.Syntax.{w32}
use mir.Val.{of_z, to_z}
use Rattle.rules.specs.Grid.{step_to}
use Rattle.grid.specs.declared.Neighbourhood.{Neighbourhood}
use Rattle.grid.specs.Steps.{steps_of, Single}
use Rattle.grid.specs.Planes.{plane}
use Rattle.grid.proofs.Signs.{single_is}
use Rattle.grid.proofs.Places.{area, offset_single, off_border, steps_most}
use Rattle.grid.proofs.Planes.{plane_read}
use Rattle.labels.specs.declared.Tally.{Tally}
use Rattle.labels.specs.Filling.{seen, Flood, Tinted, Visited}
use Rattle.labels.proofs.Flooding.{Turn, turn_start, turn_on, turn_off}
use Rattle.labels.proofs.Seen.{seen_size, seen_other}
use Rattle.labels.proofs.label.visit_all.Goals as goal

-- the place that waits at head
module _ {h w head : ℕ} {near : Neighbourhood} (work : List ℕ) {from : Tally} (f : Flood h w near (seen (h * w) work) head from) (waits : head < from.taken) where
  waits_in : head < h * w
  waits_in = omega (arith, f.filled.order.free, waits)

  place_is : get_or work (2 * (h * w) + head) 0 ≡ plane (h * w) 2 (seen (h * w) work) head
  place_is =
      plane_read (h * w) 2 head (2 * (h * w) + head) work refl ∙ sym (seen_other (h * w) work 2 head (λ z. omega arith) waits_in)

  place_in : get_or work (2 * (h * w) + head) 0 < h * w
  place_in = let l = (f.filled.order.placed head waits).0 in omega (arith, place_is)

  room : 8 * (h * w) ≤ length work
  room = omega (arith, f.filled.sized.planes, seen_size (h * w) work)

  -- its paint is the code's, after k steps too
  paint_is : {paint k : ℕ} {now : List ℕ} {t : Tally} → Tinted (h * w) (seen (h * w) work) head from.taken paint → Turn h w near (seen (h * w) work) from head (get_or work (2 * (h * w) + head) 0) k now t →
      plane (h * w) 0 now (get_or work (2 * (h * w) + head) 0) ≡ paint
  paint_is tint u = u.since.kept.others 0 _ (inl refl) place_in ∙ ap (plane (h * w) 0 (seen (h * w) work)) place_is ∙ tint.alike head (le_refl _) waits

-- a single step is handed over as one
handed_single : {d : ℤ} → Single d → Single (to_z w32 (of_z w32 d))
handed_single s = rw (single_is s) s

-- a visit by an equal step
visit_by : {n paint : ℕ} (h w y x : ℕ) {dy dy' dx dx' : ℤ} {old new : List ℕ} {t next : Tally} → dy ≡ dy' → dx ≡ dx' → Visited n (step_to h w y x dy dx) paint old t new next → Visited n (step_to h w y x dy' dx') paint old t new next
visit_by h w y x e f v = rw (sym e, sym f) v

pub bounds-work-n : goal.bounds-work-n
bounds-work-n c = omega (arith, waits_in c.args.work.now c.requires.flood.0 c.requires.head_lt_taken, room c.args.work.now c.requires.flood.0 c.requires.head_lt_taken)

pub on_edge-border-requires : goal.on_edge-border-requires
on_edge-border-requires c =
    place_in c.args.work.now c.requires.flood.0 c.requires.head_lt_taken

pub loop-k-init : goal.loop-k-init
loop-k-init c =
    let a = c.args in
    let old = seen (a.g.h * a.g.w) a.work.now in
    let f = c.requires.flood in (
      subst (λ (x : ℕ). Turn a.g.h a.g.w a.g.near old a.from a.head x 0 old a.from) (sym (place_is c.args.work.now f.0 c.requires.head_lt_taken)) (turn_start f.0 f.2 c.requires.head_lt_taken),
      f.1,
      zero-le,
    )

pub returns-then-k-steps : goal.returns-then-k-steps
returns-then-k-steps c =
    let u = c.loop-k.invariant.0 in
    let paint = paint_is c.args.work.now c.requires.flood.0 c.requires.head_lt_taken c.requires.flood.2 u in
    record {
      flood_2 = (turn_off u c.requires.head_lt_taken (omega (arith, c.if-k-steps.true, c.steps-steps.ensures)), c.loop-k.invariant.1, record { alike = λ i lo hi. u.alike i (omega arith) hi ∙ paint });
      since = u.since;
      regions_value = (u.regions, u.taken);
    }

pub visit-t-requires : goal.visit-t-requires
visit-t-requires c =
    let u = c.loop-k.invariant.0 in
    let f = u.flood.filled in
    let n = c.args.g.h * c.args.g.w in
    let few = area _ _ f.sized.rows f.sized.cols in
    let place_on = place_in c.args.work.now c.requires.flood.0 c.requires.head_lt_taken in
    let o = offset_single c.loop-k.k (omega arith) in
    record {
      p_bound = (place_on, omega (arith, f.sized.planes, seen_size n c.loop-k.work));
      single = (search (rules, handed_single, o), search (rules, handed_single, o), λ z. off_border _ _ _ place_on c.on_edge-border.ensures z);
      work_bound = (f.order.free, u.flood.some, omega (arith, f.under, f.order.free, few));
      coded = c.loop-k.invariant.1;
    }

pub loop-k-preserved : goal.loop-k-preserved
loop-k-preserved c =
    let more : c.loop-k.k < steps_of c.args.g.near = omega (arith, c.loop-k.invariant.2, c.if-k-steps.false, c.steps-steps.ensures) in
    let paint = paint_is c.args.work.now c.requires.flood.0 c.requires.head_lt_taken c.requires.flood.2 c.loop-k.invariant.0 in
    let o = offset_single c.loop-k.k (omega arith) in
    (turn_on c.loop-k.invariant.0 c.requires.head_lt_taken more (visit_by _ _ _ _ (single_is o.0) (single_is o.1) (rw (sym paint) at c.visit-t.ensures.visited)), c.visit-t.ensures.coded_2, omega arith)

pub returns : goal.returns
returns c =
    let u = c.loop-k.invariant.0 in
    let paint = paint_is c.args.work.now c.requires.flood.0 c.requires.head_lt_taken c.requires.flood.2 u in
    record {
      flood_2 = (turn_off u c.requires.head_lt_taken (omega (arith, steps_most c.args.g.near)), c.loop-k.invariant.1, record { alike = λ i lo hi. u.alike i (omega arith) hi ∙ paint });
      since = u.since;
      regions_value = (u.regions, u.taken);
    }
