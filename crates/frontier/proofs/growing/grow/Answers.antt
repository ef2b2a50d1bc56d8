-- `frontier::growing::grow`: repainting, then absorbing. Assumes nothing.
use Rattle.std.proofs.Common.{arith}
use Rattle.verdicts.proofs.Keeping.{sheet-few}
use Rattle.frontier.proofs.Decided.{decided_growth, decided_groups}
use Rattle.frontier.proofs.growing.grow.Goals as goal

pub repaint_all-requires : goal.repaint_all-requires
repaint_all-requires c =
    let d = c.requires in
    record { planes = (record { few = sheet-few d.sheet; room = d.sheet.room }, omega (arith, d.room)); by_index = λ i l m. (d.groups i l m, omega (arith, (d.numbers i l m).0)) }

pub absorb_all-requires : goal.absorb_all-requires
absorb_all-requires c = record { growth = decided_growth c.requires c.repaint_all.ensures; by_index = decided_groups c.requires c.repaint_all.ensures }

pub returns : goal.returns
returns c = record { middle = c.repaint_all.new.work; repainted = c.repaint_all.ensures; gained = c.absorb_all.ensures }
