-- `frontier::regions::set_region`: the places of the group so far. Assumes nothing.
use Rattle.frontier.proofs.Setting.{RegionSetting}
use Rattle.frontier.proofs.regions.set_region.Given as goal

abbrev pub invariant-loop-i : goal.invariant-loop-i
invariant-loop-i l = RegionSetting l.n l.at l.j l.v l.i l.fn.work l.work
