-- `advance`: column by column. Assumes nothing.
use Rattle.std.proofs.Common.{◌≡◌, ◌+◌, get_or, pos, refl, rules, arith}
use mir.Syntax.{w32}
use mir.Val.{SFits}
use mir.Facts.{to_z-of_z}
use Rattle.jaggies.proofs.Rows.{moved_none, moved_more}
use Rattle.jaggies.proofs.advance.Goals as goal

pub loop-i-init : goal.loop-i-init
loop-i-init c = moved_none _ _ _ _

pub loop-i-preserved : goal.loop-i-preserved
loop-i-preserved c =
    let f : SFits w32 (get_or c.args.cells.now (c.args.end + c.loop-i.i) (pos 0)) = search rules in
    moved_more c.loop-i.invariant c.loop-i-test.true (omega arith) _ _ _ refl refl (rw (to_z-of_z f) at c.paint.ensures.0) c.paint.ensures.1

pub returns : goal.returns
returns c = let all : c.loop-i.i ≡ c.args.w = omega arith in rw all at c.loop-i.invariant
