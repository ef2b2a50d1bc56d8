use Rattle.std.proofs.Common.{sym, arith}
use Rattle.silk_text.proofs.Whole.{head-is, area}
use Rattle.silk_text.proofs.sheet.read_file.Goals as goal

pub read_lists-requires : goal.read_lists-requires
read_lists-requires c =
    let b = head-is _ (sym c.in_ok-h.ensures.value) in (omega (arith, b.entries), omega (arith, area b))
