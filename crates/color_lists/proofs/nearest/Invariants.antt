-- `nearest`: the best of the first k entries is found, and the colours from there on are left. Assumes nothing.
use Rattle.std.proofs.Common.{◌≡◌, ◌*◌, ◌≤◌, drop, length}
use Rattle.std.specs.Slice.Iter.{chunks_exact_rest, chunks_exact_size}
use Rattle.color_lists.specs.Entries.{best_of}
use Rattle.color_lists.proofs.nearest.Given as goal

abbrev pub invariant-loop-k : goal.invariant-loop-k
invariant-loop-k l =
    let k = l.k-iterator.count in
    record {
      size : chunks_exact_size l.k-iterator.iter ≡ 3;
      rest : chunks_exact_rest l.k-iterator.iter ≡ drop (3 * k) l.palette;
      inside : 3 * k ≤ length l.palette;
      best : l.best ≡ best_of l.palette l.p k;
    }
