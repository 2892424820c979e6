-- `qualify::candidates` meets its contract: the left neighbours of the pivot are looked through, one after the other.
-- Assumes nothing.
use Rattle.std.specs.Prelude.{◌++◌}
use Prim.Native.Nat.{◌+◌, ◌*◌, ◌≤◌}
use lib.ListN.{take}
use Rattle.theory.specs.Parts.{Filled}
use Rattle.ranks.specs.Held.{ranked_graph}
use Rattle.qualify.proofs.Sifted.{sifted}
use Rattle.qualify.proofs.candidates.Given as goal

abbrev pub invariant-loop-rank : goal.invariant-loop-rank
invariant-loop-rank l =
    let n = l.g.lent.table.n in
    let w = l.fn.work in
    (l.m ≤ l.rank-index) × Filled (3 * n) (3 * n + n) (sifted (ranked_graph l.g) w l.taken l.left l.rank-index) w (take (3 * n) w ++ l.candidates) l.m
