-- `pack::ByteTable::number` meets its contract: the number has the bits of the vertices that were passed.
-- Assumes nothing.
use Rattle.std.proofs.Common.{◌≡◌, ◌+◌, ◌*◌, ◌^◌}
use Rattle.model.specs.Below.{bit, total}
use Rattle.pack.specs.Held.{graph_in}
use Rattle.pack.proofs.bytes.ByteTable.number.Given as goal

abbrev pub invariant-loop-k : goal.invariant-loop-k
invariant-loop-k l = l.number ≡ total l.k (λ k. bit ((graph_in l.self).joined l.u (64 * l.j + k)) * 2 ^ k)
