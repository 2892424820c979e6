-- `pack::ByteTable::fill` meets its contract: the numbers that were passed are those of the graph's packed table.
-- Assumes nothing.
use Rattle.std.proofs.Common.{ℕ, ◌*◌, ◌<◌, ◌≡◌, length, get_or}
use Rattle.model.specs.Graph.{row_length, packed_of}
use Rattle.pack.specs.Held.{graph_in}
use Rattle.pack.proofs.bytes.ByteTable.fill.Given as goal

abbrev pub invariant-loop-i : goal.invariant-loop-i
invariant-loop-i l = (length l.packed ≡ l.self.n * row_length l.self.n) × ((k : ℕ) → k < l.i → get_or l.packed k 0 ≡ get_or (packed_of (graph_in l.self)) k 0)
