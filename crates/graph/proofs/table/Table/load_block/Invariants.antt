-- `graph::Table::load_block` meets its contract: the rows that were passed have their numbers.
-- Assumes nothing.
use Rattle.std.proofs.Common.{ℕ, ◌+◌, ◌*◌, ◌<◌, ◌≡◌, length, get_or}
use Rattle.model.specs.Graph.{packed_number}
use Rattle.graph.specs.Held.{graph_in}
use Rattle.graph.proofs.table.Table.load_block.Given as goal

abbrev pub invariant-loop-r : goal.invariant-loop-r
invariant-loop-r l = (length l.block ≡ 64) × ((k : ℕ) → k < l.r → get_or l.block k 0 ≡ packed_number (graph_in l.self) (64 * l.i + k) l.j)
