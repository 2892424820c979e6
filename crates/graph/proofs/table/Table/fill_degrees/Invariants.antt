-- `graph::Table::fill_degrees` meets its contract: the entry of each vertex that was passed is its degree.
-- Assumes nothing.
use Rattle.std.proofs.Common.{ℕ, ◌<◌, ◌≡◌, length, get_or}
use Rattle.model.specs.Graph.{degree}
use Rattle.graph.specs.Held.{graph_in}
use Rattle.graph.proofs.table.Table.fill_degrees.Given as goal

abbrev pub invariant-loop-u : goal.invariant-loop-u
invariant-loop-u l = (length l.degrees ≡ l.self.n) × ((k : ℕ) → k < l.u → get_or l.degrees k 0 ≡ degree (graph_in l.self) k)
