-- `larger::least_degree` meets its contract: no degree that was read is below the number.
-- Assumes nothing.
use Rattle.std.proofs.Common.{ℕ, ◌≤◌, ◌<◌, get_or}
use Rattle.model.specs.Graph.{degree}
use Rattle.graph.specs.Held.{graph_in}
use Rattle.larger.proofs.least_degree.Given as goal

abbrev pub invariant-loop-v : goal.invariant-loop-v
invariant-loop-v l = (l.low ≤ 65535) × ((e : ℕ) → e < l.v-index → l.low ≤ degree (graph_in l.lent.table) (get_or l.candidates e 0))
