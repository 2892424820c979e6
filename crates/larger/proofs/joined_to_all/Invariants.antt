-- `larger::joined_to_all` meets its contract: v is joined to each vertex that was passed.
-- Assumes nothing.
use Rattle.std.proofs.Common.{ℕ, ◌<◌, ◌≡◌, true, get_or}
use Rattle.graph.specs.Held.{graph_in}
use Rattle.larger.proofs.joined_to_all.Given as goal

abbrev pub invariant-loop-u : goal.invariant-loop-u
invariant-loop-u l = (k : ℕ) → k < l.u-index → (graph_in l.table).joined l.v (get_or l.vertices k 0) ≡ true
