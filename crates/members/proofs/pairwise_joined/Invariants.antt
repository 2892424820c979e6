-- `members::pairwise_joined` meets its contract: each member that was passed is joined to all before it.
-- Assumes nothing.
use Rattle.std.proofs.Common.{ℕ, ◌<◌, ◌≡◌, true}
use Rattle.graph.specs.Held.{graph_in}
use Rattle.members.proofs.Listed.{joins-before}
use Rattle.members.proofs.pairwise_joined.Given as goal

abbrev pub invariant-loop-i : goal.invariant-loop-i
invariant-loop-i l = (k : ℕ) → k < l.i → joins-before (graph_in l.table) l.members k ≡ true
