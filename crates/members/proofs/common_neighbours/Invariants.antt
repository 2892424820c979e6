-- `members::common_neighbours` meets its contract: those of the passed vertices that are joined to every member stand in part 3.
-- Assumes nothing.
use Rattle.std.proofs.Common.{◌+◌, ◌*◌, ◌≤◌}
use Rattle.model.specs.Below.{passing}
use Rattle.theory.specs.Search.{joined_all}
use Rattle.theory.specs.Parts.{part, Filled}
use Rattle.graph.specs.Held.{graph_in}
use Rattle.members.proofs.common_neighbours.Given as goal

abbrev pub invariant-loop-v : goal.invariant-loop-v
invariant-loop-v l =
    (l.m ≤ l.v)
    × Filled (3 * l.table.n) (3 * l.table.n + l.table.n) (passing l.v (λ u. joined_all (graph_in l.table) u (part l.initial.work l.table.n l.k))) l.initial.work l.work l.m
