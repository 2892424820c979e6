-- The graph that a table holds, and the list of its degrees.
-- Assumes nothing.
use Rattle.std.specs.Prelude.{ℕ, ◌≡◌, List, length}
use Rattle.model.specs.Graph.{Graph}
use Rattle.graph.specs.Table.{graph_of}
use Rattle.graph.specs.Degrees.{HoldsDegrees}
use Rattle.graph.specs.declared.table.Table.{Table}

-- the graph of the table
abbrev pub graph_in : Table → Graph
graph_in t = graph_of t.n t.numbers.now

-- the list has an entry for each vertex, its degree
pub record Lists (t : Table) (d : List ℕ) : Type 0 where
  pub whole : length d ≡ t.n
  pub degrees : HoldsDegrees t.n (graph_in t) d
