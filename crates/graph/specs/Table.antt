-- The table as a call lends it, and with the degree list beside it.
-- Assumes nothing.
use Rattle.std.specs.Prelude.{ℕ, ◌*◌, ◌≤◌, ◌≡◌, false, List, length}
use Rattle.model.specs.Graph.{Graph, LentGraph, row_length}
use Rattle.model.specs.Calls.{stray, packed_table, with_degrees}

-- Document 02, C-15: n is at most 1,024, the table is n rows of ceil(n / 64) numbers, and no row has a bit at or past n
pub record TableFits (n : ℕ) (t : List ℕ) : Type 0 where
  pub small : n ≤ 1024
  pub whole : length t ≡ n * row_length n
  pub none-stray : stray n t ≡ false

-- What code is lent as the table of a graph on n vertices: here the form of the table is fixed, and code above this crate speaks of what it is lent by
-- this name and the next two alone.
abbrev pub lent_table : ℕ → List ℕ → LentGraph
lent_table n t = packed_table n t

-- the table with the list of the degrees beside it
abbrev pub lent : ℕ → List ℕ → List ℕ → LentGraph
lent n t d = with_degrees (lent_table n t) d

-- the graph that the table holds
abbrev pub graph_of : ℕ → List ℕ → Graph
graph_of n t = (lent_table n t).graph
