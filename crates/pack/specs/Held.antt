-- The graph that a byte table holds.
-- Assumes nothing.
use Rattle.model.specs.Graph.{Graph, by_table}
use Rattle.pack.specs.declared.bytes.ByteTable.{ByteTable}

abbrev pub graph_in : ByteTable → Graph
graph_in t = by_table t.n t.bytes.now
