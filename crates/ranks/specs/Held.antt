-- The graph whose rank order a slice holds.
-- Assumes nothing.
use Rattle.model.specs.Graph.{Graph}
use Rattle.graph.specs.Held.{graph_in}
use Rattle.ranks.specs.declared.ranked.Ranked.{Ranked}

-- the graph of the table
abbrev pub ranked_graph : Ranked → Graph
ranked_graph g = graph_in g.lent.table
