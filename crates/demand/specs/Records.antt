-- Document 02, C-14, of the calls of `page::page`: the records of the joined output, and the entries that a call wants.
-- Assumes nothing.
use Rattle.std.specs.Prelude.{List, map}
use Rattle.model.specs.Graph.{Graph}
use Rattle.model.specs.Groups.{Settings, settings}
use Rattle.model.specs.Meaning.{Simple}
use Rattle.model.specs.Walk.{fresh}
use Rattle.model.specs.Records.{RecordsMade, Wants}
use Rattle.graph.specs.Table.{graph_of}
use Rattle.demand.specs.Demand.{MadeCall, Promised, reported, Calls}

-- "Completeness is about the sets in the records, and the edge count equals the summed outside counts": of every graph of document 01, all settings and any
-- list of calls that begins at fresh the joined output is records of the first sets that qualify, each with its set's size, outgoing edges and members in
-- rank order, and once a call has said Finished there is one of every set that qualifies
abbrev pub RecordsDemand : Type 0
RecordsDemand =
    (G : Graph) (s : Settings) → Simple G → (cs : List MadeCall) → Calls G s (fresh G.size) cs → RecordsMade G s (map reported cs)

-- "A group takes size + 3 entries, at Full and in the wanted count too": whatever a call brings
abbrev pub WantsDemand : Type 0
WantsDemand = (c : MadeCall) → Promised c → Wants (graph_of c.size c.table) (settings c.notion c.kind c.factor) (reported c)
