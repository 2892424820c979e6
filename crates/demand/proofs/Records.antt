-- C-14 holds of every call of `page::page`.
-- Assumes nothing.
use mathlib.Core.Path.{sym, subst}
use Rattle.model.specs.Groups.{settings}
use Rattle.model.specs.Records.{Wants}
use Rattle.theory.proofs.Calls.Full.{call_wants}
use Rattle.theory.proofs.Calls.Pages.{records_made}
use Rattle.graph.specs.Table.{graph_of}
use Rattle.demand.specs.Records.{RecordsDemand, WantsDemand}
use Rattle.demand.proofs.Demand.{brought, reported-is, demand}

-- The records of the joined output say what their sets are, and are of the sets that qualify.
pub records_demand : RecordsDemand
records_demand G s simple cs h = records_made G s _ (demand G s simple cs h).done simple.bounded

-- A call wants size + 3 entries at Full, and else none.
pub wants_demand : WantsDemand
wants_demand c h =
    subst (Wants (graph_of c.size c.table) (settings c.notion c.kind c.factor)) (sym (reported-is c h)) (call_wants (brought c) c.position)
