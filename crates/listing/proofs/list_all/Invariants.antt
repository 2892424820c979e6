-- `listing::list_all` meets its contract. The loop keeps the replies so far; the weight of the position falls, since each page makes a step.
-- Assumes nothing.
use Rattle.theory.proofs.Walk.Ends.{weight}
use Rattle.graph.specs.Held.{graph_in}
use Rattle.isolation.specs.Numbers.{settings_of}
use Rattle.listing.specs.List.{Paged}
use Rattle.listing.proofs.list_all.Given as goal

abbrev pub invariant-loop-settings : goal.invariant-loop-settings
invariant-loop-settings g l = Paged (graph_in l.lent.table) (settings_of l.settings) l.position l.totals

abbrev pub decreases-loop-settings : goal.decreases-loop-settings
decreases-loop-settings g l =
    weight l.lent.table.n l.position
