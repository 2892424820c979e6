-- `larger::drop_out` meets its contract: the marks that were passed are those once the member is added, and those that dropped out are counted.
-- Assumes nothing.
use Rattle.graph.specs.Held.{graph_in}
use Rattle.larger.specs.Places.{marks_of}
use Rattle.larger.proofs.Marking.{Dropping}
use Rattle.larger.proofs.drop_out.Given as goal

abbrev pub invariant-loop-e : goal.invariant-loop-e
invariant-loop-e l = Dropping (graph_in l.table) l.candidates (marks_of l.initial.marks) l.v l.depth l.initial.marks l.marks l.out l.e
