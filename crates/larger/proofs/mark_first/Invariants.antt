-- `larger::mark_first` meets its contract: the marks that were passed are those once the member is added, and those that dropped out are counted.
-- Assumes nothing.
use Rattle.graph.specs.Held.{graph_in}
use Rattle.theory.specs.Marks.{all_in}
use Rattle.larger.proofs.Marking.{Dropping}
use Rattle.larger.proofs.mark_first.Given as goal

abbrev pub invariant-loop-e : goal.invariant-loop-e
invariant-loop-e l = Dropping (graph_in l.table) l.candidates all_in l.v l.depth l.initial.marks l.marks l.out l.e
