-- `larger::bring_back` meets its contract: the marks that were passed are those of a return.
-- Assumes nothing.
use Rattle.larger.proofs.Marking.{Marking, after-return}
use Rattle.larger.proofs.bring_back.Given as goal

abbrev pub invariant-loop-mark : goal.invariant-loop-mark
invariant-loop-mark l = Marking l.initial.marks (after-return l.depth l.initial.marks) l.marks l.mark-index
