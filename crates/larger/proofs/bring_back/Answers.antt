-- `larger::bring_back` meets its contract: the marks that were passed are those of a return.
-- Assumes nothing.
use Rattle.std.proofs.Common.{arith}
use Rattle.theory.proofs.Search.Marks.{returned_brings_back}
use Rattle.larger.proofs.Marking.{marking_start, returning_back, returning-kept}
use Rattle.larger.proofs.bring_back.Goals as goal
use Rattle.larger.proofs.bring_back.Goals.{then-mark-depth, else-mark-depth}

pub loop-mark-init : goal.loop-mark-init
loop-mark-init c = marking_start

pub loop-mark-preserved : goal.loop-mark-preserved
loop-mark-preserved c =
    let l = c.loop-mark in
    elim c.if-mark-depth.branch [
      | then-mark-depth w ↦ rw w.marks-is (returning_back l.invariant (omega (arith, c.loop-mark-test.true, l.auto.marks)) w.if-mark-depth.true)
      | else-mark-depth w ↦ rw w.marks-is (returning-kept l.invariant (omega (arith, c.loop-mark-test.true, l.auto.marks)) w.if-mark-depth.false)
    ]

pub returns : goal.returns
returns c =
    returned_brings_back _ _ _ _ (λ e h. c.loop-mark.invariant.written e (omega (arith, c.loop-mark-test.false, c.loop-mark.auto.marks)))
