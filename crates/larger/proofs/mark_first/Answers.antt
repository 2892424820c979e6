-- `larger::mark_first` meets its contract: the marks that were passed are those once the member is added, and those that dropped out are counted.
-- Assumes nothing.
use Rattle.std.proofs.Common.{◌<◌, length, refl, sym, ◌∙◌, arith}
use Rattle.theory.proofs.Search.Marks.{dropped-joined}
use Rattle.larger.proofs.Marking.{dropping_start, dropping-few, dropping_out, dropping-written, dropping_end}
use Rattle.larger.proofs.mark_first.Goals as goal
use Rattle.larger.proofs.mark_first.Goals.{then-joined, else-joined}

pub loop-e-init : goal.loop-e-init
loop-e-init c = dropping_start _ _ _ _ _

pub overflow_add-out : goal.overflow_add-out
overflow_add-out c = let few = dropping-few _ _ _ _ _ c.loop-e.invariant in omega (arith, c.loop-e-test.true, c.requires.member, few)

pub loop-e-preserved : goal.loop-e-preserved
loop-e-preserved c =
    let l = c.loop-e in
    let fits : l.e < length l.marks = omega (arith, c.loop-e-test.true, l.auto.marks) in
    elim c.if-joined.branch [
      | then-joined w ↦ rw (w.marks-is, w.out-is) (dropping-written _ _ _ _ _ l.invariant c.from.ensures (sym w.if-joined.true ∙ c.joined.ensures) (dropped-joined _ _) refl fits)
      | else-joined w ↦ rw (w.marks-is, w.out-is) (dropping_out _ _ _ _ _ l.invariant c.from.ensures c.joined.ensures c.requires.member.1 w.if-joined.false refl fits)
    ]

pub returns : goal.returns
returns c = dropping_end _ _ _ _ _ c.loop-e.invariant (omega (arith, c.loop-e-test.false, c.loop-e.auto.e-end))
