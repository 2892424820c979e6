-- `larger::drop_out` meets its contract: the marks that were passed are those once the member is added, and those that dropped out are counted.
-- Assumes nothing.
use Rattle.std.proofs.Common.{◌<◌, length, sym, ◌∙◌, arith}
use Rattle.theory.proofs.Search.Marks.{dropped-joined, dropped-out}
use Rattle.larger.proofs.Marking.{dropping_start, dropping-few, dropping_out, dropping-written, dropping_end}
use Rattle.larger.proofs.drop_out.Goals as goal
use Rattle.larger.proofs.drop_out.Goals.{then-not-joined+then-mark-eq0, else-not-joined, else-not-joined-via-then-not-joined+else-mark-eq0, else-not-joined-via-else-not-joined}

pub loop-e-init : goal.loop-e-init
loop-e-init c = dropping_start _ _ _ _ _

pub overflow_add-out : goal.overflow_add-out
overflow_add-out c = let few = dropping-few _ _ _ _ _ c.loop-e.invariant in omega (arith, c.loop-e-test.true, c.requires.member, few)

pub loop-e-preserved : goal.loop-e-preserved
loop-e-preserved c =
    let l = c.loop-e in
    let fits : l.e < length l.marks = omega (arith, c.loop-e-test.true, l.auto.marks) in
    let ahead = l.invariant.marking.ahead l.e (omega arith) in
    elim c.if-not-joined.branch [
      | then-not-joined+then-mark-eq0 w ↦ rw (w.marks-is, w.out-is) (dropping_out _ _ _ _ _ l.invariant c.from.ensures c.joined.ensures c.requires.member.1 w.if-not-joined.true (sym ahead ∙ w.if-mark-eq0.true) fits)
      | else-not-joined w ↦ rw (w.marks-is, w.out-is) (
          elim w.else-not-joined.branch [
            | else-not-joined-via-then-not-joined+else-mark-eq0 x ↦ rw x.marks-is (dropping-written _ _ _ _ _ l.invariant c.from.ensures c.joined.ensures (dropped-out _ _ _ (λ q. x.if-mark-eq0.false (ahead ∙ q))) ahead fits)
            | else-not-joined-via-else-not-joined x ↦ rw x.marks-is (dropping-written _ _ _ _ _ l.invariant c.from.ensures (sym x.if-not-joined.false ∙ c.joined.ensures) (dropped-joined _ _) ahead fits)
          ]
          )
    ]

pub returns : goal.returns
returns c = dropping_end _ _ _ _ _ c.loop-e.invariant (omega (arith, c.loop-e-test.false, c.loop-e.auto.e-end))
