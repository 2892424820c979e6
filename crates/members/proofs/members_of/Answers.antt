-- `members::members_of` meets its contract: the members that were passed stand in part 1.
-- Assumes nothing.
use Rattle.std.proofs.Common.{arith}
use borrow.Author.Tests.{eq-eqb, ne_eqb}
use Rattle.theory.proofs.Basics.Parts.{filled_same, filled_none, filled_push, filled_pass}
use Rattle.theory.proofs.Basics.Passing.{passing-none, passing-hit, passing_miss}
use Rattle.members.proofs.members_of.Goals as goal
use Rattle.members.proofs.members_of.Goals.{then-byte-eq1, else-byte-eq1}

pub loop-v-init : goal.loop-v-init
loop-v-init c = (omega arith, filled_none _ _ _ _ (passing-none _))

pub loop-v-preserved : goal.loop-v-preserved
loop-v-preserved c =
    let s = c.loop-v.invariant.1 in
    elim c.if-byte-eq1.branch [
      | then-byte-eq1 w ↦ (omega arith, filled_same w.work-is w.k-is (filled_push _ _ _ s _ _ (passing-hit _ _ (eq-eqb _ _ w.if-byte-eq1.true)) (omega arith) (omega arith)))
      | else-byte-eq1 w ↦ (omega arith, filled_same w.work-is w.k-is (filled_pass _ _ _ s _ (passing_miss _ _ (ne_eqb _ _ w.if-byte-eq1.false))))
    ]
