-- `members::common_neighbours` meets its contract: those of the passed vertices that are joined to every member stand in part 3.
-- Assumes nothing.
use Rattle.std.proofs.Common.{sym, ap, ◌∙◌, arith}
use Rattle.theory.specs.Search.{joined_all}
use Rattle.theory.proofs.Basics.Parts.{same-members, filled_same, filled_none, filled_push, filled_pass, kept-state}
use Rattle.theory.proofs.Basics.Passing.{passing-none, passing-hit, passing_miss}
use Rattle.graph.specs.Held.{graph_in}
use Rattle.members.proofs.common_neighbours.Goals as goal
use Rattle.members.proofs.common_neighbours.Goals.{then-joined_to_all, else-joined_to_all}

pub loop-v-init : goal.loop-v-init
loop-v-init c = (omega arith, filled_none _ _ _ _ (passing-none _))

pub loop-v-preserved : goal.loop-v-preserved
loop-v-preserved c =
    let l = c.loop-v in
    let same = same-members (kept-state l.invariant.1.kept (omega arith) c.requires.few) in
    let e = ap (joined_all (graph_in c.args.table.now) l.v) (sym same) ∙ sym c.joined_to_all.ensures in
    elim c.if-joined_to_all.branch [
      | then-joined_to_all w ↦ (omega arith, filled_same w.work-is w.m-is (filled_push _ _ _ l.invariant.1 _ _ (passing-hit _ _ (e ∙ w.if-joined_to_all.true)) (omega arith) (omega arith)))
      | else-joined_to_all w ↦ (omega arith, filled_same w.work-is w.m-is (filled_pass _ _ _ l.invariant.1 _ (passing_miss _ _ (e ∙ w.if-joined_to_all.false))))
    ]
