-- `state::State::left_once_taken` meets its contract: part 2 holds the ranks that were passed and are adjacent to d.
-- Assumes nothing.
use Prim.Native.Nat.{◌*◌}
use mathlib.Core.Path.{sym, ◌∙◌}
use native.Mathlib.Omega.{arith}
use Rattle.model.specs.Listing.{adjacent}
use Rattle.theory.proofs.Basics.Parts.{filled_none, filled_push, filled_pass, filled_same}
use Rattle.theory.proofs.Basics.Passing.{passing-none, passing-hit, passing_miss}
use Rattle.ranks.specs.Held.{ranked_graph}
use Rattle.state.proofs.RankPushed.{adjacent_by, left-stays, left-found}
use Rattle.state.proofs.State.left_once_taken.Goals as goal
use Rattle.state.proofs.State.left_once_taken.Goals.{then-joined, else-joined}

pub returns-then-self-gt0 : goal.returns-then-self-gt0
returns-then-self-gt0 c =
    let q = c.requires in
    left-stays q.1 q.0.1.left-bound (omega arith)

pub loop-i-init : goal.loop-i-init
loop-i-init c = (omega arith, filled_none _ _ _ _ (passing-none _))

pub loop-i-preserved : goal.loop-i-preserved
loop-i-preserved c =
    let q = c.requires in
    let n = c.args.g.now.lent.table.n in
    let i = c.loop-i.i in
    let inv = c.loop-i.invariant in
    let p = adjacent (ranked_graph c.args.g.now) c.args.self.decided in
    let a = sym (adjacent_by _ c.args.self.decided i c.vertex_at-v.ensures.0 c.vertex_at-u.ensures.0) ∙ sym c.joined.ensures in
    elim c.if-joined.branch [
      | then-joined y ↦ (omega arith, filled_same y.work-is y.m-is (filled_push (2 * n) (3 * n) c.args.work.now inv.1 i _ (passing-hit p i (a ∙ y.if-joined.true)) (omega arith) (omega (arith, q.0.1.room))))
      | else-joined y ↦ (omega arith, filled_same y.work-is y.m-is (filled_pass _ _ _ inv.1 _ (passing_miss p i (a ∙ y.if-joined.false))))
    ]

pub returns : goal.returns
returns c =
    let q = c.requires in
    let l = c.loop-i in
    left-found q.1 (omega arith) (omega arith) l.invariant.0 l.invariant.1
