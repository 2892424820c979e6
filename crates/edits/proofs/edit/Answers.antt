-- `edits::edit` meets its contract: refused, so already, or written.
-- Assumes nothing.
use mathlib.Core.Path.{◌≡◌, sym}
use mathlib.Core.Bool.{false, beq}
use native.Mathlib.Omega.{arith}
use Rattle.theory.proofs.Basics.Tests.{beq_false}
use Rattle.graph.specs.Table.{graph_of}
use Rattle.edits.proofs.Refusals.{CanEdit, can_edit, can_write, can_move_to, can_move_from}
use Rattle.edits.proofs.Replies.{replies-refused, replies-same, replies-done}
use Rattle.edits.proofs.edit.Goals as goal
use Rattle.edits.proofs.edit.Goals.{In_ok-lent, Else-joined-joins}

-- past the refusals the edit is accepted
accepted : (c : In_ok-lent) → let g = c.args in CanEdit g.n g.table.now g.degrees.now g.u g.v
accepted c = can_edit (sym c.in_ok-lent.ensures.refused)

-- and past the test of the pair, the pair is not so yet
other : (c : Else-joined-joins) → let g = c.args in beq ((graph_of g.n g.table.now).joined g.u g.v) g.joins ≡ false
other c =
    let h = c.in_ok-lent.ensures.held.table in
    rw (c.joined.ensures, h.vertices, h.numbers) at c.if-joined-joins.false

pub returns-in_err-lent : goal.returns-in_err-lent
returns-in_err-lent c = replies-refused _ _ c.from_residual.ensures.1 c.in_err-lent.ensures.refused

pub joined-requires : goal.joined-requires
joined-requires c =
    let a = accepted (goal.at.joined-requires c).In_ok-lent in
    let h = c.in_ok-lent.ensures.held.table.vertices in
    (omega (arith, a.from-below, a.to_below), omega (arith, a.from-below, a.to_below))

pub returns-then-joined-joins : goal.returns-then-joined-joins
returns-then-joined-joins c =
    let h = c.in_ok-lent.ensures.held.table in
    let a = accepted (goal.at.returns-then-joined-joins c).In_ok-lent in
    replies-same a.passes (rw (c.joined.ensures, h.vertices, h.numbers) at c.if-joined-joins.true)

pub write_pair-requires : goal.write_pair-requires
write_pair-requires c = can_write (accepted (goal.at.write_pair-requires c).In_ok-lent)

pub move_degree-requires : goal.move_degree-requires
move_degree-requires c =
    let at = goal.at.move_degree-requires c in
    can_move_to (accepted at.In_ok-lent) _ (beq_false _ _ (other at.Else-joined-joins))

pub move_degree-requires-2 : goal.move_degree-requires-2
move_degree-requires-2 c =
    let at = goal.at.move_degree-requires-2 c in
    can_move_from (accepted at.In_ok-lent) _ (beq_false _ _ (other at.Else-joined-joins)) c.move_degree.ensures

pub returns : goal.returns
returns c =
    let at = goal.at.returns c in
    replies-done (accepted at.In_ok-lent).passes (other at.Else-joined-joins) c.write_pair.ensures c.move_degree.ensures c.move_degree-2.ensures
