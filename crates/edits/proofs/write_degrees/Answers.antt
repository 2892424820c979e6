-- `edits::write_degrees` meets its contract: the table decides first, then the length of the list.
-- Assumes nothing.
use Rattle.std.proofs.Common.{arith}
use Rattle.refusal.proofs.Handed.{fault-met}
use Rattle.edits.proofs.Replies.{lists_refused, lists_other-length, lists_done}
use Rattle.edits.proofs.write_degrees.Goals as goal

pub returns-in_err-table : goal.returns-in_err-table
returns-in_err-table c =
    let r = c.in_err-table.field-0.0 in
    lists_refused r c.in_err-table.ensures.refused (fault-met _ r c.from_residual.ensures.1)

pub returns-then-degrees-n : goal.returns-then-degrees-n
returns-then-degrees-n c = lists_other-length c.in_ok-table.ensures.refused (λ z. omega (arith, c.if-degrees-n.true))

pub returns : goal.returns
returns c =
    let t = c.in_ok-table in
    lists_done t.ensures.refused (omega (arith, c.if-degrees-n.false)) (rw (t.ensures.held.vertices, t.ensures.held.numbers) at c.fill_degrees.ensures)
