-- `query::decide` meets its contract: refused, with nothing written, or decided by the set's test.
-- Assumes nothing.
use Rattle.query.proofs.Answer.{answer-refused, answer-decided}
use Rattle.query.proofs.decide.Goals as goal

pub returns-in_err-lent : goal.returns-in_err-lent
returns-in_err-lent c = answer-refused _ _ c.from_residual.ensures.1 c.in_err-lent.ensures.refused

pub returns : goal.returns
returns c =
    let h = c.in_ok-lent.ensures.held in
    answer-decided c.in_ok-lent.ensures.refused (rw (h.graph.table.vertices, h.graph.table.numbers, h.settings) at c.set_qualifies.ensures)
