-- `query::lent_query` meets its contract: each return goes by the tests that led there.
-- Assumes nothing.
use Rattle.std.proofs.Common.{sym, ◌∙◌}
use Rattle.model.specs.Calls.{refuse}
use Rattle.refusal.proofs.Handed.{fault-met, number-some}
use Rattle.query.proofs.Refusals.{query_input, query-bytes}
use Rattle.query.proofs.lent_query.Goals as goal

pub returns-in_err-input-clause-refused : goal.returns-in_err-input-clause-refused
returns-in_err-input-clause-refused c =
    let r = c.in_err-input.field-0.0 in
    fault-met _ r c.from_residual.ensures.1 ∙ query_input _ _ _ _ c.in_err-input.ensures.refused (number-some r)

pub returns-then-any_over-clause-refused : goal.returns-then-any_over-clause-refused
unfolding refuse
returns-then-any_over-clause-refused c = query-bytes _ _ _ _ c.in_ok-input.ensures.refused (sym c.any_over.ensures ∙ c.if-any_over.true)

pub returns-clause-refused : goal.returns-clause-refused
unfolding refuse
returns-clause-refused c = query-bytes _ _ _ _ c.in_ok-input.ensures.refused (sym c.any_over.ensures ∙ c.if-any_over.false)
