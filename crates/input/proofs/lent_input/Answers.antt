-- `input::lent_input` meets its contract, test by test.
-- Assumes nothing.
use Rattle.std.proofs.Common.{◌∙◌, arith}
use Rattle.refusal.proofs.Handed.{fault-met, number-some}
use Rattle.input.proofs.Refusals.{by_graph, by_settings, by_bytes_lem, by_work, by_none}
use Rattle.input.proofs.lent_input.Goals as goal

pub returns-in_err-lent-clause-refused : goal.returns-in_err-lent-clause-refused
returns-in_err-lent-clause-refused c =
    let r = c.in_err-lent.field-0.0 in
    fault-met _ r c.from_residual.ensures.1 ∙ by_graph _ _ _ _ c.in_err-lent.ensures.refused (number-some r)

pub returns-in_err-criterion-clause-refused : goal.returns-in_err-criterion-clause-refused
returns-in_err-criterion-clause-refused c =
    let r = c.in_err-criterion.field-0.0 in
    fault-met _ r c.from_residual-in_err-criterion.ensures.1 ∙ by_settings _ _ _ _ c.in_ok-lent.ensures.refused c.in_err-criterion.ensures.refused (number-some r)

pub returns-then-bytes-n-clause-refused : goal.returns-then-bytes-n-clause-refused
returns-then-bytes-n-clause-refused c = by_bytes_lem _ _ _ _ c.in_ok-lent.ensures.refused c.in_ok-criterion.ensures.refused c.if-bytes-n.true

pub returns-then-work-n-clause-refused : goal.returns-then-work-n-clause-refused
returns-then-work-n-clause-refused c =
    by_work _ _ _ _ c.in_ok-lent.ensures.refused c.in_ok-criterion.ensures.refused c.if-bytes-n.false (omega (arith, c.if-work-n.true))

pub returns-clause-refused : goal.returns-clause-refused
returns-clause-refused c = by_none _ _ _ _ c.in_ok-lent.ensures.refused c.in_ok-criterion.ensures.refused c.if-bytes-n.false (omega (arith, c.if-work-n.false))
