-- `edits::lent_pair` meets its contract, test by test.
-- Assumes nothing.
use mathlib.Core.Logic.{inl, inr, ⊎_elim}
use Rattle.std.proofs.Common.{◌∙◌}
use Rattle.refusal.proofs.Handed.{fault-met, number-some}
use Rattle.edits.proofs.Refusals.{by_lent, by_range, by_ends, by_none}
use Rattle.edits.proofs.lent_pair.Goals as goal

pub returns-in_err-lent-clause-refused : goal.returns-in_err-lent-clause-refused
returns-in_err-lent-clause-refused c =
    let r = c.in_err-lent.field-0.0 in
    fault-met _ r c.from_residual.ensures.1 ∙ by_lent _ _ _ c.in_err-lent.ensures.refused (number-some r)

pub returns-then-n-u-clause-refused : goal.returns-then-n-u-clause-refused
returns-then-n-u-clause-refused c = by_range _ _ _ c.in_ok-lent.ensures.refused (⊎_elim inl (λ h. inr h.1) c.then-n-u.either)

pub returns-then-u-v-clause-refused : goal.returns-then-u-v-clause-refused
returns-then-u-v-clause-refused c = by_ends _ _ _ c.in_ok-lent.ensures.refused c.if-n-u.false c.if-n-v.false c.if-u-v.true

pub returns-clause-refused : goal.returns-clause-refused
returns-clause-refused c = by_none _ _ _ c.in_ok-lent.ensures.refused c.if-n-u.false c.if-n-v.false c.if-u-v.false
