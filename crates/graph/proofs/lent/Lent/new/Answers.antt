-- `graph::Lent::new` meets its contract: the table decides first, and then the two tests of the list.
-- Assumes nothing.
use mathlib.Core.Path.{◌≡◌, refl, sym, ap, ◌∙◌}
use mathlib.Core.Bool.{false, not}
use borrow.Author.Tests.{eq-eqb, ne_eqb}
use Rattle.model.specs.Calls.{refuse}
use Rattle.refusal.proofs.Handed.{fault-met, number-some}
use Rattle.graph.specs.Table.{lent}
use Rattle.graph.proofs.Faults.{by_table_lem, by_list, wrong_degree-of, lists-passed}
use Rattle.graph.proofs.lent.Lent.new.Goals as goal
use Rattle.graph.proofs.lent.Lent.new.Goals.{After-has_wrong_degree}

pub returns-in_err-table-clause-refused : goal.returns-in_err-table-clause-refused
returns-in_err-table-clause-refused c =
    let r = c.in_err-table.field-0.0 in
    fault-met _ r c.from_residual.ensures.1 ∙ by_table_lem _ _ _ c.in_err-table.ensures.refused (number-some r)

pub returns-then-degrees-n-clause-refused : goal.returns-then-degrees-n-clause-refused
unfolding refuse
returns-then-degrees-n-clause-refused c = by_list _ _ _ c.in_ok-table.ensures.refused refl (ap not (ne_eqb _ _ c.if-degrees-n.true)) refl

pub returns-then-has_wrong_degree-clause-refused : goal.returns-then-has_wrong_degree-clause-refused
unfolding refuse
returns-then-has_wrong_degree-clause-refused c =
    let t = c.in_ok-table in
    by_list _ _ _ t.ensures.refused refl (ap not (eq-eqb _ _ c.if-degrees-n.false))
    (sym (wrong_degree-of t.table t.ensures.held _) ∙ sym c.has_wrong_degree.ensures ∙ c.if-has_wrong_degree.true)

-- the graph is accepted
accepted : (c : After-has_wrong_degree) → c.has_wrong_degree.result ≡ false → 0 ≡ (lent c.args.n c.args.numbers.now c.args.degrees.now).fault
unfolding refuse
accepted c e =
    let t = c.in_ok-table in
    by_list _ _ _ t.ensures.refused refl (ap not (eq-eqb _ _ c.if-degrees-n.false)) (sym (wrong_degree-of t.table t.ensures.held _) ∙ sym c.has_wrong_degree.ensures ∙ e)

pub invariant_of-result : goal.invariant_of-result
invariant_of-result c =
    let t = c.in_ok-table in
    record { listed = lists-passed t.table t.ensures.held _ (sym (accepted (goal.at.invariant_of-result c).After-has_wrong_degree c.if-has_wrong_degree.false)) }

pub returns-clause-refused : goal.returns-clause-refused
returns-clause-refused c = accepted (goal.at.returns-clause-refused c).After-has_wrong_degree c.if-has_wrong_degree.false
