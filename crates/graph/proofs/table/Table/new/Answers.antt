-- `graph::Table::new` meets its contract: each return goes by the tests that led there.
-- Assumes nothing.
use Prim.Native.Nat.{◌≤◌}
use mathlib.Core.Path.{refl, sym, ap, ◌∙◌}
use mathlib.Core.Bool.{not}
use native.Mathlib.Nat.{mul-le-mul}
use native.Mathlib.Omega.{arith}
use borrow.Author.Tests.{lt-ltb, le-ltb, eq-eqb, ne_eqb}
use Rattle.model.specs.Calls.{refuse}
use Rattle.graph.proofs.Faults.{refusal_by}
use Rattle.graph.proofs.RowBounds.{row-short}
use Rattle.graph.proofs.table.Table.new.Goals as goal

pub returns-then-n-gt-MOST_VERTICES-clause-refused : goal.returns-then-n-gt-MOST_VERTICES-clause-refused
unfolding refuse
returns-then-n-gt-MOST_VERTICES-clause-refused c = refusal_by _ _ (lt-ltb 1024 _ c.if-n-gt-MOST_VERTICES.true) refl refl refl refl

pub returns-then-numbers-n-clause-refused : goal.returns-then-numbers-n-clause-refused
unfolding refuse
returns-then-numbers-n-clause-refused c = refusal_by _ _ (le-ltb 1024 _ c.if-n-gt-MOST_VERTICES.false) (ap not (ne_eqb _ _ (rw c.row_length-width.ensures at c.if-numbers-n.true))) refl refl refl

pub returns-then-has_stray-clause-refused : goal.returns-then-has_stray-clause-refused
unfolding refuse
returns-then-has_stray-clause-refused c =
    refusal_by _ _ (le-ltb 1024 _ c.if-n-gt-MOST_VERTICES.false) (ap not (eq-eqb _ _ (rw c.row_length-width.ensures at c.if-numbers-n.false))) (sym c.has_stray.ensures ∙ c.if-has_stray.true) refl refl

pub returns-then-has_loop-clause-refused : goal.returns-then-has_loop-clause-refused
unfolding refuse
returns-then-has_loop-clause-refused c =
    refusal_by _ _ (le-ltb 1024 _ c.if-n-gt-MOST_VERTICES.false) (ap not (eq-eqb _ _ (rw c.row_length-width.ensures at c.if-numbers-n.false)))
    (sym c.has_stray.ensures ∙ c.if-has_stray.false) (sym c.has_loop.ensures ∙ c.if-has_loop.true) refl

pub returns-then-has_one_way-clause-refused : goal.returns-then-has_one_way-clause-refused
unfolding refuse
returns-then-has_one_way-clause-refused c =
    refusal_by _ _ (le-ltb 1024 _ c.if-n-gt-MOST_VERTICES.false) (ap not (eq-eqb _ _ (rw c.row_length-width.ensures at c.if-numbers-n.false)))
    (sym c.has_stray.ensures ∙ c.if-has_stray.false) (sym c.has_loop.ensures ∙ c.if-has_loop.false) (sym c.has_one_way.ensures ∙ c.if-has_one_way.true)

pub returns-clause-refused : goal.returns-clause-refused
unfolding refuse
returns-clause-refused c =
    refusal_by _ _ (le-ltb 1024 _ c.if-n-gt-MOST_VERTICES.false) (ap not (eq-eqb _ _ (rw c.row_length-width.ensures at c.if-numbers-n.false)))
    (sym c.has_stray.ensures ∙ c.if-has_stray.false) (sym c.has_loop.ensures ∙ c.if-has_loop.false) (sym c.has_one_way.ensures ∙ c.if-has_one_way.false)

pub overflow_mul-n : goal.overflow_mul-n
overflow_mul-n c =
    let few = c.if-n-gt-MOST_VERTICES.false in
    let small : c.args.n ≤ 1024 = omega arith in
    let short : c.row_length-width.result ≤ 16 = rw c.row_length-width.ensures (row-short c.args.n small) in
    let most = mul-le-mul small short in
    omega arith
