-- `lines::Reader::edge` meets its contract: the tests 33, 36 and 37 in their order, and then both cells of the pair are set, whatever they held.
-- Assumes nothing.
use Prim.Native.Nat.{ℕ, ◌≤◌}
use mathlib.Core.Path.{◌≡◌, refl, ◌∙◌}
use mathlib.Core.Bool.{true}
use mathlib.Core.Logic.{inl, inr}
use native.Mathlib.Omega.{arith}
use lib.Dec.{eqb}
use borrow.Author.Tests.{eq-eqb, ne_eqb}
use Rattle.model.specs.Text.{Reading, next, fault}
use Rattle.model.specs.EdgeText.{OutOfRange}
use Rattle.theory.proofs.Basics.Tests.{fails}
use Rattle.theory.proofs.Text.EdgeTextFaults.{not-out_of_range}
use Rattle.theory.proofs.Text.EdgeTextStep.{joined_by, out_test}
use Rattle.lines.specs.Line.{edge_step}
use Rattle.lines.proofs.Lines.{at_fault, past_fault, edge_tests}
use Rattle.lines.proofs.Steps.{faulty, past_33, joined}
use Rattle.lines.proofs.reader.Reader.edge.Goals as goal

-- past the first test U and V are from 1 to N
within : (n u v : ℕ) → (u ≡ 0 → ⊥) → u ≤ n → (v ≡ 0 → ⊥) → v ≤ n → OutOfRange n u v → ⊥
within n u v a b d e (inl h) = omega arith
within n u v a b d e (inr (inl h)) = omega arith
within n u v a b d e (inr (inr (inl h))) = omega arith
within n u v a b d e (inr (inr (inr h))) = omega arith

past-36 : (r : Reading) (u v : ℕ) → true ≡ r.passed → (OutOfRange r.vertices u v → ⊥) → fault 37 (eqb u v) (next (joined_by r u v)) ≡ edge_step r u v
past-36 r u v p w = past_fault _ (edge_tests _ _ _ ∙ past_33 r u v p) (fails _ (λ e. w ((out_test _ _ _).0 e)))

pub returns-then-u-v-clause-line_read : goal.returns-then-u-v-clause-line_read
returns-then-u-v-clause-line_read c =
    let w = within _ _ _ c.if-u-eq0.false c.if-n-u.false c.if-v-eq0.false c.if-n-v.false in
    faulty (at_fault _ (past-36 _ _ _ (rw c.in-Passed.is) (rw c.in-Passed.is w)) (eq-eqb _ _ c.if-u-v.true))

pub returns-clause-line_read : goal.returns-clause-line_read
returns-clause-line_read c =
    let w = within _ _ _ c.if-u-eq0.false c.if-n-u.false c.if-v-eq0.false c.if-n-v.false in
    joined c.in-Passed.is (not-out_of_range _ _ _ w c.if-u-v.false) (past_fault _ (past-36 _ _ _ (rw c.in-Passed.is) (rw c.in-Passed.is w)) (ne_eqb _ _ c.if-u-v.false)) refl refl refl refl refl
