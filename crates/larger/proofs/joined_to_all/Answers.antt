-- `larger::joined_to_all` meets its contract: v is joined to each vertex that was passed.
-- Assumes nothing.
use Rattle.std.proofs.Common.{sym, ◌∙◌, arith}
use Rattle.theory.proofs.Search.Candidates.{joined_test, joined-apart}
use Rattle.larger.proofs.joined_to_all.Goals as goal

pub returns-then-not-joined : goal.returns-then-not-joined
returns-then-not-joined c =
    sym (joined-apart _ _ _ c.loop-u.u-index c.loop-u-test.true (rw (← c.from.ensures) (sym c.joined.ensures ∙ c.if-not-joined.true)))

pub returns : goal.returns
returns c = sym ((joined_test _ _ _).1 (λ k h. c.loop-u.invariant k (omega arith)))
