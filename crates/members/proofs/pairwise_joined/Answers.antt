-- `members::pairwise_joined` meets its contract: each member that was passed is joined to all before it.
-- Assumes nothing.
use Rattle.std.proofs.Common.{sym, ◌∙◌, arith}
use Rattle.members.proofs.Listed.{pairs_apart, pairs_all}
use Rattle.members.proofs.pairwise_joined.Goals as goal

pub returns-then-not-joined_to_all : goal.returns-then-not-joined_to_all
returns-then-not-joined_to_all c = sym (pairs_apart _ _ c.loop-i.i c.loop-i-test.true (rw (← c.from.ensures) (sym c.joined_to_all.ensures ∙ c.if-not-joined_to_all.true)))

pub returns : goal.returns
returns c = sym (pairs_all _ _ (λ k h. c.loop-i.invariant k (omega arith)))
