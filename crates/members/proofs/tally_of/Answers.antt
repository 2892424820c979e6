-- `members::tally_of` meets its contract: the numbers are those of the members that were passed.
-- Assumes nothing.
use Rattle.std.proofs.Common.{ap, arith}
use Rattle.isolation.specs.declared.Tally.{Tally}
use Rattle.members.proofs.Listed.{tallies_none, tallies_more, tallies_all}
use Rattle.members.proofs.tally_of.Goals as goal

pub loop-v-init : goal.loop-v-init
loop-v-init c = (omega arith, omega arith, tallies_none _ _ _)

pub loop-v-preserved : goal.loop-v-preserved
loop-v-preserved c =
    let e = c.with_member-y.ensures in
    let k = ap (λ (x : Tally). x.members) e in
    let s = ap (λ (x : Tally). x.sum) e in
    (omega arith, omega arith, tallies_more _ _ _ c.loop-v.v-index c.loop-v-test.true c.loop-v.invariant.2 c.from.ensures c.degree_at.ensures e)

pub returns : goal.returns
returns c = tallies_all _ _ _ c.loop-v.v-index (omega arith) (omega arith) c.loop-v.invariant.2
