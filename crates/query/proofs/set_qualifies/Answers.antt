-- `query::set_qualifies` meets its contract: each return goes by what the steps before it gave.
-- Assumes nothing.
use Rattle.std.proofs.Common.{sym, ◌∙◌, rules}
use Rattle.query.proofs.Qualifying.{accepted, work-fits, long, holds-members, same-part, members-vertices, members-few, decide_empty, decide_apart, Counted, small-numbers, decide_open, beaten_asks, decide_beaten}
use Rattle.query.proofs.set_qualifies.Goals as goal
use Rattle.query.proofs.set_qualifies.Goals.{After-tally_of-y}

pub members_of-k-requires : goal.members_of-k-requires
members_of-k-requires c = work-fits c.requires

pub slice_bounds-members-end : goal.slice_bounds-members-end
slice_bounds-members-end c =
    let l = long c.requires c.members_of-k.ensures in
    let e = (accepted c.requires).long in
    search rules

pub returns-then-k-eq0 : goal.returns-then-k-eq0
returns-then-k-eq0 c = decide_empty c.requires c.members_of-k.ensures c.if-k-eq0.true

pub pairwise_joined-requires : goal.pairwise_joined-requires
pairwise_joined-requires c = members-vertices c.requires c.members_of-k.ensures

pub returns-then-not-pairwise_joined : goal.returns-then-not-pairwise_joined
returns-then-not-pairwise_joined c =
    decide_apart c.requires c.members_of-k.ensures c.if-k-eq0.false (rw (same-part c.requires c.members_of-k.ensures) at (sym c.pairwise_joined.ensures ∙ c.if-not-pairwise_joined.true))

pub tally_of-y-requires-clause-members_fit : goal.tally_of-y-requires-clause-members_fit
tally_of-y-requires-clause-members_fit c = rw c.args.lent.now.listed.whole (members-few c.requires c.members_of-k.ensures)

pub tally_of-y-requires-clause-vertices : goal.tally_of-y-requires-clause-vertices
tally_of-y-requires-clause-vertices c = rw c.args.lent.now.listed.whole (members-vertices c.requires c.members_of-k.ensures)

-- where the numbers are known there are members, pairwise joined
counted : (c : After-tally_of-y) → Counted c.requires c.members_of-k.ensures c.tally_of-y.result
counted c =
    let same = same-part c.requires c.members_of-k.ensures in
    record {
      some = c.if-k-eq0.false;
      joined = rw same at (sym c.pairwise_joined.ensures ∙ c.if-not-pairwise_joined.false);
      tallies = rw (same, c.args.lent.now.listed.whole) at c.tally_of-y.ensures;
    }

pub isolates-requires : goal.isolates-requires
isolates-requires c = small-numbers _ _ (counted (goal.at.isolates-requires c).After-tally_of-y)

pub returns-then-not-isolates : goal.returns-then-not-isolates
returns-then-not-isolates c = decide_open _ _ (counted (goal.at.returns-then-not-isolates c).After-tally_of-y) (sym c.isolates.ensures ∙ c.if-not-isolates.true)

pub common_neighbours-m-requires : goal.common_neighbours-m-requires
common_neighbours-m-requires c = holds-members c.requires c.members_of-k.ensures

pub beaten-requires : goal.beaten-requires
beaten-requires c =
    let asks = beaten_asks _ _ (counted (goal.at.beaten-requires c).After-tally_of-y) c.common_neighbours-m.ensures in
    record { parts = asks.0; posed = asks.1 }

pub returns : goal.returns
returns c =
    decide_beaten _ _ (counted (goal.at.returns c).After-tally_of-y) c.common_neighbours-m.ensures (sym c.isolates.ensures ∙ c.if-not-isolates.false) c.beaten.ensures
