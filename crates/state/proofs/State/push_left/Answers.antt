-- `state::State::push_left` meets its contract: the next rank goes onto part 2 where it is adjacent to the pivot.
-- Assumes nothing.
use mathlib.Core.Path.{sym, ◌∙◌}
use native.Mathlib.Omega.{arith}
use Rattle.ranks.proofs.Ranks.{order-room, vertex_read}
use Rattle.state.proofs.StandsFor.{first_low}
use Rattle.state.proofs.RankPushed.{neighbour_pushed, other_pushed}
use Rattle.state.proofs.State.push_left.Goals as goal

pub returns-then-self-eq0 : goal.returns-then-self-eq0
returns-then-self-eq0 c =
    let q = c.requires in
    other_pushed q.1.1 (λ h. absurd (omega arith))

pub vertex_at-v-requires : goal.vertex_at-v-requires
vertex_at-v-requires c = (order-room c.requires.0, c.requires.1.1)

pub joined-requires : goal.joined-requires
joined-requires c =
    let q = c.requires in
    (omega (arith, first_low q.1.0.1 (omega arith), c.from-p.ensures), (vertex_read q.0 c.vertex_at-v.ensures).1)

pub returns-then-joined : goal.returns-then-joined
returns-then-joined c =
    let q = c.requires in
    neighbour_pushed q.1.1 (omega arith) c.from-p.ensures (vertex_read q.0 c.vertex_at-v.ensures).0 (sym c.joined.ensures ∙ c.if-joined.true)

pub returns : goal.returns
returns c =
    let q = c.requires in
    other_pushed q.1.1 (λ h. (_, _, c.from-p.ensures, (vertex_read q.0 c.vertex_at-v.ensures).0, sym c.joined.ensures ∙ c.if-joined.false))
