-- `state::State::push_taken` meets its contract: the next rank and its vertex come last in parts 0 and 1.
-- Assumes nothing.
use native.Mathlib.Omega.{arith}
use mathlib.Core.Path.{refl, ◌∙◌}
use Rattle.graph.proofs.Vertices.{part-vertices}
use Rattle.ranks.specs.Held.{ranked_graph}
use Rattle.state.proofs.Vertices.{vertices-lent, part-misses}
use Rattle.state.proofs.StandsFor.{vertex_low, sum-small}
use Rattle.state.proofs.RankPushed.{taken_pushed}
use Rattle.state.proofs.State.push_taken.Goals as goal

pub misses_one-requires-clause-vertices : goal.misses_one-requires-clause-vertices
misses_one-requires-clause-vertices c =
    rw (vertices-lent c.args.work.now c.args.g.now.lent.table.n c.args.self.taken) (part-vertices _ _ _ _ (vertex_low c.requires.0.1))

pub overflow_add-result-3 : goal.overflow_add-result-3
overflow_add-result-3 c =
    let q = c.requires in
    let small = c.args.g.now.lent.table.fits.small in
    omega (arith, sum-small small q.0.1, c.degree-degree.ensures.1)

pub returns : goal.returns
returns c =
    let q = c.requires in
    let lent = vertices-lent c.args.work.now c.args.g.now.lent.table.n c.args.self.taken in
    let misses = part-misses c.args.work.now _ c.args.self.taken (omega (arith, q.0.1.room, q.0.1.taken-bound, q.1)) (ranked_graph c.args.g.now) _ in
    taken_pushed q.1 c.vertex_at-v.ensures.0 c.degree-degree.ensures.0
    refl ((rw lent at c.misses_one.ensures) ∙ misses) c.left_once_taken-left.ensures
