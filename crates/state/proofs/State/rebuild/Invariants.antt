-- `state::State::rebuild` meets its contract: the state stands for the position with the ranks that were not passed opened.
-- Assumes nothing.
use mathlib.Core.Path.{◌≡◌}
use Rattle.ranks.specs.Held.{ranked_graph}
use Rattle.state.specs.State.{Stands}
use Rattle.state.proofs.Opened.{opened}
use Rattle.state.proofs.State.rebuild.Given as goal

abbrev pub invariant-loop-mark : goal.invariant-loop-mark
invariant-loop-mark l =
    (l.s.decided ≡ l.mark-index) × Stands (ranked_graph l.g) (opened l.mark-index l.position) l.work l.s
