-- `state::State::left_once_taken` meets its contract: part 2 holds the ranks that were passed and are adjacent to d.
-- Assumes nothing.
use Prim.Native.Nat.{◌*◌, ◌≤◌}
use Rattle.model.specs.Below.{passing}
use Rattle.model.specs.Listing.{adjacent}
use Rattle.theory.specs.Parts.{Filled}
use Rattle.ranks.specs.Held.{ranked_graph}
use Rattle.state.proofs.State.left_once_taken.Given as goal

abbrev pub invariant-loop-i : goal.invariant-loop-i
invariant-loop-i l =
    let n = l.g.lent.table.n in
    (l.m ≤ l.i) × Filled (2 * n) (3 * n) (passing l.i (adjacent (ranked_graph l.g) l.d)) l.initial.work l.work l.m
