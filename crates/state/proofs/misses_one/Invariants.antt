-- `state::misses_one` meets its contract: the loop goes over all vertices, and those that were passed, from the last on, are joined to v.
-- Assumes nothing.
use Rattle.std.proofs.Common.{ℕ, ◌-◌, ◌≤◌, ◌<◌, ◌≡◌, not, false, length, get_or}
use Rattle.std.specs.Iterator.Adapters.{rev_source}
use Rattle.std.specs.Slice.Iter.{iter_rest}
use Rattle.graph.specs.Held.{graph_in}
use Rattle.state.proofs.misses_one.Given as goal

abbrev pub invariant-loop-u : goal.invariant-loop-u
invariant-loop-u l =
    (iter_rest (rev_source l.initial.u-iterator) ≡ l.vertices) × ((j : ℕ) → length l.vertices - length l.yielded ≤ j → j < length l.vertices → not ((graph_in l.table).joined (get_or l.vertices j 0) l.v) ≡ false)
