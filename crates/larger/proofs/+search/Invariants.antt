-- `larger::search`, `larger::search_with` and `larger::search_below`: what falls is the number of candidates left, m less i. `search_with` starts after the candidate that
-- `search` hands it, and lies between this and the next `search`; so does `search_below`, which it calls.
-- Assumes nothing.
use Prim.Native.Nat.{◌+◌, ◌-◌, ◌*◌}
use Rattle.graph.specs.Held.{graph_in}
use Rattle.larger.proofs.Searching.{At}
use Rattle.larger.proofs.+search.Given as goal

-- three times the candidates left; one more once a candidate was added, and two more where it is to be added
abbrev pub decreases-search : goal.decreases-search
decreases-search l = 3 * (l.m - l.i)

abbrev pub decreases-search_below : goal.decreases-search_below
decreases-search_below l = 3 * (l.m - l.i) + 1

abbrev pub decreases-search_with : goal.decreases-search_with
decreases-search_with l = 3 * (l.m - l.i) + 2

abbrev pub invariant-search-loop-j : goal.invariant-search-loop-j
invariant-search-loop-j l = At (graph_in l.lent.table) l.initial.work l.q l.y l.low l.i l.m l.left l.work l.still l.j
