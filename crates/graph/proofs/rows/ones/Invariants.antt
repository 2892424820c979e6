-- `graph::ones` meets its contract: the sum is the ones of the numbers that were passed.
-- Assumes nothing.
use Rattle.std.proofs.Common.{◌≡◌, ◌≤◌, ◌*◌, take}
use Rattle.theory.specs.Ones.{ones_of}
use Rattle.graph.proofs.rows.ones.Given as goal

abbrev pub invariant-loop-number : goal.invariant-loop-number
invariant-loop-number l = (l.sum ≡ ones_of (take l.number-index l.row)) × (l.sum ≤ 64 * l.number-index)
