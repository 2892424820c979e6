-- `graph::swap_round` meets its contract: the pairs of rows that were passed have exchanged their halves.
-- Assumes nothing.
use Rattle.std.proofs.Common.{◌≡◌, length}
use Rattle.graph.proofs.SwappedRows.{SwappedBelow}
use Rattle.graph.proofs.blocks.swap_round.Given as goal

abbrev pub invariant-loop-r : goal.invariant-loop-r
invariant-loop-r l = (length l.block ≡ 64) × SwappedBelow l.s l.r l.initial.block l.block
