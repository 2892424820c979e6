-- `graph::Table::load_block` meets its contract.
-- Assumes nothing.
use Prim.Native.Nat.{◌+◌, ◌*◌}
use native.Mathlib.Omega.{arith}
use Rattle.model.specs.Graph.{packed_number}
use Rattle.theory.proofs.Graph.DegreeList.{listed-only}
use Rattle.graph.specs.Held.{graph_in}
use Rattle.graph.proofs.table.Table.load_block.Goals as goal

pub returns : goal.returns
returns c =
    let i = c.loop-r.invariant in
    listed-only (λ r. packed_number (graph_in c.args.self.now) (64 * c.args.i + r) c.args.j) 64 _ i.0 (λ v h. i.1 v (omega arith))
