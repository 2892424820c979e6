-- `graph::Table::fill_degrees` meets its contract.
-- Assumes nothing.
use Prim.Native.Nat.{◌≤◌}
use native.Mathlib.Omega.{arith}
use Rattle.theory.proofs.Graph.DegreeList.{degree_list-only}
use Rattle.graph.proofs.RowBounds.{table-degree}
use Rattle.graph.proofs.table.Table.fill_degrees.Goals as goal

pub overflow_cast-degree : goal.overflow_cast-degree
overflow_cast-degree c =
    let t = c.args.self.now in
    let k : c.degree.result ≤ t.n = rw c.degree.ensures (table-degree _ _ _) in
    omega (arith, t.fits.small)

pub returns : goal.returns
returns c =
    let i = c.loop-u.invariant in
    degree_list-only _ _ i.0 (λ v h. i.1 v (omega arith))
