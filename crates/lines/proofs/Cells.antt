-- The two cells of a pair. Assumes nothing.
use Prim.Native.Nat.{ℕ, ◌+◌, ◌*◌, ◌-◌, ◌<◌}
use native.Mathlib.Omega.{arith}
use Rattle.model.specs.EdgeText.{Ends}
use Rattle.theory.proofs.Graph.Table.{row_end}

-- the cell of a pair is within the table
pub cell : {n u v : ℕ} → Ends n u v → (u - 1) * n + (v - 1) < n * n
cell {n} {u} {v} h = omega (arith, row_end n (u - 1) (omega (arith, h.u_from, h.u_to)), h.v_from, h.v_to)
