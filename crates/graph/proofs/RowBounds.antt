-- The rows of a table and the degrees of the graph that it holds.
-- Assumes nothing.
use Prim.Native.Nat.{ℕ, ◌+◌, ◌-◌, ◌*◌, ◌≤◌}
use mathlib.Core.List.{List}
use mathlib.Core.Path.{◌≡◌, ap}
use native.Mathlib.Omega.{arith}
use lib.ListN.{take, drop}
use Rattle.model.specs.Graph.{row_length, by_packed, degree}
use Rattle.theory.proofs.Graph.Packed.{row_length-is}
use Rattle.theory.proofs.Graph.Degrees.{degree_le}

-- a row has at most 16 numbers
pub row-short : (n : ℕ) → n ≤ 1024 → row_length n ≤ 16
row-short n h = omega (arith, row_length-is n)

-- the row of u as a part of the table, as it is lent to `ones`
pub row-part : (n : ℕ) (t : List ℕ) (u : ℕ) → take (u * row_length n + row_length n - u * row_length n) (drop (u * row_length n) t) ≡ take (row_length n) (drop (u * row_length n) t)
row-part n t u = let e : u * row_length n + row_length n - u * row_length n ≡ row_length n = omega arith in ap (λ (k : ℕ). take k (drop (u * row_length n) t)) e

-- a degree is at most n
pub table-degree : (n : ℕ) (t : List ℕ) (u : ℕ) → degree (by_packed n t) u ≤ n
table-degree n t u = degree_le (by_packed n t) u
