-- What the table and the lent graph hold that a call makes of its arguments.
-- Assumes nothing.
use Rattle.std.specs.Prelude.{ℕ, ◌≡◌, List}
use Rattle.graph.specs.declared.table.Table.{Table}
use Rattle.graph.specs.declared.lent.Lent.{Lent}

-- the table has these numbers, for a graph on n vertices
pub record TableOf (n : ℕ) (held : List ℕ) (t : Table) : Type 0 where
  pub vertices : t.n ≡ n
  pub numbers : t.numbers.now ≡ held

-- and the list beside it these degrees
pub record LentAs (n : ℕ) (held listed : List ℕ) (l : Lent) : Type 0 where
  pub table : TableOf n held l.table
  pub degrees : l.degrees.now ≡ listed
