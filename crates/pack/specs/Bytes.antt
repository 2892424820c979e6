-- The byte table as a call lends it.
-- Assumes nothing.
use Rattle.std.specs.Prelude.{ℕ, ◌*◌, ◌≤◌, ◌≡◌, Bool, not, List, length}
use Rattle.std.specs.Bool.{beq}
use Rattle.model.specs.Graph.{Graph}

-- Document 01, "Graph and ranks": n is at most 1,024 and the table has n × n bytes
pub record ByteFits (n : ℕ) (t : List ℕ) : Type 0 where
  pub small : n ≤ 1024
  pub whole : length t ≡ n * n

-- u is joined to v and v is not joined to u, or the other way round
abbrev pub differ : Graph → ℕ → ℕ → Bool
differ G u v = not (beq (G.joined u v) (G.joined v u))
