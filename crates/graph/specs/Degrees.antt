-- The list of the degrees of a graph, as a call lends it: an entry for each vertex.
-- Assumes nothing.
use Rattle.std.specs.Prelude.{ℕ, ◌≤◌, ◌<◌, ◌≡◌, List, length, get_or}
use Rattle.model.specs.Graph.{Graph, degree}

-- n is at most 1,024 and the list has an entry for each vertex
pub record DegreesFit (n : ℕ) (d : List ℕ) : Type 0 where
  pub small : n ≤ 1024
  pub whole : length d ≡ n

-- the list holds the degrees of a graph of n vertices
abbrev pub HoldsDegrees : ℕ → Graph → List ℕ → Type 0
HoldsDegrees n G d = (v : ℕ) → v < n → get_or d v 0 ≡ degree G v

-- what `degree_at` reads: the entry of vertex v, which is its degree in every graph of n vertices whose degrees the list holds
pub record ReadsDegree (n : ℕ) (d : List ℕ) (v x : ℕ) : Type 0 where
  pub entry : x ≡ get_or d v 0
  pub small : x ≤ 65535
  pub degree : (G : Graph) → G.size ≡ n → HoldsDegrees n G d → (x ≡ degree G v) × (x ≤ n)
